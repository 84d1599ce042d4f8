-- What a community asks for: each arm's type is one of the definition's, and the last arm has the rest.
use mathlib.Core.Path.{ap, sym}
use mathlib.Core.Bool.{true, false}
use borrow.Author.Rules.{rules}
use Rattle.action.specs.Reading.{kind_of}
use Rattle.action.proofs.Communities.{last-kind}
use Rattle.action.proofs.kind_of.Goals as goal

pub returns-in-32774 : goal.returns-in-32774
unfolding kind_of
returns-in-32774 c = ap kind_of (sym c.in-32774.is)

pub returns-in-32780 : goal.returns-in-32780
unfolding kind_of
returns-in-32780 c = ap kind_of (sym c.in-32780.is)

pub returns-in-32775 : goal.returns-in-32775
unfolding kind_of
returns-in-32775 c = ap kind_of (sym c.in-32775.is)

pub returns-in-32777 : goal.returns-in-32777
unfolding kind_of
returns-in-32777 c = ap kind_of (sym c.in-32777.is)

pub returns-then-is_redirect : goal.returns-then-is_redirect
returns-then-is_redirect c = last-kind _ true (search rules) (search rules) (search rules) (search rules) (cc)

pub returns-else-is_redirect : goal.returns-else-is_redirect
returns-else-is_redirect c = last-kind _ false (search rules) (search rules) (search rules) (search rules) (cc)
