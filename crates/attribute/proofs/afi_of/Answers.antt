-- One law for each return.
use Rattle.attribute.proofs.HeadLaws.{afi-four, afi-six}
use borrow.Author.Rules.{rules}
use Rattle.attribute.proofs.afi_of.Goals as goal

pub returns-then-family-eq4 : goal.returns-then-family-eq4
returns-then-family-eq4 c = search (afi-four, rules)

pub returns : goal.returns
returns c = search (afi-six, rules)
