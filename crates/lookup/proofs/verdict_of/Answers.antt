-- A count of 0 is unmatched.
use borrow.Author.Rules.{rules}
use Rattle.lookup.proofs.LookupLaws.{verdict-none, verdict-some}
use Rattle.lookup.proofs.verdict_of.Goals as goal

pub returns-then-count-eq0 : goal.returns-then-count-eq0
returns-then-count-eq0 c = search (verdict-none, rules)

pub returns : goal.returns
returns c = search (verdict-some, rules)
