-- No match and another originator are refused, and then the neighbour ASes decide.
use Rattle.route.proofs.PassLaws.{no-match, other-originator, by-neighbour}
use borrow.Author.Rules.{rules}
use Rattle.route.proofs.is_validated.Goals as goal

pub returns-in_default : goal.returns-in_default
returns-in_default c = search (no-match, rules)

pub returns-then-not-originates : goal.returns-then-not-originates
returns-then-not-originates c = search (other-originator, rules)

pub returns : goal.returns
returns c = search (by-neighbour, rules)
