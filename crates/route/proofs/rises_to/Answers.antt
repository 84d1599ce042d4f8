-- The high words decide, where they are equal the low ones, and then the lengths.
use Rattle.route.proofs.RouteLaws.{by_high, by-low, by_length}
use borrow.Author.Rules.{rules}
use Rattle.route.proofs.rises_to.Goals as goal

pub returns-then-one-other : goal.returns-then-one-other
returns-then-one-other c = search (by_high, rules)

pub returns-then-one-other-2 : goal.returns-then-one-other-2
returns-then-one-other-2 c = search (by-low, rules)

pub returns : goal.returns
returns c = search (by_length, rules)
