-- The lower type first, then the bodies.
use Rattle.order.proofs.TurnLaws.{order-lower, order-higher, order-bodies}
use borrow.Author.Rules.{rules}
use Rattle.order.proofs.compare_components.Goals as goal

pub returns-then-kind-other : goal.returns-then-kind-other
returns-then-kind-other c = search (order-lower, rules)

pub returns-then-other-kind : goal.returns-then-other-kind
returns-then-other-kind c = search (order-higher, rules)

pub returns : goal.returns
returns c = search (order-bodies, rules)
