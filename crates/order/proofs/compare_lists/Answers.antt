-- The components passed tie, so that the order of both values is the order of what is left of them.
use borrow.Author.Rules.{rules}
use mathlib.Core.Path.{refl}
use native.Mathlib.Omega.{arith}
use Rattle.rule.specs.Value.{components}
use Rattle.order.proofs.TurnLaws.{lists-decided, lists-tied, lists-ahead}
use Rattle.order.proofs.compare_lists.Goals as goal

pub loop-order-init : goal.loop-order-init
unfolding components
loop-order-init c = refl

pub returns-in-Decided : goal.returns-in-Decided
returns-in-Decided c = search (lists-decided, rules)

pub loop-order-smaller : goal.loop-order-smaller
loop-order-smaller c = omega (arith, lists-ahead _ _ c.loop-order.at _ _ _ _ c.compare_next-turn.ensures _ c.loop-order.invariant _ _ _ c.in-Tied.is)

pub loop-order-preserved : goal.loop-order-preserved
loop-order-preserved c = search (lists-tied, rules)
