use Prim.Native.Nat.{◌-◌}
use mathlib.Core.Path.{◌≡◌}
use lib.ListN.{length}
use Rattle.octets.specs.Order.{ordered}
use Rattle.rule.specs.Value.{components}
use Rattle.order.specs.Precedence.{components_order}
use Rattle.order.specs.Turn.{components_left}
use Rattle.order.proofs.compare_lists.Given as goal

abbrev pub invariant-loop-order : goal.invariant-loop-order
invariant-loop-order l = ordered (components_order l.family (components l.family l.first) (components l.family l.second)) ≡ ordered (components_order l.family (components_left l.family l.first l.at l.previous) (components_left l.family l.second l.place l.previous))

abbrev pub decreases-loop-order : goal.decreases-loop-order
decreases-loop-order l = length l.first - l.at
