use Prim.Native.Nat.{◌-◌}
use mathlib.Core.Path.{◌≡◌}
use lib.ListN.{length}
use Rattle.rule.specs.Component.{pairs_from}
use Rattle.rule.proofs.list_end.Given as goal

abbrev pub invariant-loop-next : goal.invariant-loop-next
invariant-loop-next l = (pairs_from l.largest l.value l.start).ending ≡ (pairs_from l.largest l.value l.at).ending

abbrev pub decreases-loop-next : goal.decreases-loop-next
decreases-loop-next l = length l.value - l.at
