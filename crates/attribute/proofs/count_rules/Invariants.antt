use Prim.Native.Nat.{◌-◌}
use lib.ListN.{length}
use Rattle.attribute.proofs.CountLaws.{Counting}
use Rattle.attribute.proofs.count_rules.Given as goal

abbrev pub invariant-loop-rule : goal.invariant-loop-rule
invariant-loop-rule l = Counting l.family l.attribute l.from l.at l.count

abbrev pub decreases-loop-rule : goal.decreases-loop-rule
decreases-loop-rule l = length l.attribute - l.at
