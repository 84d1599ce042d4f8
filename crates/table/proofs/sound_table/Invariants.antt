use Prim.Native.Nat.{◌-◌}
use lib.ListN.{length}
use Rattle.table.proofs.TestLaws.{Testing}
use Rattle.table.proofs.sound_table.Given as goal

abbrev pub invariant-loop-next : goal.invariant-loop-next
invariant-loop-next l = Testing l.family l.table l.previous l.at

abbrev pub decreases-loop-next : goal.decreases-loop-next
decreases-loop-next l = length l.table - l.at
