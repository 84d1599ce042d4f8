use Prim.Native.Nat.{◌-◌}
use lib.ListN.{length}
use Rattle.table.proofs.FindLaws.{Searching}
use Rattle.table.proofs.find.Given as goal

abbrev pub invariant-loop-behind : goal.invariant-loop-behind
invariant-loop-behind l = Searching l.family l.table l.value l.at

abbrev pub decreases-loop-behind : goal.decreases-loop-behind
decreases-loop-behind l = length l.table - l.at
