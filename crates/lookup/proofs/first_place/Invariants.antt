use Prim.Native.Nat.{◌-◌}
use lib.ListN.{length}
use Rattle.lookup.proofs.LookupLaws.{Missing}
use Rattle.lookup.proofs.first_place.Given as goal

abbrev pub invariant-loop-next : goal.invariant-loop-next
invariant-loop-next l = Missing l.family l.head l.table l.packet l.at

abbrev pub decreases-loop-next : goal.decreases-loop-next
decreases-loop-next l = length l.table - l.at
