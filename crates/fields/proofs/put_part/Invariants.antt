-- Each turn spells the part once behind what stands already: that never passes the room.
use Prim.Native.Nat.{◌≤◌}
use lib.ListN.{length}
use Rattle.fields.proofs.put_part.Given as goal

abbrev pub invariant-loop : goal.invariant-loop
invariant-loop l = l.at ≤ length l.room
