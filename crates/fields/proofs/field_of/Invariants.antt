-- Fields are passed tab by tab: the place stays within the line.
use Prim.Native.Nat.{◌≤◌}
use lib.ListN.{length}
use Rattle.fields.proofs.field_of.Given as goal

abbrev pub invariant-loop : goal.invariant-loop
invariant-loop l = l.at ≤ length l.line
