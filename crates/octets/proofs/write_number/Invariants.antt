use Prim.Native.Nat.{◌≤◌}
use mathlib.Core.Path.{◌≡◌}
use lib.ListN.{length}
use Rattle.octets.specs.Number.{octets_of}
use Rattle.octets.specs.Store.{stored}
use Rattle.octets.proofs.write_number.Given as goal

abbrev pub invariant-loop-i : goal.invariant-loop-i
invariant-loop-i l = (l.i ≤ l.n) × (length l.buffer ≡ length l.initial.buffer) × (stored l.initial.buffer l.at (octets_of l.n l.number) ≡ stored l.buffer l.at (octets_of l.i l.rest))
