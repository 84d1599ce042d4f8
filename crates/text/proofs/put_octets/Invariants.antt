use Prim.Native.Nat.{◌+◌, ◌≤◌}
use mathlib.Core.Path.{◌≡◌}
use lib.ListN.{length, drop}
use Rattle.text.specs.Print.{laid}
use Rattle.text.proofs.put_octets.Given as goal

abbrev pub invariant-loop-octet : goal.invariant-loop-octet
invariant-loop-octet l = (l.octet-index ≤ length l.s) × (l.place ≡ l.at + l.octet-index) × (length l.out ≡ length l.initial.out) × (laid l.initial.out l.at l.s ≡ laid l.out l.place (drop l.octet-index l.s))
