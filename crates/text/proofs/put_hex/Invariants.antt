use Prim.Native.Nat.{◌+◌, ◌*◌, ◌<◌, ◌≤◌, ◌^◌}
use mathlib.Core.Path.{◌≡◌}
use lib.ListN.{length, drop}
use Rattle.text.specs.Hex.{hex_of}
use Rattle.text.specs.Print.{laid}
use Rattle.text.proofs.put_hex.Given as goal

abbrev pub invariant-loop-octet : goal.invariant-loop-octet
invariant-loop-octet l = (l.at + 2 * length l.s < 2 ^ 64) × (l.octet-index ≤ length l.s) × (l.place ≡ l.at + 2 * l.octet-index) × (length l.out ≡ length l.initial.out) × (laid l.initial.out l.at (hex_of l.s) ≡ laid l.out l.place (hex_of (drop l.octet-index l.s)))
