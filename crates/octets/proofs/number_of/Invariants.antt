use Prim.Native.Nat.{◌≤◌, ◌<◌, ◌^◌}
use mathlib.Core.Path.{◌≡◌}
use lib.ListN.{length}
use Rattle.octets.specs.Number.{number_at}
use Rattle.octets.proofs.number_of.Given as goal

abbrev pub invariant-loop-octet : goal.invariant-loop-octet
invariant-loop-octet l = (l.octet-index ≤ length l.s) × (l.number ≡ number_at l.octet-index l.s 0) × (l.number < 256 ^ l.octet-index)
