use Prim.Native.Nat.{◌<◌, ◌^◌}
use mathlib.Core.Path.{◌≡◌}
use lib.ListN.{drop}
use Rattle.text.specs.Decimal.{read_number}
use Rattle.text.proofs.DecimalLaws.{goes_on}
use Rattle.text.proofs.read_number.Given as goal

abbrev pub invariant-loop-sign : goal.invariant-loop-sign
invariant-loop-sign l = (l.number < 2 ^ 32) × (read_number l.text ≡ goes_on l.number (drop l.sign-index l.text))
