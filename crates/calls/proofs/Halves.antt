-- A word is taken apart again: the low 32 bits are the number and the high 32 the place. Assumes nothing.
use mathlib.Core.Path.{◌≡◌}
use Prim.Native.Nat.{ℕ, ◌/◌, ◌%◌, ◌^◌, ◌≤◌}
use native.Mathlib.Omega.{arith}
use Rattle.rule.specs.Value.{most_value}
use Rattle.rule.proofs.Near.{highest_number}
use Rattle.calls.specs.Word.{word}

module _ (number place : ℕ) (listed : number ≤ highest_number) (near : place ≤ most_value) where
  pub low_half : word number place % 2 ^ 32 ≡ number
  low_half = omega arith

  pub high_half : word number place / 2 ^ 32 ≡ place
  high_half = omega arith
