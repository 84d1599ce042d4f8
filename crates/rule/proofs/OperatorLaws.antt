-- The operator octet: the size that its bits give, computed at all 256. Assumes nothing.
use mathlib.Core.Path.{◌≡◌, refl}
use Prim.Native.Nat.{ℕ, ◌*◌, ◌/◌, ◌%◌, ◌^◌, ◌≤◌, ◌<◌}
use lib.Bits.{bit_and}
use lib.Dec.{leb, ltb}
use lib.Pow.{pow_pos}
use borrow.Author.Tests.{leb-true, ltb-true}
use Rattle.octets.proofs.Facts.{below, octet}
use Rattle.rule.specs.Operator.{size_of}

module _ (x : ℕ) (small : x < 256) where
  pub exponent_small : bit_and x 48 / 16 < 64
  exponent_small = ltb-true _ _ (below 256 (λ y. ltb (bit_and y 48 / 16) 64) refl x small)

  pub size-shift : 1 * 2 ^ (bit_and x 48 / 16) % 2 ^ 64 ≡ size_of x
  unfolding size_of
  size-shift = octet (λ y. 1 * 2 ^ (bit_and y 48 / 16) % 2 ^ 64) size_of refl x small

  pub size_small : size_of x ≤ 8
  unfolding size_of
  size_small = leb-true _ _ (below 256 (λ y. leb (size_of y) 8) refl x small)

pub size-positive : (x : ℕ) → 1 ≤ size_of x
unfolding size_of
size-positive x = pow_pos (bit_and x 0x30 / 16)
