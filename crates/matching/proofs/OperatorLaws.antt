-- Operators: the low bits decide, so that each return of the code is a row of a table. Assumes nothing.
use mathlib.Core.Path.{◌≡◌, refl, sym, ap, ◌∙◌}
use mathlib.Core.Bool.{Bool, true}
use mathlib.Core.List.{List}
use Prim.Native.Nat.{ℕ, ◌+◌, ◌<◌, ◌≤◌}
use native.Mathlib.Omega.{arith}
use lib.Bits.{bit_and, and_le_r}
use lib.Dec.{eqb}
use lib.ListN.{get_or}
use Rattle.octets.proofs.Facts.{all_below, octet}
use Rattle.matching.specs.Operator.{numeric_holds, bitmask_holds}
use Rattle.matching.proofs.OperatorTable.{comparison_tests, numeric_rows, comparisons, mask_tests, mask_rows, masks}

-- a test of an octet that hangs on the bits of a mask alone
module _ (mask : ℕ) (holds : ℕ → Bool) (low : (x : ℕ) → x < 256 → holds (bit_and x mask) ≡ holds x) where
  -- it holds alike of octets that have these bits in common
  alike : (x y : ℕ) → x < 256 → y < 256 → bit_and x mask ≡ bit_and y mask → holds x ≡ holds y
  alike x y small fits e = sym (low x small) ∙ ap holds e ∙ low y fits

  -- and is the row of a table, at a k for which the row computes
  row : (rows tests : List Bool) → rows ≡ tests → (x : ℕ) → x < 256 → (k : ℕ) → get_or rows k true ≡ holds k → bit_and x mask ≡ k → get_or tests k true ≡ holds x
  row rows tests table x small k is e = ap (λ (l : List Bool). get_or l k true) (sym table) ∙ is ∙ ap holds (sym e) ∙ low x small

-- a mask keeps these bits of every octet
abbrev pub Keeps : ℕ → ℕ → Type 0
Keeps mask bits = all_below 256 (λ y. eqb (bit_and (bit_and y mask) bits) (bit_and y bits)) ≡ true

pub kept : (mask bits : ℕ) → Keeps mask bits → (x : ℕ) → x < 256 → bit_and (bit_and x mask) bits ≡ bit_and x bits
kept mask bits = octet (λ y. bit_and (bit_and y mask) bits) (λ y. bit_and y bits)

module _ («data» value : ℕ) where
  -- a numeric operator is its low three bits
  numeric-low : (x : ℕ) → x < 256 → numeric_holds (bit_and x 7) «data» value ≡ numeric_holds x «data» value
  unfolding numeric_holds
  numeric-low x small = rw (kept 7 4 refl x small, kept 7 2 refl x small, kept 7 1 refl x small)

  pub numeric-alike : (x y : ℕ) → x < 256 → y < 256 → bit_and x 7 ≡ bit_and y 7 → numeric_holds x «data» value ≡ numeric_holds y «data» value
  numeric-alike = alike 7 (λ x. numeric_holds x «data» value) numeric-low

  -- a bitmask operator is its low two bits
  mask_low : (x : ℕ) → x < 256 → bitmask_holds (bit_and x 3) «data» value ≡ bitmask_holds x «data» value
  unfolding bitmask_holds
  mask_low x small = rw (kept 3 2 refl x small, kept 3 1 refl x small)

  pub mask-alike : (x y : ℕ) → x < 256 → y < 256 → bit_and x 3 ≡ bit_and y 3 → bitmask_holds x «data» value ≡ bitmask_holds y «data» value
  mask-alike = alike 3 (λ x. bitmask_holds x «data» value) mask_low

past : (k n : ℕ) → n ≤ k → (k ≡ n → ⊥) → n + 1 ≤ k
past k n h e = omega arith

module _ (operator «data» value : ℕ) (small : operator < 256) where
  pub numeric-row : (k : ℕ) → get_or (numeric_rows «data» value) k true ≡ numeric_holds k «data» value → bit_and operator 7 ≡ k
      → get_or (comparison_tests «data» value) k true ≡ numeric_holds operator «data» value
  numeric-row = row 7 (λ x. numeric_holds x «data» value) (numeric-low «data» value) (numeric_rows «data» value) (comparison_tests «data» value) (comparisons «data» value) operator small

  -- none of the rows before the last
  pub numeric-last : (bit_and operator 7 ≡ 0 → ⊥) → (bit_and operator 7 ≡ 1 → ⊥) → (bit_and operator 7 ≡ 2 → ⊥) → (bit_and operator 7 ≡ 3 → ⊥)
      → (bit_and operator 7 ≡ 4 → ⊥) → (bit_and operator 7 ≡ 5 → ⊥) → (bit_and operator 7 ≡ 6 → ⊥) → true ≡ numeric_holds operator «data» value
  numeric-last n0 n1 n2 n3 n4 n5 n6 =
      let k = bit_and operator 7 in
      let seven = past k 6 (past k 5 (past k 4 (past k 3 (past k 2 (past k 1 (past k 0 (omega arith) n0) n1) n2) n3) n4) n5) n6 in
      numeric-row 7 refl (omega (arith, and_le_r operator 7, seven))

  pub mask-row : (k : ℕ) → get_or (mask_rows «data» value) k true ≡ bitmask_holds k «data» value → bit_and operator 3 ≡ k
      → get_or (mask_tests «data» value) k true ≡ bitmask_holds operator «data» value
  mask-row = row 3 (λ x. bitmask_holds x «data» value) (mask_low «data» value) (mask_rows «data» value) (mask_tests «data» value) (masks «data» value) operator small
