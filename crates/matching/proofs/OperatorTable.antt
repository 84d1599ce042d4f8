-- The RFC's tables of operators: what the three comparison bits give together, and the four bitmask tests. Assumes nothing.
use mathlib.Core.Path.{◌≡◌, refl}
use mathlib.Core.Bool.{Bool, true, false, not, ◌&&◌, ◌||◌, not-not}
use mathlib.Core.List.{List, [], ◌∷◌, map}
use Prim.Native.Nat.{ℕ}
use native.Mathlib.Omega.{arith}
use native.Mathlib.Decide.{dec_lt}
use lib.Bits.{bit_and}
use lib.Dec.{leb, ltb, eqb}
use borrow.Author.Tests.{lt-ltb, le-ltb, le-leb, lt-leb, eq-eqb, ne_eqb}
use Rattle.octets.specs.Bit.{has}
use Rattle.matching.specs.Operator.{numeric_holds, bitmask_holds}

-- how two numbers compare: less, greater, equal, at most, at least
data Compared : Bool → Bool → Bool → Bool → Bool → Type 0 where
  less : Compared true false false true false
  greater : Compared false true false false true
  equal : Compared false false true true true

compared : (a b : ℕ) → Compared (ltb a b) (ltb b a) (eqb a b) (leb a b) (leb b a)
compared a b =
    elim (dec_lt a b) [
      | yes h ↦ simp (lt-ltb a b h, le-ltb b a (omega arith), ne_eqb a b (λ e. omega arith), le-leb a b (omega arith), lt-leb b a h) less
      | no h ↦
          elim (dec_lt b a) [
            | yes k ↦ simp (le-ltb a b (omega arith), lt-ltb b a k, ne_eqb a b (λ e. omega arith), lt-leb a b k, le-leb b a (omega arith)) greater
            | no k ↦ simp (le-ltb a b (omega arith), le-ltb b a (omega arith), eq-eqb a b (omega arith), le-leb a b (omega arith), le-leb b a (omega arith)) equal
          ]
    ]

-- the eight comparisons, in terms of the three tests
spelled : {l g e m n : Bool} → Compared l g e m n
    → map (λ k. has k 0x04 && l || has k 0x02 && g || has k 0x01 && e) (0 ∷ 1 ∷ 2 ∷ 3 ∷ 4 ∷ 5 ∷ 6 ∷ 7 ∷ [])
    ≡ false ∷ e ∷ g ∷ n ∷ l ∷ m ∷ not e ∷ true ∷ []
spelled less = refl
spelled greater = refl
spelled equal = refl

-- section 4.2.1.1, Table 1: what lt, gt and eq give together, from none of them to all
abbrev pub comparison_tests : ℕ → ℕ → List Bool
comparison_tests «data» value =
    false
    ∷ eqb «data» value
    ∷ ltb value «data»
    ∷ leb value «data»
    ∷ ltb «data» value
    ∷ leb «data» value
    ∷ not (eqb «data» value)
    ∷ true
    ∷ []

-- the numeric operators of the eight comparisons
abbrev pub numeric_rows : ℕ → ℕ → List Bool
numeric_rows «data» value = map (λ operator. numeric_holds operator «data» value) (0 ∷ 1 ∷ 2 ∷ 3 ∷ 4 ∷ 5 ∷ 6 ∷ 7 ∷ [])

pub comparisons : («data» value : ℕ) → numeric_rows «data» value ≡ comparison_tests «data» value
unfolding numeric_holds
comparisons «data» value = spelled (compared «data» value)

-- section 4.2.1.2: any bit of the value, all of them, and the negation of each
abbrev pub mask_tests : ℕ → ℕ → List Bool
mask_tests «data» value =
    not (eqb (bit_and «data» value) 0)
    ∷ eqb (bit_and «data» value) value
    ∷ eqb (bit_and «data» value) 0
    ∷ not (eqb (bit_and «data» value) value)
    ∷ []

-- the bitmask operators of the four tests
abbrev pub mask_rows : ℕ → ℕ → List Bool
mask_rows «data» value = map (λ operator. bitmask_holds operator «data» value) (0 ∷ 1 ∷ 2 ∷ 3 ∷ [])

pub masks : («data» value : ℕ) → mask_rows «data» value ≡ mask_tests «data» value
unfolding bitmask_holds
masks «data» value = rw (not-not (eqb (bit_and «data» value) 0))
