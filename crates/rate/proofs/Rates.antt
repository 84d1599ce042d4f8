-- Laws of rates: what a single gives by its sign and the size of its exponent, as the code tells them apart, and the parts of a single by
-- masks.
use Prim.Native.Nat.{ℕ, ◌+◌, ◌*◌, ◌-◌, ◌/◌, ◌%◌, ◌^◌, ◌<◌, ◌≤◌}
use mathlib.Core.Path.{◌≡◌, refl, ap, ◌∙◌}
use mathlib.Core.Bool.{Bool, true, false, cond, not, ◌&&◌, and-eq-true_iff}
use native.Mathlib.Nat.{add-zero, zero-mul, mul_assoc, mul-div_cancel, mul-div-mul_right, mul-mod_left, mul-le-mul, mul-lt-mul_of_pos_right, mul-pos, lt_of_lt_of_le, le_of_lt, mod-eq_of_lt}
use native.Mathlib.Decide.{ℕ_discrete}
use native.Mathlib.Omega.{arith}
use borrow.Author.Tests.{eq-eqb, ne_eqb, eqb-true, eqb-false, lt-ltb, le-ltb}
use lib.Dec.{eqb, ltb, lit<, lit≤}
use lib.Arith.{mod-mul}
use lib.Bits.{bit_and, and_mask}
use lib.Pow.{pow-add, pow_mono, pow_pos, shl_lt, shl_exact, split}
use Rattle.std.proofs.Common.{Some, None}
use Rattle.rate.specs.declared.Note.TheVariants.{Exact, RoundedDown, Raised, Capped, TakenAsZero}
use Rattle.rate.specs.declared.Rate.{Rate}
use Rattle.rate.specs.Rate.{noted, scaled, whole_part, value_rate, rate_of, rate_of_parts}

-- The whole part over any unit.
abbrev pub whole_over : ℕ → ℕ → Rate
whole_over unit value = noted (value / unit) (cond (eqb (value % unit) 0) Exact RoundedDown)

-- A multiple of the unit is exact.
pub multiple : (unit n : ℕ) → 0 < unit → whole_over unit (n * unit) ≡ noted n Exact
multiple unit n p = rw (mul-div_cancel n p, mul-mod_left n unit)

zero-times : (n k : ℕ) → 0 < k → eqb (n * k) 0 ≡ eqb n 0
zero-times n k p =
    elim (ℕ_discrete n 0) [
      | yes z ↦ rw (z, zero-mul)
      | no z ↦ let q = mul-pos {m = n} {n = k} (omega arith) p in rw (ne_eqb n 0 z, ne_eqb (n * k) 0 (λ e. omega arith))
    ]

-- Value and unit taken the same number of times make no difference.
pub both-times : (unit value k : ℕ) → 0 < unit → 0 < k → whole_over (unit * k) (value * k) ≡ whole_over unit value
both-times unit value k p q =
    rw (
      mul-div-mul_right value unit q,
      mod-mul (value * k) p q,
      mul-div_cancel value q,
      mul-mod_left value k,
      add-zero,
      zero-times (value % unit) k q,
    )

-- What a value gives over any unit and any limit.
abbrev limited : Bool → ℕ → ℕ → ℕ → Rate
limited negative unit limit value =
    cond (eqb value 0) (noted 0 Exact)
    (cond negative (noted 0 TakenAsZero)
    (cond (ltb value unit) (noted 1 Raised) (cond (ltb (limit * unit) value) (noted limit Capped) (whole_over unit value))))

module _ (unit limit value : ℕ) (p : 0 < value) where
  below-zero : noted 0 TakenAsZero ≡ limited true unit limit value
  below-zero = rw (ne_eqb value 0 (λ e. omega arith))

  below-unit : value < unit → noted 1 Raised ≡ limited false unit limit value
  below-unit q = rw (ne_eqb value 0 (λ e. omega arith), lt-ltb value unit q)

  past-limit : unit ≤ value → limit * unit < value → noted limit Capped ≡ limited false unit limit value
  past-limit q r = rw (ne_eqb value 0 (λ e. omega arith), le-ltb value unit q, lt-ltb (limit * unit) value r)

  within : unit ≤ value → value ≤ limit * unit → whole_over unit value ≡ limited false unit limit value
  within q r = rw (ne_eqb value 0 (λ e. omega arith), le-ltb value unit q, le-ltb (limit * unit) value r)

-- The single by its exponent.
normal : (e f : ℕ) → 0 < e → scaled e f ≡ (2 ^ 23 + f) * 2 ^ (e - 1)
unfolding scaled
normal e f p = rw (ne_eqb e 0 (λ h. omega arith))

subnormal : (e f : ℕ) → e ≡ 0 → scaled e f ≡ f
unfolding scaled
subnormal e f z = rw (eq-eqb e 0 z)

normal-positive : (e f : ℕ) → 0 < (2 ^ 23 + f) * 2 ^ (e - 1)
normal-positive e f = mul-pos {m = 2 ^ 23 + f} (omega arith) (pow_pos (e - 1))

-- A value that is not zero.
positive : (e f : ℕ) → eqb e 0 && eqb f 0 ≡ false → 0 < scaled e f
positive e f h =
    elim (ℕ_discrete e 0) [
      | yes z ↦ let f-positive = eqb-false f 0 (rw (eq-eqb e 0 z) at h) in rw (subnormal e f z) (omega arith)
      | no z ↦ rw (normal e f (omega arith)) (normal-positive e f)
    ]

-- A value below 1.
below_one : (e f : ℕ) → f < 2 ^ 23 → e < 127 → scaled e f < 2 ^ 149
below_one e f b k =
    elim (ℕ_discrete e 0) [
      | yes z ↦ rw (subnormal e f z) (lt_of_lt_of_le b (lit≤ tt))
      | no z ↦
          rw (normal e f (omega arith))
          (lt_of_lt_of_le (shl_lt {a = 2 ^ 23 + f} 24 (e - 1) (omega arith)) (pow_mono {i = 24 + (e - 1)} {j = 149} (omega arith)))
    ]

-- A value from 1 on.
from_one : (e f : ℕ) → 127 ≤ e → 2 ^ 149 ≤ (2 ^ 23 + f) * 2 ^ (e - 1)
from_one e f h = mul-le-mul {n₁ = 2 ^ 23} {m₁ = 2 ^ 126} (omega arith) (pow_mono {i = 126} (omega arith))

-- A value below 2^63.
below-limit : (e f : ℕ) → f < 2 ^ 23 → 0 < e → e < 190 → (2 ^ 23 + f) * 2 ^ (e - 1) ≤ 2 ^ 63 * 2 ^ 149
below-limit e f b p q =
    le_of_lt (lt_of_lt_of_le (shl_lt {a = 2 ^ 23 + f} 24 (e - 1) (omega arith)) (pow_mono {i = 24 + (e - 1)} {j = 212} (omega arith)))

-- A value above 2^63, infinity among them.
above-limit : (e f : ℕ) → eqb e 190 && eqb f 0 ≡ false → 190 ≤ e → 2 ^ 63 * 2 ^ 149 < (2 ^ 23 + f) * 2 ^ (e - 1)
above-limit e f h p =
    elim (ℕ_discrete e 190) [
      | yes z ↦
          let f-positive = eqb-false f 0 (rw (eq-eqb e 190 z) at h) in
          rw z (mul-lt-mul_of_pos_right {m = 2 ^ 23} {n = 2 ^ 23 + f} {k = 2 ^ 189} (omega arith) (pow_pos 189))
      | no z ↦ lt_of_lt_of_le (lit< tt) (mul-le-mul {n₁ = 2 ^ 23} {m₁ = 2 ^ 190} (omega arith) (pow_mono {i = 190} (omega arith)))
    ]

module _ (negative : Bool) (e f : ℕ) (r : Rate) where
  -- Zero of either sign.
  pub rate-zero : r ≡ noted 0 Exact → eqb e 0 && eqb f 0 ≡ true → r ≡ value_rate negative (scaled e f)
  unfolding value_rate scaled
  rate-zero said h = let both = (and-eq-true_iff (eqb e 0) (eqb f 0)).0 h in said ∙ rw (both.0, both.1)

  -- Below zero.
  pub rate-negative : r ≡ noted 0 TakenAsZero → eqb e 0 && eqb f 0 ≡ false → negative ≡ true → r ≡ value_rate negative (scaled e f)
  unfolding value_rate
  rate-negative said h n = said ∙ rw n (below-zero (2 ^ 149) (2 ^ 63) (scaled e f) (positive e f h))

  -- Positive and below 1.
  pub rate-below-one : r ≡ noted 1 Raised → eqb e 0 && eqb f 0 ≡ false → negative ≡ false → f < 2 ^ 23 → e < 127
      → r ≡ value_rate negative (scaled e f)
  unfolding value_rate
  rate-below-one said h n b k = said ∙ rw n (below-unit (2 ^ 149) (2 ^ 63) (scaled e f) (positive e f h) (below_one e f b k))

  -- 2^63 itself.
  pub rate-limit : r ≡ noted (2 ^ 63) Exact → negative ≡ false → eqb e 190 && eqb f 0 ≡ true → r ≡ value_rate negative (scaled e f)
  unfolding value_rate scaled
  rate-limit said n h =
      let both = (and-eq-true_iff (eqb e 190) (eqb f 0)).0 h in
      said ∙ rw (n, eqb-true e 190 both.0, eqb-true f 0 both.1) refl

  -- Above 2^63.
  pub rate-past-limit : r ≡ noted (2 ^ 63) Capped → negative ≡ false → eqb e 190 && eqb f 0 ≡ false → 190 ≤ e
      → r ≡ value_rate negative (scaled e f)
  unfolding value_rate
  rate-past-limit said n h p =
      said
      ∙ rw (n, normal e f (omega arith))
      (past-limit (2 ^ 149) (2 ^ 63) _ (normal-positive e f) (from_one e f (omega arith)) (above-limit e f h p))

  -- From 1 on and below 2^63.
  pub rate-whole : r ≡ whole_part (scaled e f) → negative ≡ false → f < 2 ^ 23 → 127 ≤ e → e < 190 → r ≡ value_rate negative (scaled e f)
  unfolding value_rate
  rate-whole said n b p q =
      said
      ∙ rw (n, normal e f (omega arith))
      (within (2 ^ 149) (2 ^ 63) _ (normal-positive e f) (from_one e f p) (below-limit e f b (omega arith) q))

exponents : (e k : ℕ) → 150 ≤ e → k ≡ e - 150 → e - 1 ≡ k + 149
exponents e k p h = omega arith

-- From 2^23 on a single has nothing behind the point.
pub whole-up : (e f : ℕ) → 150 ≤ e → whole_part (scaled e f) ≡ noted ((2 ^ 23 + f) * 2 ^ (e - 150)) Exact
whole-up e f p =
    let k = e - 150 in
    let parts : (2 ^ 23 + f) * 2 ^ (e - 1) ≡ (2 ^ 23 + f) * 2 ^ k * 2 ^ 149
    = rw (exponents e k p refl, pow-add 2 k 149, ← mul_assoc) in
    ap (whole_over (2 ^ 149)) (normal e f (omega arith) ∙ parts) ∙ multiple (2 ^ 149) ((2 ^ 23 + f) * 2 ^ k) (lit< tt)

-- Below 2^23 so many digits of a single stand behind the point.
pub whole-down : (e f : ℕ) → 127 ≤ e → e < 150 → whole_part (scaled e f) ≡ whole_over (2 ^ (150 - e)) (2 ^ 23 + f)
whole-down e f p q =
    let unit : 2 ^ 149 ≡ 2 ^ (150 - e) * 2 ^ (e - 1)
    = ap (λ n. 2 ^ n) {x = 149} {y = 150 - e + (e - 1)} (omega arith) ∙ pow-add 2 (150 - e) (e - 1) in
    ap (whole_over (2 ^ 149)) (normal e f (omega arith))
    ∙ ap (λ u. whole_over u ((2 ^ 23 + f) * 2 ^ (e - 1))) unit
    ∙ both-times (2 ^ (150 - e)) (2 ^ 23 + f) (2 ^ (e - 1)) (pow_pos (150 - e)) (pow_pos (e - 1))

-- The digits before the point, shifted back.
shifted_back : (d k : ℕ) → d < 2 ^ 24 → d / 2 ^ k * 2 ^ k % 2 ^ 64 + d % 2 ^ k ≡ d
shifted_back d k b =
    let whole = split d k in
    rw (mod-eq_of_lt {n = d / 2 ^ k * 2 ^ k} {m = 2 ^ 64} (omega arith)) whole

module _ (e f : ℕ) (r : Rate) (b : f < 2 ^ 23) where
  pub rate-up : r ≡ noted ((2 ^ 23 + f) * 2 ^ (e - 150) % 2 ^ 64) Exact → 150 ≤ e → e < 190 → r ≡ whole_part (scaled e f)
  rate-up said p q = said ∙ rw (shl_exact {a = 2 ^ 23 + f} 24 (e - 150) 64 (omega arith) (omega arith), whole-up e f p)

  -- Nothing stands behind the point.
  pub rate-exact : r ≡ noted ((2 ^ 23 + f) / 2 ^ (150 - e)) Exact → 127 ≤ e → e < 150
      → (2 ^ 23 + f) / 2 ^ (150 - e) * 2 ^ (150 - e) % 2 ^ 64 ≡ 2 ^ 23 + f → r ≡ whole_part (scaled e f)
  rate-exact said p q h =
      let parts = shifted_back (2 ^ 23 + f) (150 - e) (omega arith) in
      said ∙ rw (whole-down e f p q, eq-eqb ((2 ^ 23 + f) % 2 ^ (150 - e)) 0 (omega arith))

  -- Something stands behind it.
  pub rate-rounded : r ≡ noted ((2 ^ 23 + f) / 2 ^ (150 - e)) RoundedDown → 127 ≤ e → e < 150
      → ((2 ^ 23 + f) / 2 ^ (150 - e) * 2 ^ (150 - e) % 2 ^ 64 ≡ 2 ^ 23 + f → ⊥) → r ≡ whole_part (scaled e f)
  rate-rounded said p q h =
      let parts = shifted_back (2 ^ 23 + f) (150 - e) (omega arith) in
      said ∙ rw (whole-down e f p q, ne_eqb ((2 ^ 23 + f) % 2 ^ (150 - e)) 0 (λ z. h (omega arith)))

-- The parts of a single, by shifts and masks.
pub by-masks : (single : ℕ) → rate_of_parts (single / 2 ^ 31) (bit_and (single / 2 ^ 23) 255) (bit_and single 8388607) ≡ rate_of single
unfolding rate_of
by-masks single = rw (and_mask (single / 2 ^ 23) 8, and_mask single 23)

pub not-a-number : (s e f : ℕ) → eqb e 255 && not (eqb f 0) ≡ true → None ≡ rate_of_parts s e f
unfolding rate_of_parts
not-a-number s e f h = rw h

pub a-number : (s e f : ℕ) (r : Rate) → eqb e 255 && not (eqb f 0) ≡ false → r ≡ value_rate (not (eqb s 0)) (scaled e f) → Some r ≡ rate_of_parts s e f
unfolding rate_of_parts
a-number s e f r h said = ap Some said ∙ rw h
