-- Laws of the pairs of a number and a note that rates give: what one halving does, that every rate read passes (`complete`), and that
-- every pair that passes is read from some single (`sound`).
use Prim.Native.Nat.{ℕ, zero, suc, ◌+◌, ◌*◌, ◌-◌, ◌/◌, ◌%◌, ◌^◌, ◌<◌, ◌≤◌}
use mathlib.Core.Path.{◌≡◌, refl, sym, ap, ◌∙◌}
use mathlib.Core.Bool.{Bool, true, false, true≢false, not, ◌&&◌}
use native.Mathlib.Nat.{one-mul, pow-suc, pow-succ', add-sub_cancel_left, mul-one, mul_assoc, mul-div_cancel, mul-mod_left, mod-lt, le_trans, le_of_lt, lt_of_lt_of_le, div-le_self, le-div_iff_mul-le, mod-eq_of_lt, div-eq_of_lt}
use native.Mathlib.Decide.{dec_lt, ℕ_discrete}
use native.Mathlib.Omega.{arith}
use borrow.Author.Tests.{ltb-true, leb-true, eqb-true, lt-ltb, le-ltb, le-leb, lt-leb, eq-eqb, ne_eqb}
use lib.Dec.{leb, ltb, eqb, lit<, lit≤}
use lib.Pow.{shl_lt, shr_lt, pow_mono, pow_pos, high, low}
use Rattle.octets.proofs.Cases.{by-test, both}
use Rattle.std.proofs.Common.{Option, Some, None}
use Rattle.rate.specs.declared.Note.{Note}
use Rattle.rate.specs.declared.Note.TheVariants.{Exact, RoundedDown, Raised, Capped, TakenAsZero}
use Rattle.rate.specs.declared.Rate.{Rate}
use Rattle.rate.specs.Rate.{note_number, noted, scaled, whole_part, value_rate, is_not_a_number, rate_of_parts, rate_of, fits_significand, is_single, rate_given}
use Rattle.rate.proofs.Rates.{whole_over, multiple, both-times, rate-zero, rate-negative, rate-below-one, rate-limit, rate-past-limit, rate-whole, whole-up, whole-down}

-- Above 2^63 nothing is a single, and up to it the halvings decide.
pub past-limit : (n : ℕ) → 2 ^ 63 < n → false ≡ is_single n
unfolding is_single
past-limit n h = rw (lt-leb n (2 ^ 63) h)

pub within-limit : (n : ℕ) → n ≤ 2 ^ 63 → fits_significand 40 n ≡ is_single n
unfolding is_single
within-limit n h = rw (le-leb n (2 ^ 63) h)

-- One look at a number: below 2^24 it passes, from there on an odd one fails, and an even one passes as its half does.
pub fits-small : (k n : ℕ) → n < 2 ^ 24 → fits_significand k n ≡ true
unfolding fits_significand
fits-small zero n h = lt-ltb n (2 ^ 24) h
fits-small (suc k) n h = rw (lt-ltb n (2 ^ 24) h)

pub fits-odd : (k n : ℕ) → 2 ^ 24 ≤ n → (n % 2 ≡ 0 → ⊥) → fits_significand k n ≡ false
unfolding fits_significand
fits-odd zero n h o = le-ltb n (2 ^ 24) h
fits-odd (suc k) n h o = rw (le-ltb n (2 ^ 24) h, ne_eqb (n % 2) 0 o)

pub fits-even : (k n : ℕ) → 2 ^ 24 ≤ n → n % 2 ≡ 0 → fits_significand k (n / 2) ≡ fits_significand (suc k) n
unfolding fits_significand
fits-even k n h e = rw (le-ltb n (2 ^ 24) h, eq-eqb (n % 2) 0 e)

pub fits-is-even : (k n : ℕ) → 2 ^ 24 ≤ n → fits_significand k n ≡ true → n % 2 ≡ 0
fits-is-even k n b h =
    elim (ℕ_discrete (n % 2) 0) [
      | yes e ↦ e
      | no o ↦ absurd (true≢false (sym h ∙ fits-odd k n b o))
    ]

-- Where a number stands in its halvings: how many are left, that they are enough, and that they decide.
pub record Halving (number rest : ℕ) : Type 0 where
  pub left : ℕ
  pub enough : rest < 2 ^ 24 * 2 ^ left
  pub decides : fits_significand left rest ≡ is_single number

-- One halving.
pub halved : {number rest : ℕ} → Halving number rest → 2 ^ 24 ≤ rest → rest % 2 ≡ 0 → Halving number (rest / 2)
halved {number} {rest} h b e = on h.left h.enough h.decides
  where
    on : (k : ℕ) → rest < 2 ^ 24 * 2 ^ k → fits_significand k rest ≡ is_single number → Halving number (rest / 2)
    on zero p d = absurd (omega arith)
    on (suc k) p d = record { left = k; enough = (let q = rw (pow-suc 2 k) at p in omega arith); decides = fits-even k rest b e ∙ d }

-- A number below 2^24 times a power of two passes.
fits-times : (k j n : ℕ) → n < 2 ^ 24 → j ≤ k → fits_significand k (n * 2 ^ j) ≡ true
fits-times k zero n h p = rw mul-one (fits-small k n h)
fits-times zero (suc j) n h p = absurd (omega arith)
fits-times (suc k) (suc j) n h p =
    let twice : n * 2 ^ suc j ≡ n * 2 ^ j * 2 = rw (pow-suc 2 j, ← mul_assoc) in
    elim (dec_lt (n * 2 ^ suc j) (2 ^ 24)) [
      | yes small ↦ fits-small (suc k) (n * 2 ^ suc j) small
      | no big ↦
          sym (fits-even k (n * 2 ^ suc j) (omega arith) (rw twice (mul-mod_left (n * 2 ^ j) 2)))
          ∙ rw (twice, mul-div_cancel (n * 2 ^ j) (lit< tt)) (fits-times k j n h (omega arith))
    ]

single-small : (n : ℕ) → n < 2 ^ 24 → is_single n ≡ true
single-small n h = sym (within-limit n (omega arith)) ∙ fits-small 40 n h

single-times : (n j : ℕ) → n < 2 ^ 24 → j < 40 → is_single (n * 2 ^ j) ≡ true
single-times n j h p =
    let bound : n * 2 ^ j ≤ 2 ^ 63 = le_trans (le_of_lt (shl_lt {a = n} 24 j h)) (pow_mono {i = 24 + j} {j = 63} (omega arith)) in
    sym (within-limit (n * 2 ^ j) bound) ∙ fits-times 40 j n h (omega arith)

single-limit : is_single (2 ^ 63) ≡ true
single-limit = sym (within-limit (2 ^ 63) (lit≤ tt)) ∙ fits-times 40 40 (2 ^ 23) (lit< tt) (lit≤ tt)

-- What passes, note by note.
module _ (n note : ℕ) where
  pub given-exact : note ≡ note_number Exact → is_single n ≡ rate_given n note
  unfolding rate_given
  given-exact e = rw e

  pub given-rounded : note ≡ note_number RoundedDown → leb 1 n && ltb n (2 ^ 23) ≡ rate_given n note
  unfolding rate_given
  given-rounded e = rw e

  pub given-raised : note ≡ note_number Raised → eqb n 1 ≡ rate_given n note
  unfolding rate_given
  given-raised e = rw e

  pub given-capped : note ≡ note_number Capped → eqb n (2 ^ 63) ≡ rate_given n note
  unfolding rate_given
  given-capped e = rw e

  pub given-zero : note ≡ note_number TakenAsZero → eqb n 0 ≡ rate_given n note
  unfolding rate_given
  given-zero e = rw e

  pub given-not : 4 < note → false ≡ rate_given n note
  unfolding rate_given
  given-not h =
      rw (
        ne_eqb note 0 (λ e. omega arith),
        ne_eqb note 1 (λ e. omega arith),
        ne_eqb note 2 (λ e. omega arith),
        ne_eqb note 3 (λ e. omega arith),
        ne_eqb note 4 (λ e. omega arith),
      )

-- Does a rate pass?
abbrev passes : Rate → Bool
passes r = rate_given r.number (note_number r.note)

-- Does what a single gives pass? One that is not a number gives no rate.
abbrev given-passes : Option Rate → Bool
given-passes (Some r) = passes r
given-passes None = true

passes-exact : (n : ℕ) → is_single n ≡ true → passes (noted n Exact) ≡ true
passes-exact n h = sym (given-exact n (note_number Exact) refl) ∙ h

passes-rounded : (n : ℕ) → 1 ≤ n → n < 2 ^ 23 → passes (noted n RoundedDown) ≡ true
passes-rounded n p q = sym (given-rounded n (note_number RoundedDown) refl) ∙ rw (le-leb 1 n p, lt-ltb n (2 ^ 23) q)

-- The whole part of a single passes.
whole-passes : (e f : ℕ) → f < 2 ^ 23 → 127 ≤ e → e < 190 → passes (whole_part (scaled e f)) ≡ true
whole-passes e f b l m =
    elim (dec_lt e 150) [
      | yes h ↦ ap passes (whole-down e f l h) ∙ behind (eqb ((2 ^ 23 + f) % 2 ^ (150 - e)) 0) refl h
      | no h ↦
          ap passes (whole-up e f (omega arith))
          ∙ passes-exact ((2 ^ 23 + f) * 2 ^ (e - 150)) (single-times (2 ^ 23 + f) (e - 150) (omega arith) (omega arith))
    ]
  where
    behind : (t : Bool) → eqb ((2 ^ 23 + f) % 2 ^ (150 - e)) 0 ≡ t → e < 150 → passes (whole_over (2 ^ (150 - e)) (2 ^ 23 + f)) ≡ true
    behind true z h =
        let least = div-le_self (2 ^ 23 + f) (2 ^ (150 - e)) in
        rw z (passes-exact ((2 ^ 23 + f) / 2 ^ (150 - e)) (single-small ((2 ^ 23 + f) / 2 ^ (150 - e)) (omega arith)))
    behind false z h =
        let kept : 2 ^ (150 - e) ≤ 2 ^ 23 + f = le_trans (pow_mono {i = 150 - e} {j = 23} (omega arith)) (omega arith) in
        let fits : 2 ^ 23 + f < 2 ^ (23 + (150 - e)) = lt_of_lt_of_le {m = 2 ^ 24} (omega arith) (pow_mono {i = 24} (omega arith)) in
        rw z
        (passes-rounded ((2 ^ 23 + f) / 2 ^ (150 - e)) ((le-div_iff_mul-le (pow_pos (150 - e))).1 (rw one-mul kept))
        (shr_lt {n = 2 ^ 23 + f} 23 (150 - e) fits))

-- What a single that is a number gives passes.
value_passes : (negative : Bool) (e f : ℕ) → f < 2 ^ 23 → passes (value_rate negative (scaled e f)) ≡ true
value_passes negative e f b =
    by-test (eqb e 0 && eqb f 0)
    (λ z. rw (← (rate-zero negative e f _ refl z)) (passes-exact 0 (single-small 0 (lit< tt))))
    (λ z. signed negative z)
  where
    above : eqb e 0 && eqb f 0 ≡ false → passes (value_rate false (scaled e f)) ≡ true
    above z =
        elim (dec_lt e 127) [
          | yes h ↦ rw (← (rate-below-one false e f _ refl z refl b h)) (sym (given-raised 1 (note_number Raised) refl))
          | no l ↦
              elim (dec_lt e 190) [
                | yes h ↦ rw (← (rate-whole false e f _ refl refl b (omega arith) h)) (whole-passes e f b (omega arith) h)
                | no h ↦
                    by-test (eqb e 190 && eqb f 0)
                    (λ t. rw (← (rate-limit false e f _ refl refl t)) (passes-exact (2 ^ 63) single-limit))
                    (λ t. rw (← (rate-past-limit false e f _ refl refl t (omega arith))) (sym (given-capped (2 ^ 63) (note_number Capped) refl)))
              ]
        ]

    signed : (n : Bool) → eqb e 0 && eqb f 0 ≡ false → passes (value_rate n (scaled e f)) ≡ true
    signed true z = rw (← (rate-negative true e f _ refl z refl)) (sym (given-zero 0 (note_number TakenAsZero) refl))
    signed false z = above z

rate-passes : (single : ℕ) → given-passes (rate_of single) ≡ true
unfolding rate_of rate_of_parts
rate-passes single =
    let e = single / 2 ^ 23 % 2 ^ 8 in
    let f = single % 2 ^ 23 in
    by-test (is_not_a_number e f)
    (λ h. rw h)
    (λ h. rw h (value_passes (not (eqb (single / 2 ^ 31) 0)) e f (mod-lt single (lit< tt))))

-- Every rate read passes.
pub complete : (single : ℕ) (r : Rate) → rate_of single ≡ Some r → rate_given r.number (note_number r.note) ≡ true
complete single r h = ap given-passes (sym h) ∙ rate-passes single

-- A single with no sign, by its exponent and fraction.
joined : (e f : ℕ) → e < 255 → f < 2 ^ 23 → rate_of (e * 2 ^ 23 + f) ≡ Some (value_rate false (scaled e f))
unfolding rate_of rate_of_parts
joined e f p q =
    rw (
      high e 23 {lo = f} q,
      low e 23 {lo = f} q,
      div-eq_of_lt {n = e * 2 ^ 23 + f} {m = 2 ^ 31} (omega arith),
      mod-eq_of_lt {n = e} {m = 2 ^ 8} (omega arith),
      ne_eqb e 255 (λ z. omega arith),
    )

-- The exponent and the fraction of a single with no sign that gives a rate.
record Parts (r : Rate) : Type 0 where
  exponent : ℕ
  fraction : ℕ
  below : exponent < 255
  fits : fraction < 2 ^ 23
  gives : value_rate false (scaled exponent fraction) ≡ r

-- A number from 2^23 on is 24 binary digits and a power of two.
record Digits (limit n : ℕ) : Type 0 where
  digits : ℕ
  power : ℕ
  whole : n ≡ digits * 2 ^ power
  most : power ≤ limit
  least : 2 ^ 23 ≤ digits
  fits : digits < 2 ^ 24

digits_of : (k n : ℕ) → 2 ^ 23 ≤ n → fits_significand k n ≡ true → Digits k n
unfolding fits_significand
digits_of zero n b h = record { digits = n; power = 0; whole = sym (mul-one n); most = omega arith; least = b; fits = ltb-true n (2 ^ 24) h }
digits_of (suc k) n b h =
    elim (dec_lt n (2 ^ 24)) [
      | yes small ↦ record { digits = n; power = 0; whole = sym (mul-one n); most = omega arith; least = b; fits = small }
      | no big ↦
          let even = fits-is-even (suc k) n (omega arith) h in
          let d = digits_of k (n / 2) (omega arith) (fits-even k n (omega arith) even ∙ h) in
          let half = d.whole in
          record {
            digits = d.digits;
            power = suc d.power;
            whole = rw (pow-suc 2 d.power, ← mul_assoc) (omega arith);
            most = omega arith;
            least = d.least;
            fits = d.fits;
          }
    ]

-- A number below 2^24 is as many digits after a power of two.
record Scaled (limit n : ℕ) : Type 0 where
  power : ℕ
  most : power ≤ limit
  least : 2 ^ 23 ≤ n * 2 ^ power
  fits : n * 2 ^ power < 2 ^ 24

scaled-up : (k n : ℕ) → n < 2 ^ 24 → 2 ^ 23 ≤ n * 2 ^ k → Scaled k n
scaled-up zero n h b = record { power = 0; most = omega arith; least = b; fits = rw mul-one h }
scaled-up (suc k) n h b =
    elim (dec_lt n (2 ^ 23)) [
      | yes small ↦
          let twice : (p : ℕ) → n * 2 ^ suc p ≡ n * 2 * 2 ^ p = λ p. rw (pow-succ' 2 p, ← mul_assoc) in
          let d = scaled-up k (n * 2) (omega arith) (rw (← (twice k)) b) in
          record { power = suc d.power; most = omega arith; least = rw (twice d.power) d.least; fits = rw (twice d.power) d.fits }
      | no big ↦ record { power = 0; most = omega arith; least = rw mul-one (omega arith); fits = rw mul-one h }
    ]

power-positive : (n p : ℕ) → n < 2 ^ 23 → 2 ^ 23 ≤ n * 2 ^ p → 0 < p
power-positive n zero h b = absurd (omega arith)
power-positive n (suc p) h b = omega arith

-- 24 binary digits, so many of them behind the point.
parts-down : (d k : ℕ) → 0 < k → k ≤ 23 → 2 ^ 23 ≤ d → d < 2 ^ 24 → Parts (whole_over (2 ^ k) d)
parts-down d k p q least fits =
    let back : 150 - (150 - k) ≡ k = omega arith in
    let whole : 2 ^ 23 + (d - 2 ^ 23) ≡ d = omega arith in
    record {
      exponent = 150 - k;
      fraction = d - 2 ^ 23;
      below = omega arith;
      fits = omega arith;
      gives =
          sym (rate-whole false (150 - k) (d - 2 ^ 23) _ refl refl (omega arith) (omega arith) (omega arith))
          ∙ whole-down (150 - k) (d - 2 ^ 23) (omega arith) (omega arith)
          ∙ rw (back, whole);
    }

-- A number below 2^23.
parts-small : (n : ℕ) → 0 < n → n < 2 ^ 23 → Parts (noted n Exact)
parts-small n p h =
    let d = scaled-up 23 n (omega arith) (omega arith) in
    let k = d.power in
    rw (← (multiple (2 ^ k) n (pow_pos k))) (parts-down (n * 2 ^ k) k (power-positive n k h d.least) d.most d.least d.fits)

-- A number below 2^23 and a half.
parts-half : (n : ℕ) → 1 ≤ n → n < 2 ^ 23 → Parts (noted n RoundedDown)
parts-half n p h =
    let m = 2 * n + 1 in
    let d = scaled-up 22 m (omega arith) (omega arith) in
    let k = d.power in
    let half : whole_over 2 m ≡ noted n RoundedDown
    = rw (ne_eqb (m % 2) 0 (λ z. omega arith)) (ap (λ w. noted w RoundedDown) (omega arith)) in
    rw (← half, ← (both-times 2 m (2 ^ k) (lit< tt) (pow_pos k)), ← (pow-succ' 2 k))
    (parts-down (m * 2 ^ k) (suc k) (omega arith) (omega arith) d.least d.fits)

-- A number from 2^23 on.
parts-large : (n : ℕ) → 2 ^ 23 ≤ n → is_single n ≡ true → Parts (noted n Exact)
unfolding is_single
parts-large n p h =
    let tests = both (leb n (2 ^ 63)) (fits_significand 40 n) h in
    let limit = leb-true n (2 ^ 63) tests.0 in
    let d = digits_of 40 n p tests.1 in
    let f = d.digits - 2 ^ 23 in
    elim (dec_lt d.power 40) [
      | yes q ↦
          let digits : 2 ^ 23 + f ≡ d.digits = omega arith in
          record {
            exponent = 150 + d.power;
            fraction = f;
            below = omega arith;
            fits = omega arith;
            gives =
                sym (rate-whole false (150 + d.power) f _ refl refl (omega arith) (omega arith) (omega arith))
                ∙ whole-up (150 + d.power) f (omega arith)
                ∙ ap (λ w. noted w Exact) (rw (add-sub_cancel_left 150 d.power, digits) (sym d.whole));
          }
      | no q ↦
          let top : d.power ≡ 40 = omega arith in
          let whole = rw top at d.whole in
          let most : 2 ^ 63 ≡ n = omega arith in
          record {
            exponent = 190;
            fraction = 0;
            below = lit< tt;
            fits = lit< tt;
            gives = sym (rate-limit false 190 0 (noted (2 ^ 63) Exact) refl refl refl) ∙ ap (λ w. noted w Exact) most;
          }
    ]

parts-exact : (n : ℕ) → is_single n ≡ true → Parts (noted n Exact)
parts-exact n h =
    elim (dec_lt n (2 ^ 23)) [
      | yes small ↦
          elim (dec_lt 0 n) [
            | yes p ↦ parts-small n p small
            | no z ↦
                record {
                  exponent = 0;
                  fraction = 0;
                  below = lit< tt;
                  fits = lit< tt;
                  gives = sym (rate-zero false 0 0 (noted 0 Exact) refl refl) ∙ ap (λ w. noted w Exact) (omega arith);
                }
          ]
      | no large ↦ parts-large n (omega arith) h
    ]

-- What each note says of its number.
data Given : ℕ → ℕ → Type 0 where
  is-exact : (n : ℕ) → is_single n ≡ true → Given n (note_number Exact)
  is-rounded : (n : ℕ) → 1 ≤ n → n < 2 ^ 23 → Given n (note_number RoundedDown)
  is-raised : Given 1 (note_number Raised)
  is-capped : Given (2 ^ 63) (note_number Capped)
  is_zero : Given 0 (note_number TakenAsZero)

by-note : (n note : ℕ) → rate_given n note ≡ true → Given n note
by-note n note h =
    elim (ℕ_discrete note 0) [
      | yes e ↦ rw e (is-exact n (given-exact n note e ∙ h))
      | no a ↦
          elim (ℕ_discrete note 1) [
            | yes e ↦
                let tests = both (leb 1 n) (ltb n (2 ^ 23)) (given-rounded n note e ∙ h) in
                rw e (is-rounded n (leb-true 1 n tests.0) (ltb-true n (2 ^ 23) tests.1))
            | no b ↦
                elim (ℕ_discrete note 2) [
                  | yes e ↦ rw (e, eqb-true n 1 (given-raised n note e ∙ h)) is-raised
                  | no c ↦
                      elim (ℕ_discrete note 3) [
                        | yes e ↦ rw (e, eqb-true n (2 ^ 63) (given-capped n note e ∙ h)) is-capped
                        | no d ↦
                            elim (ℕ_discrete note 4) [
                              | yes e ↦ rw (e, eqb-true n 0 (given-zero n note e ∙ h)) is_zero
                              | no e ↦ absurd (true≢false (sym h ∙ sym (given-not n note (omega arith))))
                            ]
                      ]
                ]
          ]
    ]

-- A rate is read from some single.
abbrev Read : Rate → Type 0
Read r = (single : ℕ) × (single < 2 ^ 32) × (rate_of single ≡ Some r)

read-parts : {r : Rate} → Parts r → Read r
read-parts p = (p.exponent * 2 ^ 23 + p.fraction, omega arith, joined p.exponent p.fraction p.below p.fits ∙ ap Some p.gives)

-- A pair of a number and a note's number that is read from some single.
abbrev pub ReadAs : ℕ → ℕ → Type 0
ReadAs number note = (m : Note) × (note_number m ≡ note) × (single : ℕ) × (single < 2 ^ 32) × (rate_of single ≡ Some (noted number m))

read-given : {n note : ℕ} → Given n note → ReadAs n note
unfolding rate_of rate_of_parts value_rate scaled
read-given (is-exact n h) = let r = read-parts (parts-exact n h) in (Exact, refl, r.0, r.1, r.2)
read-given (is-rounded n p q) = let r = read-parts (parts-half n p q) in (RoundedDown, refl, r.0, r.1, r.2)
read-given is-raised = (Raised, refl, 1, lit< tt, refl)
read-given is-capped = (Capped, refl, 0x7f80_0000, lit< tt, refl)
read-given is_zero = (TakenAsZero, refl, 0xbf80_0000, lit< tt, refl)

-- Every pair that passes is read from some single.
pub sound : (number note : ℕ) → rate_given number note ≡ true → ReadAs number note
sound number note h = read-given (by-note number note h)

-- What passes is at most 2^63, with a note of at most 4.
most : {n note : ℕ} → Given n note → (n ≤ 2 ^ 63) × (note ≤ 4)
unfolding is_single
most (is-exact n h) = (leb-true n (2 ^ 63) (both (leb n (2 ^ 63)) (fits_significand 40 n) h).0, lit≤ tt)
most (is-rounded n p q) = (omega arith, lit≤ tt)
most is-raised = (lit≤ tt, lit≤ tt)
most is-capped = (lit≤ tt, lit≤ tt)
most is_zero = (lit≤ tt, lit≤ tt)

pub at_most : (number note : ℕ) → rate_given number note ≡ true → number ≤ 2 ^ 63
at_most number note h = (most (by-note number note h)).0

pub note-at-most : (number note : ℕ) → rate_given number note ≡ true → note ≤ 4
note-at-most number note h = (most (by-note number note h)).1
