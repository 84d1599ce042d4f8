-- The pattern that a prefix's body spells, in the plain spelling: it has the same offset and length, and of its address the bits that count.
-- Assumes nothing.
use mathlib.Core.Path.{◌≡◌, refl, sym, ap, subst, ◌∙◌}
use mathlib.Core.Bool.{Bool, true, false}
use mathlib.Core.List.{List, [], ◌∷◌}
use Prim.Native.Nat.{ℕ, zero, suc, ◌+◌, ◌-◌, ◌*◌, ◌/◌, ◌^◌, ◌<◌, ◌≤◌}
use native.Mathlib.Omega.{arith}
use native.Mathlib.Nat.{mul-add-div_right}
use lib.Dec.{leb}
use lib.ListN.{get_or}
use lib.Pow.{pow_pos, high, shl-shr, shr-shr}
use borrow.Author.Tests.{leb-true, leb-false}
use Rattle.octets.specs.Number.{number_at}
use Rattle.octets.proofs.Cases.{by-test}
use Rattle.octets.proofs.Facts.{Octets}
use Rattle.octets.proofs.NumberLaws.{octets-bits, number_small, number_behind, first-octet}
use Rattle.prefix.specs.Prefix.{Pattern, bits, pattern_bits, offset_in, pattern_start, pattern_in}
use Rattle.prefix.proofs.BitLaws.{between_first, first_of}
use Rattle.prefix.proofs.ContainLaws.{Alike}
use Rattle.rule.specs.declared.Family.{Family}
use Rattle.spelling.specs.Plain.{Expected, Kind, Length, PatternOctet, pattern_after, after, plain_pattern, cleared_octet, plain_from}
use Rattle.rule.specs.Family.{Fits}
use Rattle.rule.specs.Component.{offset_at}
use Rattle.spelling.proofs.PlainLaws.{whole-octet, above, after-length, after-length-offset}
use Rattle.spelling.proofs.ClearedLaws.{octets-plain-from}
use Rattle.rule.proofs.ComponentsLaws.{PrefixBody}

-- the octet in which the length ends
last-same : (n left x rest other : ℕ) → left ≤ 8 → rest < 2 ^ (8 * n) → other < 2 ^ (8 * n)
    → (plain_pattern left x * 2 ^ (8 * n) + rest) / 2 ^ (8 * suc n - left) ≡ (x * 2 ^ (8 * n) + other) / 2 ^ (8 * suc n - left)
unfolding plain_pattern
last-same n left x rest other h l m =
    let k : 8 * suc n - left ≡ 8 * n + (8 - left) = omega arith in
    rw (
      k,
      ← shr-shr (x / 2 ^ (8 - left) * 2 ^ (8 - left) * 2 ^ (8 * n) + rest) (8 * n) (8 - left),
      ← shr-shr (x * 2 ^ (8 * n) + other) (8 * n) (8 - left),
      high (x / 2 ^ (8 - left) * 2 ^ (8 - left)) (8 * n) l,
      high x (8 * n) m,
    )
    (shl-shr (x / 2 ^ (8 - left)) (8 - left))

-- an octet before it
earlier : (n left x rest : ℕ) → 8 < left → left ≤ 8 * suc n
    → (x * 2 ^ (8 * n) + rest) / 2 ^ (8 * suc n - left) ≡ x * 2 ^ (left - 8) + rest / 2 ^ (8 * n - (left - 8))
earlier n left x rest h l =
    let k : 8 * suc n - left ≡ 8 * n - (left - 8) = omega arith in
    rw (k, above n left x h l) (mul-add-div_right (pow_pos (8 * n - (left - 8))) (x * 2 ^ (left - 8)) rest)

module _ (family : Family) where
  -- an address shifted until only the bits of the length are left is the same in the plain spelling
  address_same : (n left : ℕ) (r : List ℕ) → Octets r → 1 ≤ left → left ≤ 8 * n
      → number_at n (plain_from family (PatternOctet left) r) 0 / 2 ^ (8 * n - left) ≡ number_at n r 0 / 2 ^ (8 * n - left)
  unfolding plain_from after cleared_octet
  address_same zero left r o some h = absurd (omega arith)
  address_same (suc n) left [] o some h = refl
  address_same (suc n) left (x ∷ r) o some h =
      by-test (leb left 8)
      (λ t.
      let rest : Octets r = λ i. o (suc i) in
      let fits : (s : List ℕ) → Octets s → number_at n s 0 < 2 ^ (8 * n) = λ s q. rw (← octets-bits n) (number_small n s 0 q) in
      rw (t, first-octet n (plain_pattern left x) (plain_from family Kind r), first-octet n x r)
      (last-same n left x (number_at n (plain_from family Kind r) 0) (number_at n r 0) (leb-true left 8 t) (fits (plain_from family Kind r) (octets-plain-from family Kind r rest)) (fits r rest)))
      (λ t.
      let high = leb-false left 8 t in
      rw (
        t,
        first-octet n (plain_pattern left x) (plain_from family (PatternOctet (left - 8)) r),
        first-octet n x r,
        ← whole-octet left x (omega arith),
        earlier n left x (number_at n (plain_from family (PatternOctet (left - 8)) r) 0) high h,
        earlier n left x (number_at n r 0) high h,
        address_same n (left - 8) r (λ i. o (suc i)) (omega arith) (omega arith),
      ))

  -- the bits that a length and an offset ask for are the same in the plain spelling of what stands behind them
  kept : (n reach offset : ℕ) (r : List ℕ) → Octets r → reach - offset ≤ 8 * n
      → bits (reach - offset) (number_at n (plain_from family (pattern_after reach offset) r) 0 / 2 ^ (8 * n - (reach - offset)))
      ≡ bits (reach - offset) (number_at n r 0 / 2 ^ (8 * n - (reach - offset)))
  unfolding bits pattern_after
  kept n reach offset r o h =
      by-test (leb reach offset)
      (λ t. let few = leb-true reach offset t in let z : reach - offset ≡ 0 = omega arith in rw z)
      (λ t. let some = leb-false reach offset t in rw t (ap (bits (reach - offset)) (address_same n (reach - offset) r o (omega arith) h)))

-- the bits of a pattern are the first ones of the number that the octets of the pattern are
spelled-bits : (n : ℕ) (offsets : Bool) (body : List ℕ) → offset_in offsets body ≤ get_or body 0 0 → get_or body 0 0 ≤ 8 * n
    → let left = get_or body 0 0 - offset_in offsets body in
    pattern_bits (8 * n) (pattern_in (8 * n) offsets body) ≡ bits left (number_at n body (pattern_start offsets) / 2 ^ (8 * n - left))
unfolding pattern_in
spelled-bits n offsets body h k =
    let m = offset_in offsets body in
    let l = get_or body 0 0 in
    let e : 8 * n / 8 ≡ n = omega arith in
    let f : m + (8 * n - m - (l - m)) ≡ 8 * n - (l - m) = omega arith in
    let number = number_at n body (pattern_start offsets) in
    rw e
    (between_first (8 * n) m l (number / 2 ^ m) ∙ first_of (8 * n - m) (l - m) (number / 2 ^ m) (omega arith)
    ∙ ap (bits (l - m)) (shr-shr number m (8 * n - m - (l - m)) ∙ ap (λ (j : ℕ). number / 2 ^ j) f))

module _ (family : Family) (n : ℕ) where
  abbrev spells : Bool → List ℕ → Pattern
  spells offsets body = pattern_in (8 * n) offsets body

  -- the plain spelling keeps the length and the offset octet
  spelled-length : (x : ℕ) (r : List ℕ) → family.offsets ≡ false → plain_from family Length (x ∷ r) ≡ x ∷ plain_from family (pattern_after x 0) r
  unfolding plain_from cleared_octet
  spelled-length x r is = ap (λ (e : Expected). x ∷ plain_from family e r) (sym (after-length family Length x (pattern_after x 0) refl is refl))

  spelled_none : plain_from family Length [] ≡ []
  unfolding plain_from
  spelled_none = refl

  spelled-alone : (x : ℕ) → plain_from family Length (x ∷ []) ≡ x ∷ []
  unfolding plain_from cleared_octet
  spelled-alone x = refl

  spelled-offset : (x y : ℕ) (r : List ℕ) → family.offsets ≡ true → plain_from family Length (x ∷ y ∷ r) ≡ x ∷ y ∷ plain_from family (pattern_after x y) r
  unfolding plain_from cleared_octet after
  spelled-offset x y r is = ap (λ (e : Expected). x ∷ plain_from family e (y ∷ r)) (sym (after-length-offset family Length x refl is))

  begin-kept : (offsets : Bool) → family.offsets ≡ offsets → (body : List ℕ) → Octets body → offset_in offsets body ≤ get_or body 0 0 → get_or body 0 0 ≤ 8 * n
      → Alike (8 * n) (spells offsets (plain_from family Length body)) (spells offsets body)
  unfolding pattern_in
  begin-kept offsets is [] o h k = rw spelled_none (record { offset = refl; length = refl; begin = refl })
  begin-kept false is (x ∷ r) o h k =
      let behind = plain_from family (pattern_after x 0) r in
      rw (spelled-length x r is)
      (record {
        offset = refl;
        length = refl;
        begin =
            spelled-bits n false (x ∷ behind) h k
            ∙ rw (number_behind n (x ∷ []) behind 0, number_behind n (x ∷ []) r 0) (kept family n x 0 r (λ i. o (suc i)) (omega arith))
            ∙ sym (spelled-bits n false (x ∷ r) h k);
      })
  begin-kept true is (x ∷ []) o h k = rw (spelled-alone x) (record { offset = refl; length = refl; begin = refl })
  begin-kept true is (x ∷ y ∷ r) o h k =
      let behind = plain_from family (pattern_after x y) r in
      rw (spelled-offset x y r is)
      (record {
        offset = refl;
        length = refl;
        begin =
            spelled-bits n true (x ∷ y ∷ behind) h k
            ∙ rw (number_behind n (x ∷ y ∷ []) behind 0, number_behind n (x ∷ y ∷ []) r 0) (kept family n x y r (λ i. o (suc (suc i))) (omega arith))
            ∙ sym (spelled-bits n true (x ∷ y ∷ r) h k);
      })

-- a family's addresses are whole octets
octets-wide : (family : Family) → Fits family → family.width ≡ 8 * (family.words * 4 - 12)
octets-wide family fits = let e = fits.words in omega arith

-- the pattern that the body of a prefix spells, and the one that its plain spelling does
pub pattern-plain : (family : Family) → Fits family → (body : List ℕ) → Octets body → PrefixBody family body → let w = family.width in let offsets = family.offsets in
    Alike w (pattern_in w offsets (plain_from family Length body)) (pattern_in w offsets body)
unfolding offset_at
pattern-plain family fits body o sound =
    let wide = octets-wide family fits in
    let below = sound.below in
    let within = sound.within in
    let offsets = family.offsets in
    subst (λ (w : ℕ). Alike w (pattern_in w offsets (plain_from family Length body)) (pattern_in w offsets body)) (sym wide)
    (begin-kept family (family.words * 4 - 12) offsets refl body o below (omega arith))
