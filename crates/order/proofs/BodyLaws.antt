-- The body of a component in the plain spelling: that of a prefix has no bit set behind its pattern, so that it spells a plain pattern,
-- and no other such body of octets spells the same. Over any width of whole octets. Assumes nothing.
use mathlib.Core.Path.{◌≡◌, sym, ap, ap₂, ◌∙◌}
use mathlib.Core.Bool.{true}
use mathlib.Core.Logic.{inl, inr}
use mathlib.Core.List.{List, [], ◌∷◌, map}
use Prim.Native.Nat.{ℕ, zero, suc, ◌+◌, ◌-◌, ◌*◌, ◌/◌, ◌%◌, ◌^◌, ◌<◌, ◌≤◌}
use native.Mathlib.Omega.{arith}
use native.Mathlib.Decide.{dec_lt}
use native.Mathlib.Nat.{add-zero, mul_assoc, mul-mod_left, mul-add-mod_self_right, zero-mod}
use lib.Dec.{leb}
use lib.ListN.{length, get_or, take, drop, length-drop, take-append-drop}
use lib.Pow.{pow-add}
use lib.Seq.{length-take-le}
use borrow.Author.Tests.{leb-true, leb-false}
use Rattle.octets.specs.Test.{Each}
use Rattle.octets.specs.Number.{number_at}
use Rattle.octets.proofs.Cases.{by-test}
use Rattle.octets.proofs.Facts.{Octets}
use Rattle.octets.proofs.NumberLaws.{number_behind, first-octet, number-none}
use Rattle.prefix.specs.Prefix.{Pattern, offset_in, pattern_in, WellFormed}
use Rattle.prefix.proofs.BodyLaws.{ClearBody, clear-formed, body-only}
use Rattle.rule.specs.declared.Family.{Family}
use Rattle.spelling.specs.Plain.{Expected, Kind, Length, PatternOctet, body_of, pattern_after, after, cleared_octet, plain_pattern, plain_from, plain}
use Rattle.rule.specs.Shape.{shape_of}
use Rattle.rule.specs.Component.{lead_of, offset_at}
use Rattle.rule.specs.Value.{Component, components}
use Rattle.spelling.specs.PlainComponent.{plain_component}
use Rattle.spelling.proofs.PlainLaws.{above, length-plain-from, length-kept}
use Rattle.spelling.proofs.ClearedLaws.{octets-plain-from}
use Rattle.rule.proofs.ComponentLaws.{lead-some}
use Rattle.spelling.proofs.SpellingLaws.{components-plain, offset-kept, pattern-plain}
use Rattle.rule.proofs.ComponentsLaws.{PrefixBody, SoundComponent, each-sound, each-octets}

-- the last octet of an address, with the bits past the length cleared
last-clear : (n left x : ℕ) → left ≤ 8 → (plain_pattern left x * 2 ^ (8 * n) + 0) % 2 ^ (8 * suc n - left) ≡ 0
unfolding plain_pattern
last-clear n left x h =
    let k : 8 * suc n - left ≡ 8 - left + 8 * n = omega arith in
    rw (k, add-zero (x / 2 ^ (8 - left) * 2 ^ (8 - left) * 2 ^ (8 * n)), mul_assoc (x / 2 ^ (8 - left)) (2 ^ (8 - left)) (2 ^ (8 * n)), ← pow-add 2 (8 - left) (8 * n))
    (mul-mod_left (x / 2 ^ (8 - left)) (2 ^ (8 - left + 8 * n)))

-- an octet of an address before others that are clear
earlier-clear : (n left x rest : ℕ) → 8 < left → left ≤ 8 * suc n → rest % 2 ^ (8 * n - (left - 8)) ≡ 0
    → (x * 2 ^ (8 * n) + rest) % 2 ^ (8 * suc n - left) ≡ 0
earlier-clear n left x rest h l c =
    let k : 8 * suc n - left ≡ 8 * n - (left - 8) = omega arith in
    rw (k, above n left x h l, mul-add-mod_self_right (x * 2 ^ (left - 8)) (2 ^ (8 * n - (left - 8))) rest) c

-- a number that begins at a place is the number of the octets from there on
from-there : (n at : ℕ) (s : List ℕ) → at ≤ length s → number_at n s at ≡ number_at n (drop at s) 0
from-there n at s h =
    ap₂ (number_at n) (sym (take-append-drop at s)) (sym (length-take-le at s h) ∙ sym (add-zero (length (take at s)))) ∙ number_behind n (take at s) (drop at s) 0

module _ (family : Family) where
  -- no octets spell 0
  none-spelled : (n : ℕ) (e : Expected) (r : List ℕ) → length r ≡ 0 → number_at n (plain_from family e r) 0 ≡ 0
  unfolding plain_from
  none-spelled n e [] h = number-none n 0
  none-spelled n e (x ∷ r) h = absurd (omega arith)

  -- an address in the plain spelling has no bit past the length
  address-clear : (n left : ℕ) (r : List ℕ) → 1 ≤ left → left ≤ 8 * n → length r ≡ (left + 7) / 8
      → number_at n (plain_from family (PatternOctet left) r) 0 % 2 ^ (8 * n - left) ≡ 0
  unfolding plain_from after cleared_octet
  address-clear zero left r some h l = absurd (omega arith)
  address-clear (suc n) left [] some h l = absurd (omega arith)
  address-clear (suc n) left (x ∷ r) some h l =
      by-test (leb left 8)
      (λ t.
      let low = leb-true left 8 t in
      rw (t, first-octet n (plain_pattern left x) (plain_from family Kind r), none-spelled n Kind r (omega arith)) (last-clear n left x low))
      (λ t.
      let high = leb-false left 8 t in
      rw (t, first-octet n (plain_pattern left x) (plain_from family (PatternOctet (left - 8)) r))
      (earlier-clear n left (plain_pattern left x) (number_at n (plain_from family (PatternOctet (left - 8)) r) 0) high h
      (address-clear n (left - 8) r (omega arith) (omega arith) (omega arith))))

  -- nor has what follows a prefix's length and offset
  pattern-clear : (n bits offset : ℕ) (r : List ℕ) → bits ≤ 8 * n → length r ≡ (bits - offset + 7) / 8
      → number_at n (plain_from family (pattern_after bits offset) r) 0 % 2 ^ (8 * n - (bits - offset)) ≡ 0
  unfolding pattern_after
  pattern-clear n bits offset r h l =
      by-test (leb bits offset)
      (λ t.
      let low = leb-true bits offset t in
      rw (t, none-spelled n Kind r (omega arith)) (zero-mod (2 ^ (8 * n - (bits - offset)))))
      (λ t.
      let high = leb-false bits offset t in
      rw t (address-clear n (bits - offset) r (omega arith) (omega arith) l))

-- a component in the plain spelling: octets, and a prefix's body is whole, has no bit set behind its pattern, and spells a plain one
pub record PlainBody (family : Family) (p : Component) : Type 0 where
  pub octets : Octets p.body
  pub whole : (shape_of family p.kind).prefix ≡ true → PrefixBody family p.body
  pub clear : (shape_of family p.kind).prefix ≡ true → ClearBody family.width family.offsets p.body
  pub formed : (shape_of family p.kind).prefix ≡ true → WellFormed family.width (pattern_in family.width family.offsets p.body)

-- a family whose addresses are n octets
module _ (family : Family) (n : ℕ) (wide : family.width ≡ 8 * n) where
  module _ (body : List ℕ) (b : PrefixBody family body) where
    some : 0 < length body
    some = let h = b.whole in let k = lead-some family in omega arith

    lengths : get_or (plain_from family Length body) 0 0 ≡ get_or body 0 0
    lengths = length-kept family body

    offset : offset_at family (plain_from family Length body) 1 ≡ offset_at family body 1
    offset = offset-kept family body some

    plain-whole : PrefixBody family (plain_from family Length body)
    plain-whole =
        record {
          within = rw lengths b.within;
          below = rw (lengths, offset) b.below;
          begins = rw (lengths, offset) b.begins;
          whole = rw (lengths, offset, length-plain-from family Length body) b.whole;
        }

    clear : number_at n (plain_from family Length body) (lead_of family) % 2 ^ (8 * n - (get_or body 0 0 - offset_at family body 1)) ≡ 0
    clear =
        let whole = b.whole in
        let within = b.within in
        let lead : lead_of family ≤ length body = omega arith in
        let long : lead_of family ≤ length (plain_from family Length body) = rw (length-plain-from family Length body) lead in
        rw (from-there n (lead_of family) (plain_from family Length body) long, pattern-plain family body some lead)
        (pattern-clear family n (get_or body 0 0) (offset_at family body 1) (drop (lead_of family) body) (omega arith) (simp length-drop (omega arith)))

    plain-clear : ClearBody family.width family.offsets (plain_from family Length body)
    unfolding offset_at lead_of
    plain-clear =
        let begins = plain-whole.begins in
        let below = plain-whole.below in
        let eighth : family.width / 8 ≡ n = omega arith in
        record {
          within = rw lengths b.within;
          begins =
              elim (dec_lt (offset_at family (plain_from family Length body) 1) (get_or (plain_from family Length body) 0 0)) [
                | yes h ↦ inl h
                | no h ↦ let none = begins (omega arith) in inr (none, omega arith)
              ];
          clear = rw (eighth, lengths, offset) (rw (← wide) at clear);
        }

  plain_body : (p : Component) → SoundComponent family p → Octets p.body → PlainBody family (plain_component family p)
  unfolding body_of
  plain_body p s o =
      record {
        octets = octets-plain-from family (body_of family p.kind) p.body o;
        whole = λ t. rw t (plain-whole p.body (s.prefix t));
        clear = λ t. rw t (plain-clear p.body (s.prefix t));
        formed =
            λ t. rw t (clear-formed family.width family.offsets (plain_from family Length p.body) (plain-clear p.body (s.prefix t)) n wide
            (octets-plain-from family Length p.body o));
      }

  each-plain : (ps : List Component) → Each (SoundComponent family) ps → Each (λ p. Octets p.body) ps → Each (PlainBody family) (map (plain_component family) ps)
  each-plain [] s o = tt
  each-plain (p ∷ ps) s o = (plain_body p s.0 o.0, each-plain ps s.1 o.1)

  -- each component of a plain spelling has a plain body
  pub plain-bodies : (v : List ℕ) → Octets v → Each (PlainBody family) (components family (plain family v))
  plain-bodies v o = rw (components-plain family v o) (each-plain (components family v) (each-sound family v) (each-octets family v o))

  -- two bodies that spell one pattern are equal
  pub prefix-only : (a b : List ℕ) → PrefixBody family a → PrefixBody family b → ClearBody family.width family.offsets a
      → ClearBody family.width family.offsets b → Octets a → Octets b
      → pattern_in family.width family.offsets a ≡ pattern_in family.width family.offsets b → a ≡ b
  unfolding pattern_in offset_at lead_of
  prefix-only a b A B C D o p e =
      let lengths : get_or a 0 0 ≡ get_or b 0 0 = ap (λ (q : Pattern). q.length) e in
      let offsets : offset_in family.offsets a ≡ offset_in family.offsets b = ap (λ (q : Pattern). q.offset) e in
      let left = A.whole in
      let right = B.whole in
      let within = A.within in
      body-only family.width a b o p (omega arith) family.offsets C D (omega arith) e
