-- The pattern that a component's body spells: it is plain where the bits behind the pattern are clear, and no two such bodies of one
-- length spell the same. Assumes nothing.
use mathlib.Core.Path.{◌≡◌, refl, ap, sym, ◌∙◌}
use mathlib.Core.Bool.{Bool, true, false}
use mathlib.Core.List.{List}
use mathlib.Core.Logic.{◌⊎◌, ⊎_elim}
use Prim.Native.Nat.{ℕ, zero, suc, ◌+◌, ◌-◌, ◌*◌, ◌/◌, ◌%◌, ◌^◌, ◌≤◌, ◌<◌, min}
use native.Mathlib.Omega.{arith}
use native.Mathlib.Decide.{dec_lt}
use native.Mathlib.Nat.{zero-div, zero-mod, mod-eq_of_lt, pow-suc, pow-le-pow_right, zero-add, add-zero, add-suc, add_assoc, sub_self}
use lib.ListN.{length, get_or}
use lib.Pow.{field, mod-mod-pow, shr_lt}
use lib.Seq.{ext_get_or}
use lib.Dec.{lit<}
use Rattle.octets.specs.Number.{number_at}
use Rattle.octets.proofs.Facts.{Octets}
use Rattle.octets.proofs.NumberLaws.{IsNumber, number-only, number_small, number-out, number_cut, octets-bits}
use Rattle.prefix.proofs.BitLaws.{same-clear}
use Rattle.prefix.specs.declared.Address.{Address}
use Rattle.prefix.specs.Prefix.{Pattern, address_of, pattern_of, offset_in, pattern_start, pattern_in, WellFormed}

-- a body whose pattern lies within the width and has no bit set behind its length: RFC 8956 section 3.1's padding is 0
pub record ClearBody (w : ℕ) (offsets : Bool) (body : List ℕ) : Type 0 where
  pub within : get_or body 0 0 ≤ w
  pub begins : (offset_in offsets body < get_or body 0 0) ⊎ ((offset_in offsets body ≡ 0) × (get_or body 0 0 ≡ 0))
  pub clear : number_at (w / 8) body (pattern_start offsets) % 2 ^ (w - (get_or body 0 0 - offset_in offsets body)) ≡ 0

module _ (w : ℕ) (offsets : Bool) (body : List ℕ) (C : ClearBody w offsets body) where
  starts : offset_in offsets body ≤ get_or body 0 0
  starts = ⊎_elim (λ h. omega arith) (λ h. let o = h.0 in omega arith) C.begins

  behind : w - (get_or body 0 0 - offset_in offsets body) ≡ w - get_or body 0 0 + offset_in offsets body
  behind = let h = C.within in let k = starts in omega arith

  -- the bits that the offset shifts out are clear
  shifted-out : number_at (w / 8) body (pattern_start offsets) % 2 ^ offset_in offsets body ≡ 0
  shifted-out =
      let n = number_at (w / 8) body (pattern_start offsets) in
      sym (mod-mod-pow n (w - get_or body 0 0) (offset_in offsets body)) ∙ rw (← behind, C.clear) (zero-mod (2 ^ offset_in offsets body))

  -- such a body spells a plain pattern
  pub clear-formed : (n : ℕ) → w ≡ 8 * n → Octets body → WellFormed w (pattern_in w offsets body)
  unfolding pattern_in
  clear-formed n wide o =
      let m = offset_in offsets body in
      let h = C.within in
      let k = starts in
      let e : w / 8 ≡ n = omega arith in
      let f : w ≡ w - m + m = omega arith in
      let small : number_at (w / 8) body (pattern_start offsets) < 2 ^ w = rw (e, wide, ← octets-bits n) (number_small n body (pattern_start offsets) o) in
      record {
        within = h;
        fits = shr_lt (w - m) m (rw (← f) small);
        clear = sym (field (number_at (w / 8) body (pattern_start offsets)) (w - get_or body 0 0) m) ∙ rw (← behind, C.clear) (zero-div (2 ^ m));
        begins = C.begins;
      }

-- bodies of one length that spell the same pattern are the same body
module _ (w : ℕ) (x y : List ℕ) (o : Octets x) (p : Octets y) (l : length x ≡ length y) where
  pub body-only : (offsets : Bool) → ClearBody w offsets x → ClearBody w offsets y → length x ≤ pattern_start offsets + w / 8
      → pattern_in w offsets x ≡ pattern_in w offsets y → x ≡ y
  unfolding pattern_in
  body-only offsets X Y h e = ext_get_or 0 x y l (go offsets h begin same)
    where
      lengths : get_or x 0 0 ≡ get_or y 0 0
      lengths = ap (λ (q : Pattern). q.length) e

      begin : offset_in offsets x ≡ offset_in offsets y
      begin = ap (λ (q : Pattern). q.offset) e

      same : number_at (w / 8) x (pattern_start offsets) ≡ number_at (w / 8) y (pattern_start offsets)
      same = same-clear (offset_in offsets x) _ _ (ap (λ (q : Pattern). q.address) e ∙ rw begin) (shifted-out w offsets x X) (rw begin (shifted-out w offsets y Y))

      go : (b : Bool) → length x ≤ pattern_start b + w / 8 → offset_in b x ≡ offset_in b y → number_at (w / 8) x (pattern_start b) ≡ number_at (w / 8) y (pattern_start b)
          → (i : ℕ) → i < length x → get_or x i 0 ≡ get_or y i 0
      go false k g f zero j = lengths
      go false k g f (suc i) j = let e : suc i ≡ 1 + i = omega arith in rw e (number-only (w / 8) x y 1 o p f i (omega arith))
      go true k g f zero j = lengths
      go true k g f (suc zero) j = g
      go true k g f (suc (suc i)) j = let e : suc (suc i) ≡ 2 + i = omega arith in rw e (number-only (w / 8) x y 2 o p f i (omega arith))

-- no octets are the number 0
no_number : (s : List ℕ) (at : ℕ) → number_at 0 s at ≡ 0
unfolding number_at
no_number s at = refl

-- a number in two parts
number-parts : (m n : ℕ) (s : List ℕ) (at : ℕ) → number_at (m + n) s at ≡ number_at m s at * 256 ^ n + number_at n s (at + m)
unfolding number_at
number-parts m zero s at = rw (add-zero m) (omega arith)
number-parts m (suc n) s at =
    rw (add-suc m n, number-parts m n s at, pow-suc 256 n, add_assoc at m n) (omega arith)

-- how the code comes to its answers: no octet is there, or those that are there are read
module _ (n at end stop : ℕ) (s : List ℕ) (few : n ≤ 8) (ends : end ≡ at + n) (stops : stop ≡ min end (length s)) where
  pub none-there : stop ≤ at → 0 ≡ number_at n s at
  none-there h =
      elim (dec_lt at (length s)) [
        | yes i ↦ let e : n ≡ 0 = omega arith in rw e (sym (no_number s at))
        | no i ↦ (number-out n at s (omega arith)).0
      ]

  pub some-there : (missing number : ℕ) → at < stop → missing ≡ end - stop → IsNumber (stop - at) s at number
      → number * 2 ^ (missing * 8) % 2 ^ 64 ≡ number_at n s at
  some-there missing number h e is =
      elim (dec_lt (length s) end) [
        | yes i ↦
            let f : stop ≡ length s = omega arith in
            (number_cut n missing at number s few (omega arith) (omega arith) (rw f at is)).0
        | no i ↦
            let f : stop - at ≡ n = omega arith in
            let z : missing ≡ 0 = omega arith in
            let most : 256 ^ n ≤ 256 ^ 8 = pow-le-pow_right {n = 256} (lit< tt) few in
            let small = rw f at is.1 in
            let one : number * 2 ^ (missing * 8) ≡ number = rw z (omega arith) in
            rw (one, mod-eq_of_lt {n = number} {m = 2 ^ 64} (omega arith), ← f) is.0
      ]

pub two-words : (count at few high low : ℕ) (s : List ℕ) → few ≡ min count 8 → high ≡ number_at (count - few) s at
    → low ≡ number_at few s (at + (count - few)) → address_of (record { high = high; low = low }) ≡ number_at count s at
two-words count at few high low s e f g =
    elim (dec_lt 8 count) [
      | yes h ↦
          let l : few ≡ 8 = omega arith in
          let k : count ≡ count - 8 + 8 = omega arith in
          rw (f, g, l) (sym (number-parts (count - 8) 8 s at) ∙ ap (λ (n : ℕ). number_at n s at) (sym k))
      | no h ↦
          let l : few ≡ count = omega arith in
          rw (f, g, l, sub_self count, no_number s at, add-zero at) (zero-add (number_at count s at))
    ]

pub an-offset : (offsets : Bool) (body : List ℕ) (octet : ℕ) → offsets ≡ true → octet ≡ get_or body 1 0 → octet ≡ offset_in offsets body
an-offset offsets body octet h e = rw h e

pub start-low : (offsets : Bool) (start : ℕ) → start ≡ pattern_start offsets → start ≤ 2
start-low false start e = omega arith
start-low true start e = omega arith

pub spells : (w start number : ℕ) (offsets : Bool) (body : List ℕ) (a : Address) (reach offset : ℕ) → reach ≡ get_or body 0 0 → offset ≡ offset_in offsets body
    → start ≡ pattern_start offsets → number ≡ number_at (w / 8) body start → address_of a ≡ number / 2 ^ offset
    → pattern_of (record { offset = offset; length = reach; address = a }) ≡ pattern_in w offsets body
unfolding pattern_in
spells w start number offsets body a reach offset l o p n e =
    let f : address_of a ≡ number_at (w / 8) body (pattern_start offsets) / 2 ^ offset_in offsets body = e ∙ rw (n, p, o) in
    λ i. record { offset = o i; length = l i; address = f i }
