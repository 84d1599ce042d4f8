-- Containment of patterns of any width: what it says, that it is an order, and the same by shifts and by intervals of addresses.
-- Assumes nothing.
use mathlib.Core.Path.{◌≡◌, refl, ap, ap₂, sym, ◌∙◌}
use mathlib.Core.Bool.{Bool, true, false, ◌&&◌, ◌||◌, or-true, and-false}
use mathlib.Core.List.{List, ◌∷◌, head-eq_of_cons-eq, tail-eq_of_cons-eq}
use mathlib.Core.Logic.{⊎_elim}
use Prim.Native.Nat.{ℕ, ◌+◌, ◌-◌, ◌*◌, ◌/◌, ◌%◌, ◌^◌, ◌≤◌, ◌<◌, min}
use native.Mathlib.Omega.{arith}
use native.Mathlib.Decide.{dec_lt}
use native.Mathlib.Nat.{mod-lt, mod-eq_of_lt}
use lib.Dec.{leb, ltb, eqb}
use lib.ListN.{length, take}
use lib.Seq.{take-take}
use lib.Pow.{pow_pos, split, high}
use borrow.Author.Tests.{le-leb, lt-leb, lt-ltb, leb-true, ltb-true, eq-eqb, ne_eqb, eqb-true}
use Rattle.octets.specs.Test.{same_list}
use Rattle.octets.proofs.Cases.{both, by-test, same_test}
use Rattle.octets.proofs.TestLaws.{same-list, list_same}
use Rattle.prefix.proofs.BitLaws.{between_first, length-between, same-clear, same-between}
use Rattle.prefix.specs.Prefix.{Pattern, bits, bits_between, pattern_bits, covers_address, contains, WellFormed}

-- what one pattern's containing another says: both begin at one offset, it is no longer, and its bits are the other's first
pub record Inside (w : ℕ) (p q : Pattern) : Type 0 where
  pub aligned : p.offset ≡ q.offset
  pub longer : p.length ≤ q.length
  pub begins : pattern_bits w p ≡ bits_between w p.offset p.length q.address

pub contains-says : (w : ℕ) (p q : Pattern) → contains w p q ≡ true → Inside w p q
unfolding contains covers_address
contains-says w p q e =
    let h = both (eqb p.offset q.offset) (leb p.length q.length && same_list (pattern_bits w p) (bits_between w p.offset p.length q.address)) e in
    let k = both (leb p.length q.length) (same_list (pattern_bits w p) (bits_between w p.offset p.length q.address)) h.1 in
    record { aligned = eqb-true p.offset q.offset h.0; longer = leb-true p.length q.length k.0; begins = same-list _ _ k.1 }

pub says-contains : (w : ℕ) (p q : Pattern) → Inside w p q → contains w p q ≡ true
unfolding contains covers_address
says-contains w p q i =
    rw (eq-eqb p.offset q.offset i.aligned, le-leb p.length q.length i.longer, i.begins)
    (list_same (bits_between w p.offset p.length q.address))

-- a pattern contains none of another offset and no shorter one, and of any other the bits decide
module _ (w : ℕ) (p q : Pattern) where
  pub other_offset : (p.offset ≡ q.offset → ⊥) → false ≡ contains w p q
  unfolding contains
  other_offset h = rw (ne_eqb p.offset q.offset h)

  pub no-shorter : q.length < p.length → false ≡ contains w p q
  unfolding contains
  no-shorter h = rw (lt-leb p.length q.length h) (sym (and-false (eqb p.offset q.offset)))

  pub by_bits : (r : Bool) → p.offset ≡ q.offset → p.length ≤ q.length → r ≡ covers_address w p q.address → r ≡ contains w p q
  unfolding contains
  by_bits r o h e = rw (eq-eqb p.offset q.offset o, le-leb p.length q.length h) e

-- lists are the same either way round
same-sym : (x y : List ℕ) → same_list x y ≡ same_list y x
same-sym x y =
    same_test (same_list x y) (same_list y x) (λ t. rw (same-list x y t) (list_same y)) (λ t. rw (same-list y x t) (list_same x))

-- of two patterns one contains the other where the one that is no longer contains the other
module _ (w : ℕ) (p q : Pattern) where
  both_ways : p.length ≤ q.length → contains w q p ≡ true → contains w p q ≡ true
  both_ways h t =
      let i = contains-says w q p t in
      let longer = i.longer in
      let long : p.length ≡ q.length = omega arith in
      let at : (a : ℕ) → bits_between w q.offset q.length a ≡ bits_between w p.offset p.length a
      = λ a. ap₂ (λ m n. bits_between w m n a) i.aligned (sym long) in
      says-contains w p q (record { aligned = sym i.aligned; longer = h; begins = sym (at p.address) ∙ sym i.begins ∙ at q.address })

  nested-longer : (r : Bool) → p.length ≤ q.length → r ≡ contains w p q → r ≡ (contains w p q || contains w q p)
  nested-longer r h e =
      e ∙ same_test (contains w p q) (contains w p q || contains w q p) (λ t. rw t)
      (λ t. by-test (contains w p q) (λ u. u) (λ u. both_ways h (rw u at t)))

  nested-shorter : (r : Bool) → q.length < p.length → r ≡ contains w q p → r ≡ (contains w p q || contains w q p)
  nested-shorter r h e = e ∙ rw (← no-shorter w p q h)

  -- how the code comes to its answer: by the offsets, or by the bits up to the lesser length
  pub apart-offsets : (p.offset ≡ q.offset → ⊥) → false ≡ (contains w p q || contains w q p)
  apart-offsets h = rw (← other_offset w p q h, ← other_offset w q p (λ e. h (sym e)))

  pub nested-by-bits : (r : Bool) (shared : ℕ) → p.offset ≡ q.offset → shared ≡ min p.length q.length
      → r ≡ same_list (bits_between w p.offset shared p.address) (bits_between w p.offset shared q.address)
      → r ≡ (contains w p q || contains w q p)
  unfolding covers_address
  nested-by-bits r shared o s e =
      elim (dec_lt q.length p.length) [
        | yes h ↦
            let is : shared ≡ q.length = omega arith in
            nested-shorter r h (by_bits w q p r (sym o) (omega arith) (e ∙ same-sym _ _ ∙ rw (is, o) refl))
        | no h ↦
            let is : shared ≡ p.length = omega arith in
            nested-longer r (omega arith) (by_bits w p q r o (omega arith) (e ∙ rw is refl))
      ]

-- every pattern contains itself
pub contains-self : (w : ℕ) (p : Pattern) → contains w p p ≡ true
contains-self w p = says-contains w p p (record { aligned = refl; longer = omega arith; begins = refl })

-- two addresses with the same bits up to their first n have the same up to their first l, for l at most n
fewer : (w m n l a b : ℕ) → l ≤ n → bits_between w m n a ≡ bits_between w m n b → bits_between w m l a ≡ bits_between w m l b
fewer w m n l a b h e = cut a ∙ ap (take (l - m)) e ∙ sym (cut b)
  where
    cut : (c : ℕ) → bits_between w m l c ≡ take (l - m) (bits_between w m n c)
    cut c = rw (between_first w m l c, between_first w m n c) (sym (take-take (l - m) (n - m) (bits (w - m) c) (omega arith)))

-- what a contained pattern contains is contained
pub contains-on : (w : ℕ) (p q r : Pattern) → contains w p q ≡ true → contains w q r ≡ true → contains w p r ≡ true
contains-on w p q r e f =
    let h = contains-says w p q e in
    let k = contains-says w q r f in
    let o = h.aligned in
    says-contains w p r
    (record {
      aligned = h.aligned ∙ k.aligned;
      longer = omega arith;
      begins = h.begins ∙ fewer w p.offset q.length p.length q.address r.address h.longer (rw (← o) at k.begins);
    })

-- of two patterns that contain a third, one no longer than the other contains it
pub nested : (w : ℕ) (p q r : Pattern) → p.length ≤ q.length → contains w p r ≡ true → contains w q r ≡ true → contains w p q ≡ true
nested w p q r l e f =
    let h = contains-says w p r e in
    let k = contains-says w q r f in
    let o : p.offset ≡ q.offset = h.aligned ∙ sym k.aligned in
    says-contains w p q
    (record {
      aligned = o;
      longer = l;
      begins = h.begins ∙ sym (fewer w p.offset q.length p.length q.address r.address l (rw (← o) at k.begins));
    })

-- of two patterns that contain a third, one contains the other
pub contains-one-way : (w : ℕ) (p q r : Pattern) → contains w p r ≡ true → contains w q r ≡ true → contains w p q || contains w q p ≡ true
contains-one-way w p q r e f =
    elim (dec_lt q.length p.length) [
      | yes h ↦ rw (nested w q p r (omega arith) f e) (or-true (contains w p q))
      | no h ↦ rw (nested w p q r (omega arith) e f)
    ]

-- patterns that differ past their length at most cover the same addresses, and contain and are contained in the same patterns
pub record Alike (w : ℕ) (p q : Pattern) : Type 0 where
  pub offset : p.offset ≡ q.offset
  pub length : p.length ≡ q.length
  pub begin : pattern_bits w p ≡ pattern_bits w q

module _ (w : ℕ) (p q : Pattern) (same : Alike w p q) where
  pub covers-alike : (a : ℕ) → covers_address w p a ≡ covers_address w q a
  unfolding covers_address
  covers-alike a = rw (same.begin, same.offset, same.length)

  pub contains-alike : (r : Pattern) → contains w p r ≡ contains w q r
  unfolding contains
  contains-alike r = rw (covers-alike r.address, same.offset, same.length)

  pub contained-alike : (r : Pattern) → contains w r p ≡ contains w r q
  contained-alike r =
      let o = same.offset in
      let l = same.length in
      let begin : bits_between w p.offset p.length p.address ≡ bits_between w p.offset p.length q.address = same.begin ∙ rw (← o, ← l) in
      let under : r.offset ≡ p.offset → r.length ≤ p.length → bits_between w r.offset r.length p.address ≡ bits_between w r.offset r.length q.address =
      λ a h. rw a (fewer w p.offset p.length r.length p.address q.address h begin) in
      same_test (contains w r p) (contains w r q)
      (λ t.
      let i = contains-says w r p t in
      let longer = i.longer in
      says-contains w r q (record { aligned = i.aligned ∙ o; longer = omega arith; begins = i.begins ∙ under i.aligned longer }))
      (λ t.
      let i = contains-says w r q t in
      let longer = i.longer in
      let aligned : r.offset ≡ p.offset = i.aligned ∙ sym o in
      says-contains w r p (record { aligned = aligned; longer = omega arith; begins = i.begins ∙ sym (under aligned (omega arith)) }))

-- a plain pattern ends no sooner than it begins
pub begins-within : (w : ℕ) (p : Pattern) → WellFormed w p → p.offset ≤ p.length
begins-within w p P = ⊎_elim (λ h. omega arith) (λ h. let o = h.0 in omega arith) P.begins

-- the same by shifts: a pattern contains another that begins at its offset, is no shorter and is the same once shifted until only the
-- pattern's bits are left
pub contains-shifted : (w : ℕ) (p q : Pattern) → WellFormed w p → WellFormed w q
    → contains w p q ≡ eqb p.offset q.offset && (leb p.length q.length && eqb (p.address / 2 ^ (w - p.length)) (q.address / 2 ^ (w - p.length)))
unfolding contains covers_address
contains-shifted w p q P Q =
    by-test (eqb p.offset q.offset)
    (λ t.
    let o = eqb-true p.offset q.offset t in
    rw (
      t,
      same-between w p.offset p.length p.address q.address (begins-within w p P),
      mod-eq_of_lt P.fits,
      mod-eq_of_lt (rw (← o) at Q.fits),
    ))
    (λ t. rw t)

-- numbers that are equal once shifted are those of one block, which begins where the low bits are clear
one_block : (k a b : ℕ) → a % 2 ^ k ≡ 0 → eqb (a / 2 ^ k) (b / 2 ^ k) ≡ leb a b && ltb b (a + 2 ^ k)
one_block k a b c =
    same_test (eqb (a / 2 ^ k) (b / 2 ^ k)) (leb a b && ltb b (a + 2 ^ k))
    (λ t.
    let e = eqb-true (a / 2 ^ k) (b / 2 ^ k) t in
    let s = split a k in
    let u = rw (← e) at (split b k) in
    let v = mod-lt b (pow_pos k) in
    rw (le-leb a b (omega arith), lt-ltb b (a + 2 ^ k) (omega arith)))
    (λ t.
    let h = both (leb a b) (ltb b (a + 2 ^ k)) t in
    let l = leb-true a b h.0 in
    let m = ltb-true b (a + 2 ^ k) h.1 in
    let s = split a k in
    let u : b - a < 2 ^ k = omega arith in
    let e : b ≡ a / 2 ^ k * 2 ^ k + (b - a) = omega arith in
    eq-eqb (a / 2 ^ k) (b / 2 ^ k) (sym (high (a / 2 ^ k) k u) ∙ ap (λ (n : ℕ). n / 2 ^ k) (sym e)))

-- the same by addresses: a pattern contains another that begins at its offset, is no shorter and whose address lies among its own
pub contains-among : (w : ℕ) (p q : Pattern) → WellFormed w p → WellFormed w q
    → contains w p q
    ≡ eqb p.offset q.offset && (leb p.length q.length && (leb p.address q.address && ltb q.address (p.address + 2 ^ (w - p.length))))
contains-among w p q P Q = contains-shifted w p q P Q ∙ rw (one_block (w - p.length) p.address q.address P.clear)

-- plain patterns of one offset and as many equal bits are one pattern: the bits' number gives the length, and no bit is set past it
pub tie : (w : ℕ) (p q : Pattern) → WellFormed w p → WellFormed w q → p.offset ∷ pattern_bits w p ≡ q.offset ∷ pattern_bits w q → p ≡ q
tie w p q P Q e =
    let k = w - p.length in
    let o : p.offset ≡ q.offset = head-eq_of_cons-eq e in
    let b = tail-eq_of_cons-eq e in
    let g = begins-within w p P in
    let h = begins-within w q Q in
    let m : p.length - p.offset ≡ q.length - q.offset =
    sym (length-between w p.offset p.length p.address P.within) ∙ ap length b ∙ length-between w q.offset q.length q.address Q.within in
    let l : p.length ≡ q.length = omega arith in
    let s : contains w p q ≡ true = says-contains w p q (record { aligned = o; longer = omega arith; begins = rw (← o, ← l) at b }) in
    let t = both (eqb p.offset q.offset) (leb p.length q.length && eqb (p.address / 2 ^ k) (q.address / 2 ^ k)) (sym (contains-shifted w p q P Q) ∙ s) in
    let f = eqb-true (p.address / 2 ^ k) (q.address / 2 ^ k) (both (leb p.length q.length) (eqb (p.address / 2 ^ k) (q.address / 2 ^ k)) t.1).1 in
    let a = same-clear k p.address q.address f P.clear (rw (← l) at Q.clear) in
    λ i. record { offset = o i; length = l i; address = a i }

-- two plain patterns that contain one another are one
pub contains-both-ways : (w : ℕ) (p q : Pattern) → WellFormed w p → WellFormed w q → contains w p q ≡ true → contains w q p ≡ true → p ≡ q
contains-both-ways w p q P Q e f =
    let h = contains-says w p q e in
    let k = contains-says w q p f in
    let o = h.aligned in
    let l : p.length ≡ q.length = omega arith in
    let b : pattern_bits w p ≡ pattern_bits w q = h.begins ∙ rw (o, l) in
    tie w p q P Q (λ i. o i ∷ b i)
