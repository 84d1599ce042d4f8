-- Laws of limits: the smaller of two is one of the two; the smallest of several is the same in any grouping, also in which of those with
-- equal numbers is taken; no limit at either side changes nothing; and what could be a limit.
use Prim.Native.Nat.{ℕ, min}
use mathlib.Core.Path.{◌≡◌, refl}
use mathlib.Core.Bool.{Bool, true, false, cond, not, ◌&&◌, ◌||◌}
use mathlib.Core.Logic.{◌⊎◌, inl, inr}
use native.Mathlib.Omega.{arith}
use borrow.Author.Tests.{leb-true, leb-false, le-leb, lt-leb, eqb-true, not-false}
use lib.Dec.{leb, eqb}
use Rattle.octets.proofs.Cases.{by-test, both, neither}
use Rattle.rate.specs.Rate.{rate_given}
use Rattle.action.specs.declared.Limit.{Limit}
use Rattle.action.specs.Limit.{no_limit, limit, smaller_of, could_be_limit}

-- The test by which the first of two is taken.
abbrev pub taken : Limit → Limit → Bool
taken a b = a.present && (not b.present || leb a.number b.number)

module _ (a b : Limit) where
  pub smaller-first : taken a b ≡ true → smaller_of a b ≡ a
  unfolding smaller_of
  smaller-first h = rw h

  pub smaller-second : taken a b ≡ false → smaller_of a b ≡ b
  unfolding smaller_of
  smaller-second h = rw h

  -- The smaller of two is one of the two.
  pub smaller-either : (smaller_of a b ≡ a) ⊎ (smaller_of a b ≡ b)
  smaller-either = by-test (taken a b) (λ h. inl (smaller-first h)) (λ h. inr (smaller-second h))

  -- Of two that are there it is there, and its number is the smaller of theirs.
  pub smaller-number : a.present ≡ true → b.present ≡ true
      → ((smaller_of a b).present ≡ true) × ((smaller_of a b).number ≡ min a.number b.number)
  smaller-number p q =
      by-test (leb a.number b.number)
      (λ h. let le = leb-true a.number b.number h in rw (smaller-first (rw (p, q, h))) (p, omega arith))
      (λ h. let gt = leb-false a.number b.number h in rw (smaller-second (rw (p, q, h))) (q, omega arith))

module _ (a b c : Limit) where
  -- A first that is taken before a second, which is taken before a third, is taken before the third.
  taken-on : taken a b ≡ true → taken b c ≡ true → taken a c ≡ true
  taken-on h k =
      let p = both a.present (not b.present || leb a.number b.number) h in
      let q = both b.present (not c.present || leb b.number c.number) k in
      let le = leb-true a.number b.number (rw q.0 at p.1) in
      by-test c.present
      (λ there. let also = leb-true b.number c.number (rw there at q.1) in rw (p.0, there) (le-leb a.number c.number (omega arith)))
      (λ gone. rw (p.0, gone))

  -- One that is not taken before a second, which is not taken before a third, is not taken before the third.
  left-on : taken a b ≡ false → taken b c ≡ false → taken a c ≡ false
  left-on h k =
      by-test a.present
      (λ there.
      let p = neither (not b.present) (leb a.number b.number) (rw there at h) in
      let here = not-false b.present p.0 in
      let q = neither (not c.present) (leb b.number c.number) (rw here at k) in
      let gt = leb-false a.number b.number p.1 in
      let also = leb-false b.number c.number q.1 in
      rw (there, not-false c.present q.0) (lt-leb a.number c.number (omega arith)))
      (λ gone. rw gone)

  -- The smallest of three, and the first of those that are equal.
  pub smaller-assoc : smaller_of (smaller_of a b) c ≡ smaller_of a (smaller_of b c)
  smaller-assoc =
      by-test (taken a b)
      (λ h. by-test (taken b c)
      (λ k. rw (smaller-first a b h, smaller-first b c k, smaller-first a c (taken-on h k), smaller-first a b h))
      (λ k. rw (smaller-first a b h, smaller-second b c k)))
      (λ h. by-test (taken b c)
      (λ k. rw (smaller-second a b h, smaller-first b c k, smaller-second a b h))
      (λ k. rw (smaller-second a b h, smaller-second b c k, smaller-second a c (left-on h k))))

-- No limit before changes nothing, and none behind a limit that is there.
pub smaller_before : (l : Limit) → smaller_of no_limit l ≡ l
unfolding smaller_of
smaller_before l = refl

pub smaller-one : (number note : ℕ) → smaller_of (limit number note) no_limit ≡ limit number note
unfolding smaller_of
smaller-one number note = refl

-- No limit could be, and so could a rate that some single gives.
pub none-could : could_be_limit no_limit ≡ true
unfolding could_be_limit
none-could = refl

pub rate-could : (number note : ℕ) → rate_given number note ≡ true → could_be_limit (limit number note) ≡ true
unfolding could_be_limit
rate-could number note h = h

-- A limit that could be is a rate that some single gives, or none.
pub by-limit : (P : Limit → Type 0) → ((number note : ℕ) → rate_given number note ≡ true → P (limit number note)) → P no_limit
    → (l : Limit) → could_be_limit l ≡ true → P l
unfolding could_be_limit
by-limit P there gone l = go l.present l.number l.note
  where
    go : (p : Bool) (number note : ℕ) → cond p (rate_given number note) (eqb number 0 && eqb note 0) ≡ true
        → P (record { present = p; number = number; note = note })
    go true number note h = there number note h
    go false number note h = let z = both (eqb number 0) (eqb note 0) h in rw (eqb-true number 0 z.0, eqb-true note 0 z.1) gone

-- The smaller of two that could be could be.
pub smaller-could : (a b : Limit) → could_be_limit a ≡ true → could_be_limit b ≡ true → could_be_limit (smaller_of a b) ≡ true
smaller-could a b p q = by-test (taken a b) (λ h. rw (smaller-first a b h) p) (λ h. rw (smaller-second a b h) q)

-- No limit behind one that could be changes nothing.
pub smaller-behind : (l : Limit) → could_be_limit l ≡ true → smaller_of l no_limit ≡ l
unfolding smaller_of
smaller-behind = by-limit (λ l. smaller_of l no_limit ≡ l) (λ number note h. refl) refl
