-- The head of an attribute: how the code comes to each test of it; **that an attribute is taken exactly where its octets are those that
-- specs/Refusals.antt writes out**, so that every other is 19; and that none is taken for both families. Assumes nothing.
use mathlib.Core.Path.{◌≡◌, refl, ap, ◌∙◌}
use mathlib.Core.Bool.{Bool, true, false, ◌&&◌, and-false}
use mathlib.Core.List.{List, ◌∷◌}
use mathlib.Core.Logic.{◌↔◌}
use Prim.Native.Nat.{ℕ, ◌<◌, ◌≤◌}
use native.Mathlib.Omega.{arith}
use lib.Dec.{leb, ltb, eqb}
use lib.ListN.{length, get_or, drop}
use lib.Seq.{drop-cons}
use borrow.Author.Tests.{ltb-true, leb-true, eqb-true, le-leb, eq-eqb, ne_eqb}
use Rattle.octets.specs.Number.{number_at}
use Rattle.octets.proofs.Cases.{by-test, both}
use Rattle.rule.specs.declared.Family.{Family}
use Rattle.rule.specs.Family.{ipv4, ipv6}
use Rattle.attribute.specs.Head.{afi_of, is_of_family, is_reach, is_unreach, flow_safi, reach_head, unreach_head}
use Rattle.attribute.specs.Refusals.{ReachOctets, UnreachOctets}

-- the AFI of IP version 4, and of IP version 6
module _ (family : Family) where
  pub afi-four : family.version ≡ 4 → 1 ≡ afi_of family
  unfolding afi_of
  afi-four h = rw (eq-eqb family.version 4 h)

  pub afi-six : (family.version ≡ 4 → ⊥) → 2 ≡ afi_of family
  unfolding afi_of
  afi-six h = rw (ne_eqb family.version 4 h)

  module _ (a : List ℕ) where
    pub of-family : (afi safi own : ℕ) → afi ≡ number_at 2 a 0 → safi ≡ get_or a 2 0 → own ≡ afi_of family
        → eqb afi own && eqb safi flow_safi ≡ is_of_family family a
    unfolding is_of_family
    of-family afi safi own e f g = rw (e, f, g)

    -- what is taken, by the test of the family
    module _ (same : Bool) (is : same ≡ is_of_family family a) where
      pub reach-head : (next-hop : ℕ) → next-hop ≡ get_or a 3 0 → ltb reach_head (length a) && (same && eqb next-hop 0) ≡ is_reach family a
      unfolding is_reach
      reach-head next-hop e = rw (e, is)

      pub unreach-head : leb unreach_head (length a) && same ≡ is_unreach family a
      unfolding is_unreach
      unreach-head = rw is

-- ---- by octets ----

-- the test of the length, where all others hold
long-enough : (n m : ℕ) → n ≤ m → leb n m && true ≡ true
long-enough n m h = rw (le-leb n m h)

-- an AFI stands in the second of its two octets
pub afi-small : (family : Family) → afi_of family < 256
unfolding afi_of
afi-small family = by-test (eqb family.version 4) (λ t. rw t (omega arith)) (λ t. rw t (omega arith))

-- the two octets of a small number
octets-afi : (n : ℕ) (rest : List ℕ) → number_at 2 (0 ∷ n ∷ rest) 0 ≡ n
unfolding number_at
octets-afi n rest = omega arith

module _ (family : Family) (a : List ℕ) where
  -- three octets are of the family's AFI and SAFI 133
  family-octets : 3 ≤ length a → is_of_family family a ≡ true → a ≡ 0 ∷ afi_of family ∷ 133 ∷ drop 3 a
  unfolding is_of_family number_at
  family-octets whole e =
      let tests = both (eqb (number_at 2 a 0) (afi_of family)) (eqb (get_or a 2 0) flow_safi) e in
      let afi = eqb-true (number_at 2 a 0) (afi_of family) tests.0 in
      let small = afi-small family in
      let high : get_or a 0 0 ≡ 0 = omega arith in
      let low : get_or a 1 0 ≡ afi_of family = omega arith in
      let safi = eqb-true (get_or a 2 0) flow_safi tests.1 in
      drop-cons a 0 0 (omega arith) ∙ rw (high, drop-cons a 1 0 (omega arith), low, drop-cons a 2 0 (omega arith), safi)

  reach-is : is_reach family a ≡ true → ReachOctets family a
  unfolding is_reach
  reach-is e =
      let tests = both (ltb reach_head (length a)) (is_of_family family a && eqb (get_or a 3 0) 0) e in
      let long = ltb-true reach_head (length a) tests.0 in
      let rest = both (is_of_family family a) (eqb (get_or a 3 0) 0) tests.1 in
      let none = eqb-true (get_or a 3 0) 0 rest.1 in
      let behind : drop 3 a ≡ 0 ∷ get_or a 4 0 ∷ get_or a 5 0 ∷ drop 6 a =
      drop-cons a 3 0 (omega arith) ∙ rw (none, drop-cons a 4 0 (omega arith), drop-cons a 5 0 (omega arith)) in
      record {
        reserved = get_or a 4 0;
        first = get_or a 5 0;
        rest = drop 6 a;
        is = family-octets (omega arith) rest.0 ∙ ap (λ s. 0 ∷ afi_of family ∷ 133 ∷ s) behind;
      }

  -- octets that begin with the family's AFI and SAFI 133 are of the family
  of-octets : (rest : List ℕ) → a ≡ 0 ∷ afi_of family ∷ 133 ∷ rest → is_of_family family a ≡ true
  unfolding is_of_family
  of-octets rest e =
      let afi : number_at 2 a 0 ≡ afi_of family = rw e (octets-afi (afi_of family) (133 ∷ rest)) in
      let safi : get_or a 2 0 ≡ 133 = rw e refl in
      rw (eq-eqb (number_at 2 a 0) (afi_of family) afi, safi)

  is-reach : ReachOctets family a → is_reach family a ≡ true
  unfolding is_reach
  is-reach r =
      let long : 5 < length a = rw r.is (omega arith) in
      let none : get_or a 3 0 ≡ 0 = rw r.is refl in
      rw (of-octets (0 ∷ r.reserved ∷ r.first ∷ r.rest) r.is, none) (long-enough 6 (length a) (omega arith))

  -- **which octets are taken as a reach**
  pub reach-octets : (is_reach family a ≡ true) ↔ ReachOctets family a
  reach-octets = (reach-is, is-reach)

  unreach-is : is_unreach family a ≡ true → UnreachOctets family a
  unfolding is_unreach
  unreach-is e =
      let tests = both (leb unreach_head (length a)) (is_of_family family a) e in
      record { rest = drop 3 a; is = family-octets (leb-true unreach_head (length a) tests.0) tests.1 }

  is-unreach : UnreachOctets family a → is_unreach family a ≡ true
  unfolding is_unreach
  is-unreach u =
      let long : 3 ≤ length a = rw u.is (omega arith) in
      rw (of-octets u.rest u.is) (long-enough 3 (length a) long)

  -- **which octets are taken as an unreach**
  pub unreach-octets : (is_unreach family a ≡ true) ↔ UnreachOctets family a
  unreach-octets = (unreach-is, is-unreach)

-- the AFIs of IPv4 and IPv6 are 1 and 2, the numbers of RFC 4760's registry
pub afi-numbers : (afi_of ipv4 ≡ 1) × (afi_of ipv6 ≡ 2)
unfolding afi_of
afi-numbers = (refl, refl)

-- an attribute of IPv6 is none of IPv4
not-of-both : (a : List ℕ) → is_of_family ipv6 a ≡ true → is_of_family ipv4 a ≡ false
unfolding is_of_family afi_of
not-of-both a six =
    let afi = eqb-true (number_at 2 a 0) 2 (both (eqb (number_at 2 a 0) 2) (eqb (get_or a 2 0) flow_safi) six).0 in
    rw afi

-- **no attribute is taken for both families**: each family's calls answer 19 to the other's AFI
pub not-both-reach : (a : List ℕ) → is_reach ipv6 a ≡ true → is_reach ipv4 a ≡ false
unfolding is_reach
not-both-reach a six =
    let rest = (both (ltb reach_head (length a)) (is_of_family ipv6 a && eqb (get_or a 3 0) 0) six).1 in
    rw (not-of-both a (both (is_of_family ipv6 a) (eqb (get_or a 3 0) 0) rest).0, and-false)

pub not-both-unreach : (a : List ℕ) → is_unreach ipv6 a ≡ true → is_unreach ipv4 a ≡ false
unfolding is_unreach
not-both-unreach a six = rw (not-of-both a (both (leb unreach_head (length a)) (is_of_family ipv6 a) six).1, and-false)
