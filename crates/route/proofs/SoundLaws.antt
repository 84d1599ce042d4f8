-- What a sound list of routes is good for: every prefix is plain, and no prefix stands in it twice. Assumes nothing.
use mathlib.Core.Path.{◌≡◌, refl, ap, sym, ◌∙◌}
use mathlib.Core.Bool.{true, ◌&&◌}
use mathlib.Core.List.Memᴰ
use mathlib.Core.List.{List, [], ◌∷◌, Memᴰ}
use mathlib.Core.Logic.{◌⊎◌, inl, inr, ⊎_elim}
use Prim.Native.Nat.{ℕ, zero, suc, ◌+◌, ◌-◌, ◌*◌, ◌/◌, ◌%◌, ◌^◌, ◌<◌, ◌≤◌}
use native.Mathlib.Decide.{dec_lt}
use native.Mathlib.Nat.{sub-zero, mul-suc, mul-le-mul_right, mul-mod_left}
use native.Mathlib.Omega.{arith}
use lib.Dec.{leb, ltb, eqb, lit<}
use lib.Pow.{pow-add}
use lib.ListN.{length, get_or}
use borrow.Author.Tests.{lt-ltb, le-ltb, ltb-true, leb-true, leb-false, le-leb, lt-leb, eq-eqb, eqb-true}
use Rattle.octets.specs.Test.{every}
use Rattle.octets.proofs.Cases.{by-test, both}
use Rattle.octets.proofs.TestLaws.{every-both}
use Rattle.prefix.specs.Prefix.{Pattern, WellFormed}
use Rattle.rule.specs.declared.Family.{Family}
use Rattle.rule.specs.Family.{Fits}
use Rattle.route.specs.Route.{Route, number_in_words, address_words, route_at, routes_from, routes_of, plain_prefix, rises, rising, most_routes, sound_routes}

-- the order of prefixes in a list: by address, then by length
abbrev Rises : Pattern → Pattern → Type 0
Rises p q = (p.address < q.address) ⊎ ((p.address ≡ q.address) × (p.length < q.length))

rises-says : (p q : Pattern) → rises p q ≡ true → Rises p q
unfolding rises
rises-says p q e =
    by-test (ltb p.address q.address) (λ t. inl (ltb-true p.address q.address t))
    (λ t.
    let h = both (eqb p.address q.address) (ltb p.length q.length) (rw t at e) in
    inr (eqb-true p.address q.address h.0, ltb-true p.length q.length h.1))

says-rises : (p q : Pattern) → Rises p q → rises p q ≡ true
unfolding rises
says-rises p q (inl h) = rw (lt-ltb p.address q.address h)
says-rises p q (inr h) =
    rw (le-ltb p.address q.address (omega arith), eq-eqb p.address q.address h.0, lt-ltb p.length q.length h.1)

rises-on : (p q r : Pattern) → Rises p q → Rises q r → Rises p r
rises-on p q r (inl h) (inl k) = inl (omega arith)
rises-on p q r (inl h) (inr k) = inl (omega arith)
rises-on p q r (inr h) (inl k) = inl (omega arith)
rises-on p q r (inr h) (inr k) = inr (omega arith, omega arith)

never-itself : (p q : Pattern) → Rises p q → p ≡ q → ⊥
never-itself p q (inl h) e = let f = ap (λ (x : Pattern). x.address) e in omega arith
never-itself p q (inr h) e = let f = ap (λ (x : Pattern). x.length) e in omega arith

-- where routes rise, those behind the first do
rest-rising : (r : Route) (rs : List Route) → rising (r ∷ rs) ≡ true → rising rs ≡ true
unfolding rising
rest-rising r [] e = refl
rest-rising r (s ∷ rs) e = (both (rises r.prefix s.prefix) (rising (s ∷ rs)) e).1

-- and the first comes before every other
first-before : (r : Route) (rs : List Route) → rising (r ∷ rs) ≡ true → (s : Route) → Memᴰ s rs → Rises r.prefix s.prefix
unfolding rising
first-before r [] e s m = absurd (Memᴰ.not-nil m)
first-before r (t ∷ rs) e s m =
    let f = both (rises r.prefix t.prefix) (rising (t ∷ rs)) e in
    let h = rises-says r.prefix t.prefix f.0 in
    let below = first-before t rs f.1 s in
    ⊎_elim (λ g. rw g h) (λ n. rises-on r.prefix t.prefix s.prefix h (below n)) (Memᴰ.cases_cons m)

-- where every prefix is plain, each is
every-plain : (w : ℕ) (rs : List Route) → every (λ (r : Route). plain_prefix w r.prefix) rs ≡ true → (r : Route) → Memᴰ r rs
    → plain_prefix w r.prefix ≡ true
every-plain w [] e r m = absurd (Memᴰ.not-nil m)
every-plain w (s ∷ rs) e r m =
    let f = every-both (λ (t : Route). plain_prefix w t.prefix) s rs e in
    let below = every-plain w rs f.1 r in
    ⊎_elim (λ g. rw g f.0) below (Memᴰ.cases_cons m)

-- a plain prefix of an address that fits is well-formed
plain-formed : (w : ℕ) (p : Pattern) → plain_prefix w p ≡ true → p.offset ≡ 0 → p.address < 2 ^ w → WellFormed w p
unfolding plain_prefix
plain-formed w p e o h =
    let f = both (leb p.length w) (eqb (p.address % 2 ^ (w - p.length)) 0) e in
    record {
      within = leb-true p.length w f.0;
      fits = rw (o, sub-zero w) h;
      clear = eqb-true (p.address % 2 ^ (w - p.length)) 0 f.1;
      begins = elim (dec_lt 0 p.length) [ yes k ↦ inl (rw o k) | no k ↦ inr (o, omega arith) ];
    }

-- no prefix stands twice among routes that rise
pub only-once : (rs : List Route) → rising rs ≡ true → (r s : Route) → Memᴰ r rs → Memᴰ s rs → r.prefix ≡ s.prefix → r ≡ s
only-once [] e r s m n same = absurd (Memᴰ.not-nil m)
only-once (t ∷ rs) e r s m n same =
    let below = only-once rs (rest-rising t rs e) r s in
    ⊎_elim
    (λ f.
    ⊎_elim (λ g. f ∙ sym g)
    (λ k. absurd (never-itself t.prefix s.prefix (first-before t rs e s k) (rw f at same)))
    (Memᴰ.cases_cons n))
    (λ l.
    ⊎_elim
    (λ g. absurd (never-itself t.prefix r.prefix (first-before t rs e r l) (sym (rw g at same))))
    (λ k. below l k same)
    (Memᴰ.cases_cons n))
    (Memᴰ.cases_cons m)

-- a number in n words of 32 bits has 32 * n bits
words-fit : (n : ℕ) (ws : List ℕ) (at : ℕ) → ((i : ℕ) → get_or ws i 0 < 2 ^ 32) → number_in_words n ws at < 2 ^ (32 * n)
unfolding number_in_words
words-fit zero ws at f = lit< tt
words-fit (suc n) ws at f =
    let h = words-fit n ws at f in
    let k = f (at + n) in
    rw (mul-suc 32 n, pow-add 2 (32 * n) 32) (omega arith)

-- each route has offset 0, and an address of the family's width
record Spelled (w : ℕ) (r : Route) : Type 0 where
  offset : r.prefix.offset ≡ 0
  fits : r.prefix.address < 2 ^ w

module _ (family : Family) (F : Fits family) (ws : List ℕ) (f : (i : ℕ) → get_or ws i 0 < 2 ^ 32) where
  route-spelled : (at : ℕ) → Spelled family.width (route_at family ws at)
  unfolding route_at
  route-spelled at =
      let h = F.words in
      let e : family.width ≡ 32 * address_words family = omega arith in
      record { offset = refl; fits = rw e (words-fit (address_words family) ws at f) }

  routes-spelled : (n at : ℕ) (r : Route) → Memᴰ r (routes_from family n ws at) → Spelled family.width r
  unfolding routes_from
  routes-spelled zero at r m = absurd (Memᴰ.not-nil m)
  routes-spelled (suc n) at r m =
      let below = routes-spelled n (at + family.words) r in
      ⊎_elim (λ e. rw e (route-spelled at)) below (Memᴰ.cases_cons m)

-- sound words spell routes that rise, each with a plain prefix
module _ (family : Family) (ws : List ℕ) (sound : sound_routes family ws ≡ true) where
  routes-sound : (every (λ (r : Route). plain_prefix family.width r.prefix) (routes_of family ws) ≡ true) × (rising (routes_of family ws) ≡ true)
  unfolding sound_routes
  routes-sound =
      let plain = every (λ (r : Route). plain_prefix family.width r.prefix) (routes_of family ws) in
      let short = leb (length ws) (most_routes * family.words) in
      both plain (rising (routes_of family ws))
      (both short (plain && rising (routes_of family ws))
      (both (eqb (length ws % family.words) 0) (short && (plain && rising (routes_of family ws))) sound).1).1

  pub sound-rising : rising (routes_of family ws) ≡ true
  sound-rising = routes-sound.1

  -- so every prefix is well-formed, where each word has 32 bits
  pub sound-formed : Fits family → ((i : ℕ) → get_or ws i 0 < 2 ^ 32) → (r : Route) → Memᴰ r (routes_of family ws) → WellFormed family.width r.prefix
  unfolding routes_of
  sound-formed F fits r m =
      let h = routes-spelled family F ws fits (length ws / family.words) 0 r m in
      plain-formed family.width r.prefix (every-plain family.width (routes_of family ws) routes-sound.0 r m) h.offset h.fits

-- so many routes: up to 4,096 of them are not too many, whatever words one has, and one more is
pub route-limit : (family : Family) → 0 < family.words → (ws : List ℕ) (n : ℕ) → length ws ≡ n * family.words
    → sound_routes family ws ≡ leb n 4096 && (every (λ (r : Route). plain_prefix family.width r.prefix) (routes_of family ws) && rising (routes_of family ws))
unfolding sound_routes
route-limit family some ws n e =
    let limit : leb (n * family.words) (most_routes * family.words) ≡ leb n 4096 =
    by-test (leb n 4096)
    (λ t. rw t (le-leb (n * family.words) (most_routes * family.words) (mul-le-mul_right family.words (leb-true n 4096 t))))
    (λ t.
    let over : 4097 ≤ n = leb-false n 4096 t in
    let more = mul-le-mul_right family.words over in
    rw t (lt-leb (n * family.words) (most_routes * family.words) (omega arith))) in
    rw (e, mul-mod_left n family.words, limit)
