-- The routes that words spell, one after the other, and the soundness of a list route by route. Assumes nothing.
use mathlib.Core.Path.{◌≡◌, refl, ap, sym, ◌∙◌}
use mathlib.Core.Bool.{Bool, true, false, ◌&&◌, ◌||◌, and-false, and_assoc, or-false}
use mathlib.Core.List.{List, [], ◌∷◌, ◌++◌}
use Prim.Native.Nat.{ℕ, zero, suc, ◌+◌, ◌-◌, ◌*◌, ◌/◌, ◌%◌, ◌^◌, ◌≤◌, ◌<◌}
use native.Mathlib.Omega.{arith}
use native.Mathlib.Nat.{zero-add, add-zero, add-suc, add_assoc, pow-suc, sub-zero, mul-le-mul_right, div-eq_of_lt, div-eq-sub-div}
use native.Mathlib.Numerals.{add-one}
use lib.Dec.{ltb, eqb, lit<}
use lib.ListN.{length, get_or, length-append, get_or-append}
use Rattle.std.proofs.lemmas.List.{get_or-append-add}
use borrow.Author.Tests.{lt-ltb, le-ltb, ltb-true, ltb-false, le-leb, lt-leb, eq-eqb, ne_eqb, eqb-true, eqb-false}
use Rattle.octets.specs.Test.{every}
use Rattle.octets.proofs.Cases.{by-test}
use Rattle.prefix.specs.declared.Address.{Address}
use Rattle.prefix.specs.declared.Prefix.{Prefix}
use Rattle.prefix.specs.Prefix.{Pattern, address_of, pattern_of}
use Rattle.prefix.proofs.BitLaws.{eqb-parts}
use Rattle.rule.specs.declared.Family.{Family}
use Rattle.rule.specs.Family.{Fits}
use Rattle.route.specs.declared.Route.{Route as RouteInCode}
use Rattle.route.specs.Route.{Route, route_of, number_in_words, address_words, route_at, routes_from, routes_of, plain_prefix, rises, rising, most_routes, sound_routes}
use Rattle.route.specs.Pass.{may_follow}

-- the routes from a place on
abbrev pub ahead : Family → List ℕ → ℕ → List Route
ahead family ws at = routes_from family ((length ws - at) / family.words) ws at

pub routes-all : (family : Family) (ws : List ℕ) → ahead family ws 0 ≡ routes_of family ws
unfolding routes_of
routes-all family ws = rw (sub-zero (length ws))

-- as many words as a route has are one route more, and fewer are none
pub routes-next : (family : Family) (ws : List ℕ) (at : ℕ) → 0 < family.words → family.words ≤ length ws - at
    → ahead family ws at ≡ route_at family ws at ∷ ahead family ws (at + family.words)
unfolding routes_from
routes-next family ws at some h =
    let e : length ws - at - family.words ≡ length ws - (at + family.words) = omega arith in
    let f : (length ws - at) / family.words ≡ suc ((length ws - (at + family.words)) / family.words) = div-eq-sub-div some h ∙ rw (e, add-one) in
    rw f

pub routes-end : (family : Family) (ws : List ℕ) (at : ℕ) → length ws - at < family.words → ahead family ws at ≡ []
unfolding routes_from
routes-end family ws at h = rw (div-eq_of_lt h)

-- the words of a route are no matter to those behind it, nor these to it
number-behind : (n : ℕ) (own rest : List ℕ) (at : ℕ) → number_in_words n (own ++ rest) (length own + at) ≡ number_in_words n rest at
unfolding number_in_words
number-behind zero own rest at = refl
number-behind (suc n) own rest at = rw (number-behind n own rest at, add_assoc, get_or-append-add own rest (at + n) 0)

number-before : (n : ℕ) (own rest : List ℕ) → n ≤ length own → number_in_words n (own ++ rest) 0 ≡ number_in_words n own 0
unfolding number_in_words
number-before zero own rest h = refl
number-before (suc n) own rest h = rw (number-before n own rest (omega arith), get_or-append own rest 0 (0 + n) (omega arith))

module _ (family : Family) (own rest : List ℕ) where
  route-behind : (at : ℕ) → route_at family (own ++ rest) (length own + at) ≡ route_at family rest at
  unfolding route_at
  route-behind at =
      let n : ℕ = address_words family in
      rw (
        number-behind n own rest at,
        add_assoc (length own) at n,
        add_assoc (length own) (at + n) 1,
        add_assoc (length own) (at + n) 2,
        get_or-append-add own rest (at + n) 0,
        get_or-append-add own rest (at + n + 1) 0,
        get_or-append-add own rest (at + n + 2) 0,
      )

  routes-behind : (n at : ℕ) → routes_from family n (own ++ rest) (length own + at) ≡ routes_from family n rest at
  unfolding routes_from
  routes-behind zero at = refl
  routes-behind (suc n) at = rw (route-behind at, add_assoc (length own) at family.words, routes-behind n (at + family.words))

  module _ (F : Fits family) (size : length own ≡ family.words) where
    route-before : route_at family (own ++ rest) 0 ≡ route_at family own 0
    unfolding route_at
    route-before =
        let words = F.words in
        let n : ℕ = address_words family in
        rw (
          number-before n own rest (omega arith),
          get_or-append own rest 0 (0 + n) (omega arith),
          get_or-append own rest 0 (0 + n + 1) (omega arith),
          get_or-append own rest 0 (0 + n + 2) (omega arith),
        )

    -- the first words, as many as a route has, are one route more
    pub routes-front : (ws : List ℕ) → ws ≡ own ++ rest → routes_of family ws ≡ route_at family own 0 ∷ routes_of family rest
    unfolding routes_of
    routes-front ws cut =
        let words = F.words in
        let more : length ws ≡ length own + length rest = ap length cut ∙ length-append own rest in
        let e : length ws - (0 + family.words) ≡ length rest = omega arith in
        let behind : 0 + family.words ≡ length own + 0 = omega arith in
        sym (routes-all family ws)
        ∙ routes-next family ws 0 (omega arith) (omega arith)
        ∙ rw (e, cut, route-before, behind, routes-behind (length rest / family.words) 0)

-- and fewer are none
pub routes-none : (family : Family) (ws : List ℕ) → length ws < family.words → routes_of family ws ≡ []
routes-none family ws h = sym (routes-all family ws) ∙ routes-end family ws 0 (omega arith)

-- the routes rise behind a prefix before them
pub rising_behind : Pattern → List Route → Bool
rising_behind previous [] = true
rising_behind previous (r ∷ rs) = rises previous r.prefix && rising_behind r.prefix rs

rising-behind : (r : Route) (rs : List Route) → rising (r ∷ rs) ≡ rising_behind r.prefix rs
unfolding rising rising_behind
rising-behind r [] = refl
rising-behind r (s ∷ rs) = rw (rising-behind s rs)

-- every prefix is plain, and the routes rise: from the first on, and behind a prefix before them
abbrev in_order : ℕ → List Route → Bool
in_order w rs = every (λ (r : Route). plain_prefix w r.prefix) rs && rising rs

abbrev in_order_behind : ℕ → Pattern → List Route → Bool
in_order_behind w previous rs = every (λ (r : Route). plain_prefix w r.prefix) rs && rising_behind previous rs

in-turn : (a b c d : Bool) → ((a && b) && (c && d)) ≡ ((a && c) && (b && d))
in-turn true b true d = refl
in-turn true b false d = and-false b
in-turn false b c d = refl

first-in-order : (w : ℕ) (r : Route) (rs : List Route) → in_order w (r ∷ rs) ≡ plain_prefix w r.prefix && in_order_behind w r.prefix rs
unfolding every
first-in-order w r rs =
    rw (rising-behind r rs) (and_assoc (plain_prefix w r.prefix) (every (λ (s : Route). plain_prefix w s.prefix) rs) (rising_behind r.prefix rs))

next-in-order : (w : ℕ) (p : Pattern) (r : Route) (rs : List Route) → in_order_behind w p (r ∷ rs) ≡ may_follow w p r.prefix && in_order_behind w r.prefix rs
unfolding every rising_behind may_follow
next-in-order w p r rs =
    in-turn (plain_prefix w r.prefix) (every (λ (s : Route). plain_prefix w s.prefix) rs) (rises p r.prefix) (rising_behind r.prefix rs)

-- what holds before each route of the check but the first: the list is sound exactly where the routes from here on are in order
abbrev pub Checked : Family → List ℕ → Pattern → List ℕ → Type 0
Checked family ws previous more = in_order_behind family.width previous (routes_of family more) ≡ sound_routes family ws

module _ (family : Family) (F : Fits family) (ws : List ℕ) where
  -- a list too long, or with words left over, is unsound, and of any other the routes decide
  pub too_long : most_routes * family.words < length ws → false ≡ sound_routes family ws
  unfolding sound_routes
  too_long h = rw (lt-leb (length ws) (most_routes * family.words) h) (sym (and-false (eqb (length ws % family.words) 0)))

  pub left_over : (length ws % family.words ≡ 0 → ⊥) → false ≡ sound_routes family ws
  unfolding sound_routes
  left_over e = rw (ne_eqb (length ws % family.words) 0 e)

  module _ (few : length ws ≤ most_routes * family.words) (whole : length ws % family.words ≡ 0) where
    by-order : in_order family.width (routes_of family ws) ≡ sound_routes family ws
    unfolding sound_routes
    by-order = rw (eq-eqb (length ws % family.words) 0 whole, le-leb (length ws) (most_routes * family.words) few)

    pub no-routes : length ws < family.words → true ≡ sound_routes family ws
    unfolding every rising
    no-routes h = rw (routes-none family ws h) at by-order

    module _ (own rest : List ℕ) (cut : ws ≡ own ++ rest) (size : length own ≡ family.words) (r : RouteInCode) (p : Bool)
        (here : route_of r ≡ route_at family own 0) (plain : p ≡ plain_prefix family.width (pattern_of r.prefix)) where
      first_plain : sound_routes family ws ≡ p && in_order_behind family.width (pattern_of r.prefix) (routes_of family rest)
      first_plain =
          sym by-order
          ∙ rw (routes-front family own rest F size ws cut, ← here, plain) (first-in-order family.width (route_of r) (routes_of family rest))

      pub first-not-plain : p ≡ false → false ≡ sound_routes family ws
      first-not-plain e = sym (first_plain ∙ rw e)

      pub check-start : p ≡ true → Checked family ws (pattern_of r.prefix) rest
      check-start e = sym (first_plain ∙ rw e)

  module _ (previous : Pattern) (more own rest : List ℕ) (c : Checked family ws previous more) (cut : more ≡ own ++ rest) (size : length own ≡ family.words)
      (r : RouteInCode) (p : Bool) (here : route_of r ≡ route_at family own 0) (follows : p ≡ may_follow family.width previous (pattern_of r.prefix)) where
    turn : in_order_behind family.width previous (routes_of family more) ≡ p && in_order_behind family.width (pattern_of r.prefix) (routes_of family rest)
    turn =
        rw (routes-front family own rest F size more cut, ← here, follows) (next-in-order family.width previous (route_of r) (routes_of family rest))

    pub not-following : p ≡ false → false ≡ sound_routes family ws
    not-following e = rw e at (sym turn) ∙ c

    pub check-on : p ≡ true → Checked family ws (pattern_of r.prefix) rest
    check-on e = rw e at (sym turn) ∙ c

  pub check-end : (previous : Pattern) (more : List ℕ) → Checked family ws previous more → length more < family.words → true ≡ sound_routes family ws
  unfolding every rising_behind
  check-end previous more c h = rw (routes-none family more h) at c

-- a number in two parts
number-parts : (m n : ℕ) (ws : List ℕ) (at : ℕ) → number_in_words (m + n) ws at ≡ number_in_words m ws at * (2 ^ 32) ^ n + number_in_words n ws (at + m)
unfolding number_in_words
number-parts m zero ws at = rw (add-zero m) (omega arith)
number-parts m (suc n) ws at = rw (add-suc m n, number-parts m n ws at, pow-suc (2 ^ 32) n, add_assoc at m n) (omega arith)

-- how the code reads an address
pub no_word : (count : ℕ) (ws : List ℕ) (at : ℕ) → count ≡ 0 → 0 ≡ number_in_words count ws at
unfolding number_in_words
no_word count ws at e = rw e

pub one_word : (count : ℕ) (ws : List ℕ) (at first : ℕ) → count ≡ 1 → first ≡ get_or ws at 0 → first ≡ number_in_words count ws at
unfolding number_in_words
one_word count ws at first e f = let g : get_or ws (at + 0) 0 ≡ get_or ws at 0 = rw add-zero in rw e (omega arith)

pub two-words : (count : ℕ) (ws : List ℕ) (at first second : ℕ) → count ≤ 2 → (count ≡ 0 → ⊥) → (count ≡ 1 → ⊥) → first ≡ get_or ws at 0
    → second ≡ get_or ws (at + 1) 0 → first * 4294967296 + second ≡ number_in_words count ws at
unfolding number_in_words
two-words count ws at first second h a b e f =
    let g : get_or ws (at + 0) 0 ≡ get_or ws at 0 = rw add-zero in
    let c : count ≡ 2 = omega arith in
    rw c (omega arith)

pub low-words : (count low : ℕ) (ws : List ℕ) (at : ℕ) → low ≡ number_in_words count ws at → address_of (record { high = 0; low = low }) ≡ number_in_words count ws at
low-words count low ws at e = zero-add low ∙ e

pub both_words : (count rest high low : ℕ) (ws : List ℕ) → 2 < count → rest ≡ count - 2 → high ≡ number_in_words rest ws 0 → low ≡ number_in_words 2 ws rest
    → address_of (record { high = high; low = low }) ≡ number_in_words count ws 0
both_words count rest high low ws h e f g =
    let k : count ≡ rest + 2 = omega arith in
    rw (f, g, k) (sym (rw (zero-add rest) at (number-parts rest 2 ws 0)))

-- how the code reads a route
pub read-route : (family : Family) (ws : List ℕ) (a : Address) → address_of a ≡ number_in_words (address_words family) ws 0
    → route_of (record {
      prefix = record { offset = 0; length = get_or ws (address_words family) 0; address = a };
      originator = get_or ws (address_words family + 1) 0;
      neighbour = get_or ws (address_words family + 2) 0;
    })
    ≡ route_at family ws 0
unfolding route_at
read-route family ws a e = rw (zero-add (address_words family), e)

-- how the code tests a prefix
pub too_wide : (w : ℕ) (p : Pattern) → w < p.length → false ≡ plain_prefix w p
unfolding plain_prefix
too_wide w p h = rw (lt-leb p.length w h)

pub by-rest : (w : ℕ) (p : Pattern) (past : Address) → p.length ≤ w → past.low < 2 ^ 64 → address_of past ≡ p.address % 2 ^ (w - p.length)
    → eqb past.high 0 && eqb past.low 0 ≡ plain_prefix w p
unfolding plain_prefix
by-rest w p past h l e = rw (le-leb p.length w h, ← e) (sym (eqb-parts 64 past.high 0 past.low 0 l (lit< tt)))

pub by_both : (w : ℕ) (previous p : Pattern) (a b : Bool) → a ≡ plain_prefix w p → b ≡ rises previous p → a && b ≡ may_follow w previous p
unfolding may_follow
by_both w previous p a b e f = rw (e, f)

-- what two numbers share does not change which is lower
ltb-low : (k u v : ℕ) → ltb (k + u) (k + v) ≡ ltb u v
ltb-low k u v =
    by-test (ltb u v) (λ t. let h = ltb-true u v t in rw t (lt-ltb (k + u) (k + v) (omega arith)))
    (λ t. let h = ltb-false u v t in rw t (le-ltb (k + u) (k + v) (omega arith)))

-- of numbers of a high and a low part the one with the lower high part is lower, and where those are equal the one with the lower low part
ltb-parts : (k x y u v : ℕ) → u < k → v < k → ltb (x * k + u) (y * k + v) ≡ ltb x y || eqb x y && ltb u v
ltb-parts k x y u v h l =
    by-test (ltb x y)
    (λ t.
    let below = ltb-true x y t in
    let n : x + 1 ≤ y = omega arith in
    rw t (lt-ltb (x * k + u) (y * k + v) (omega (arith, mul-le-mul_right k n))))
    (λ t.
    let above = ltb-false x y t in
    by-test (eqb x y)
    (λ e. rw (t, e, eqb-true x y e) (ltb-low (y * k) u v))
    (λ e.
    let other = eqb-false x y e in
    let n : y + 1 ≤ x = omega arith in
    rw (t, e) (le-ltb (x * k + u) (y * k + v) (omega (arith, mul-le-mul_right k n)))))

-- how the code compares two prefixes: the high words decide, where they are equal the low ones, and then the lengths
module _ (p q : Prefix) (first : p.address.low < 2 ^ 64) (second : q.address.low < 2 ^ 64) where
  by-words : rises (pattern_of p) (pattern_of q)
      ≡ (ltb p.address.high q.address.high || eqb p.address.high q.address.high && ltb p.address.low q.address.low)
      || (eqb p.address.high q.address.high && eqb p.address.low q.address.low) && ltb p.length q.length
  unfolding rises
  by-words =
      rw (
        ltb-parts (2 ^ 64) p.address.high q.address.high p.address.low q.address.low first second,
        eqb-parts 64 p.address.high q.address.high p.address.low q.address.low first second,
      )

  pub by_high : (p.address.high ≡ q.address.high → ⊥) → ltb p.address.high q.address.high ≡ rises (pattern_of p) (pattern_of q)
  by_high h =
      let t = ltb p.address.high q.address.high in
      sym (by-words ∙ rw (ne_eqb p.address.high q.address.high h) (or-false (t || false) ∙ or-false t))

  module _ (same : p.address.high ≡ q.address.high) where
    pub by-low : (p.address.low ≡ q.address.low → ⊥) → ltb p.address.low q.address.low ≡ rises (pattern_of p) (pattern_of q)
    by-low h =
        let t = ltb p.address.low q.address.low in
        sym (by-words
        ∙ rw (eq-eqb p.address.high q.address.high same, le-ltb p.address.high q.address.high (omega arith), ne_eqb p.address.low q.address.low h)
        (or-false t))

    pub by_length : p.address.low ≡ q.address.low → ltb p.length q.length ≡ rises (pattern_of p) (pattern_of q)
    by_length e =
        sym (by-words
        ∙ rw (
          eq-eqb p.address.high q.address.high same,
          le-ltb p.address.high q.address.high (omega arith),
          eq-eqb p.address.low q.address.low e,
          le-ltb p.address.low q.address.low (omega arith),
        ))
