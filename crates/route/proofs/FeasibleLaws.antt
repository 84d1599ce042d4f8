-- What an operator relies on: the best match is the longest route that covers the destination, a sound list has one such route at
-- most, and no route that neither covers the destination nor lies inside it matters. Assumes nothing.
use mathlib.Core.Path.{◌≡◌, refl, ap, sym, ◌∙◌}
use mathlib.Core.Bool.{Bool, true, false, cond, ◌||◌}
use mathlib.Core.List.Memᴰ
use mathlib.Core.List.{List, [], ◌∷◌, Memᴰ}
use mathlib.Core.Logic.{◌↔◌, ⊎_elim}
use Prim.Native.Nat.{ℕ, zero, suc, ◌+◌, ◌/◌, ◌^◌, ◌≤◌, ◌<◌}
use native.Mathlib.Omega.{arith}
use lib.Dec.{ltb}
use lib.ListN.{length, get_or}
use borrow.Author.Tests.{ltb-true, ltb-false}
use Rattle.std.proofs.Common.{Option, Some, None}
use Rattle.octets.specs.Test.{every}
use Rattle.octets.proofs.Cases.{by-test, apart}
use Rattle.prefix.specs.Prefix.{Pattern, WellFormed}
use Rattle.prefix.proofs.ContainLaws.{nested, other_offset, contains-both-ways}
use Rattle.rule.specs.declared.Family.{Family}
use Rattle.rule.specs.Family.{Fits}
use Rattle.route.specs.declared.Origin.{Origin}
use Rattle.route.specs.declared.Settings.{Settings}
use Rattle.route.specs.Route.{Route, route_at, routes_from, routes_of, rising, sound_routes}
use Rattle.route.specs.Feasible.{Longest, covered_by, more_specific, longer, matched, best_match, undisputed, judged, feasible}
use Rattle.route.proofs.SoundLaws.{only-once, sound-rising, sound-formed}

-- a route is a match where it covers the destination
covering-match : (w : ℕ) (d : Pattern) (r : Route) → covered_by w d r ≡ true → matched w d r ≡ Some r
unfolding matched
covering-match w d r e = rw e

no-match : (w : ℕ) (d : Pattern) (r : Route) → covered_by w d r ≡ false → matched w d r ≡ None
unfolding matched
no-match w d r e = rw e

-- a list with no best match has no route that covers the destination
found-stays : {P : Type 0} (r : Route) (b : Option Route) → longer (Some r) b ≡ None → P
unfolding longer
found-stays r None e = apart (cc)
found-stays r (Some s) e =
    by-test (ltb r.prefix.length s.prefix.length) (λ t. let f = rw t at e in apart (cc)) (λ t. let f = rw t at e in apart (cc))

pub none-covers : (w : ℕ) (d : Pattern) (rs : List Route) → best_match w d rs ≡ None → (s : Route) → Memᴰ s rs → covered_by w d s ≡ false
unfolding best_match longer
none-covers w d [] e s m = absurd (Memᴰ.not-nil m)
none-covers w d (r ∷ rs) e s m =
    by-test (covered_by w d r) (λ t. found-stays r (best_match w d rs) (rw (covering-match w d r t) at e))
    (λ t.
    let below = none-covers w d rs (rw (no-match w d r t) at e) s in
    ⊎_elim (λ f. rw f t) below (Memᴰ.cases_cons m))

-- no route that covers the destination is longer than n
abbrev AtMost : ℕ → Pattern → List Route → ℕ → Type 0
AtMost w d rs n = (s : Route) → Memᴰ s rs → covered_by w d s ≡ true → s.prefix.length ≤ n

at_most : (w : ℕ) (d : Pattern) (r : Route) (rs : List Route) (n : ℕ) → (covered_by w d r ≡ true → r.prefix.length ≤ n) → AtMost w d rs n
    → AtMost w d (r ∷ rs) n
at_most w d r rs n h k s m c = ⊎_elim (λ e. rw e (h (rw e at c))) (λ l. k s l c) (Memᴰ.cases_cons m)

-- the longest of a route and others: the one, or the longest of the others
module _ (w : ℕ) (d : Pattern) (s : Route) (rs : List Route) where
  first : covered_by w d s ≡ true → AtMost w d rs s.prefix.length → Longest w d (s ∷ rs) s
  first c k = record { among = Memᴰ.head refl; covering = c; longest = at_most w d s rs s.prefix.length (λ e. omega arith) k }

  still : (t : Route) → Longest w d rs t → (covered_by w d s ≡ true → s.prefix.length ≤ t.prefix.length) → Longest w d (s ∷ rs) t
  still t T h = record { among = Memᴰ.tail T.among; covering = T.covering; longest = at_most w d s rs t.prefix.length h T.longest }

-- one covering route before others, by the best match of those
module _ (w : ℕ) (d : Pattern) (s : Route) (rs : List Route) (c : covered_by w d s ≡ true) where
  alone : best_match w d rs ≡ None → Longest w d (s ∷ rs) s
  alone none = first w d s rs c (λ t m e. let f = none-covers w d rs none t m in apart (cc))

  before : (t : Route) → Longest w d rs t → (r : Route) → longer (Some s) (Some t) ≡ Some r → Longest w d (s ∷ rs) r
  unfolding longer
  before t T r e =
      by-test (ltb s.prefix.length t.prefix.length)
      (λ l.
      let same : t ≡ r = let f = rw l at e in cc in
      let h = ltb-true s.prefix.length t.prefix.length l in
      rw (← same) (still w d s rs t T (λ e. omega arith)))
      (λ l.
      let same : s ≡ r = let f = rw l at e in cc in
      let h = ltb-false s.prefix.length t.prefix.length l in
      rw (← same) (first w d s rs c (λ u m f. let k = T.longest u m f in omega arith)))

-- the best match is the longest
pub best-longest : (w : ℕ) (d : Pattern) (rs : List Route) (r : Route) → best_match w d rs ≡ Some r → Longest w d rs r
unfolding best_match longer
best-longest w d [] r e = apart (cc)
best-longest w d (s ∷ rs) r e =
    by-test (covered_by w d s) (λ t. go (best_match w d rs) refl t (rw (covering-match w d s t) at e) (best-longest w d rs))
    (λ t. still w d s rs r (best-longest w d rs r (rw (no-match w d s t) at e)) (λ f. apart (cc)))
  where
    go : (b : Option Route) → best_match w d rs ≡ b → covered_by w d s ≡ true → longer (Some s) (best_match w d rs) ≡ Some r
        → ((t : Route) → best_match w d rs ≡ Some t → Longest w d rs t) → Longest w d (s ∷ rs) r
    go None f t g below = let same : s ≡ r = let h = rw f at g in cc in rw (← same) (alone w d s rs t f)
    go (Some u) f t g below = before w d s rs t u (below u f) r (rw f at g)

-- routes that rise, each with a well-formed prefix, have one longest at most
pub one-longest : (w : ℕ) (d : Pattern) (rs : List Route) → rising rs ≡ true → ((r : Route) → Memᴰ r rs → WellFormed w r.prefix)
    → (r s : Route) → Longest w d rs r → Longest w d rs s → r ≡ s
unfolding covered_by
one-longest w d rs rise formed r s R S =
    let h = R.longest s S.among S.covering in
    let k = S.longest r R.among R.covering in
    let there = nested w r.prefix s.prefix d (omega arith) R.covering S.covering in
    let back = nested w s.prefix r.prefix d (omega arith) S.covering R.covering in
    only-once rs rise r s R.among S.among
    (contains-both-ways w r.prefix s.prefix (formed r R.among) (formed s S.among) there back)

-- and among them the longest is the best match
pub longest-best : (w : ℕ) (d : Pattern) (rs : List Route) → rising rs ≡ true → ((r : Route) → Memᴰ r rs → WellFormed w r.prefix)
    → (r : Route) → Longest w d rs r → best_match w d rs ≡ Some r
longest-best w d rs rise formed r R = go (best_match w d rs) refl
  where
    go : (b : Option Route) → best_match w d rs ≡ b → best_match w d rs ≡ Some r
    go None e = let f = none-covers w d rs e r R.among in let g = R.covering in apart (cc)
    go (Some s) e = e ∙ ap Some (one-longest w d rs rise formed s r (best-longest w d rs s e) R)

-- **The best match** among the routes that sound words spell, each word of 32 bits, is the one longest route.
pub sound-best : (family : Family) → Fits family → (d : Pattern) (ws : List ℕ) → sound_routes family ws ≡ true → ((i : ℕ) → get_or ws i 0 < 2 ^ 32)
    → (r : Route) → (best_match family.width d (routes_of family ws) ≡ Some r) ↔ Longest family.width d (routes_of family ws) r
sound-best family F d ws sound fits r = (
  best-longest family.width d (routes_of family ws) r,
  longest-best family.width d (routes_of family ws) (sound-rising family ws sound) (sound-formed family ws sound F fits) r,
)

-- the routes that matter: those that cover the destination or lie strictly inside it
abbrev pub matters : ℕ → Pattern → Route → Bool
matters w d r = covered_by w d r || more_specific w d r

abbrev pub only : {A : Type 0} → (A → Bool) → List A → List A
only test [] = []
only test (x ∷ xs) = cond (test x) (x ∷ only test xs) (only test xs)

best-only : (w : ℕ) (d : Pattern) (rs : List Route) → best_match w d (only (matters w d) rs) ≡ best_match w d rs
unfolding best_match longer
best-only w d [] = refl
best-only w d (r ∷ rs) =
    by-test (covered_by w d r) (λ e. rw (e, best-only w d rs))
    (λ e. by-test (more_specific w d r) (λ f. rw (e, f, best-only w d rs)) (λ f. rw (e, f, no-match w d r e, best-only w d rs)))

undisputed-only : (w : ℕ) (d : Pattern) (rs : List Route) (n : ℕ) → undisputed w d n (only (matters w d) rs) ≡ undisputed w d n rs
unfolding undisputed every
undisputed-only w d [] n = refl
undisputed-only w d (r ∷ rs) n =
    by-test (covered_by w d r) (λ e. rw (e, undisputed-only w d rs n))
    (λ e. by-test (more_specific w d r) (λ f. rw (e, f, f, undisputed-only w d rs n)) (λ f. rw (e, f, undisputed-only w d rs n)))

-- destinations with the same best match, whose routes more specific are of the same neighbour ASes, are judged alike
pub judged-alike : (w : ℕ) (d e : Pattern) (origin : Origin) (rs ss : List Route) → best_match w d rs ≡ best_match w e ss
    → ((n : ℕ) → undisputed w d n rs ≡ undisputed w e n ss) → judged w d origin rs ≡ judged w e origin ss
unfolding judged
judged-alike w d e origin rs ss b u = go (best_match w e ss) refl
  where
    go : (best : Option Route) → best_match w e ss ≡ best → judged w d origin rs ≡ judged w e origin ss
    go None f = rw (judged, b, f)
    go (Some r) f = rw (judged, b, f, u r.neighbour)

-- a destination is judged by the routes that matter
pub judged-only : (w : ℕ) (d : Pattern) (origin : Origin) (rs : List Route) → judged w d origin (only (matters w d) rs) ≡ judged w d origin rs
judged-only w d origin rs = judged-alike w d d origin (only (matters w d) rs) rs (best-only w d rs) (undisputed-only w d rs)

-- lists with the same routes that matter judge a rule alike
pub feasible-alike : (w : ℕ) (settings : Settings) (d : Pattern) (origin : Origin) (rs ss : List Route) → only (matters w d) rs ≡ only (matters w d) ss
    → feasible w settings (Some d) origin rs ≡ feasible w settings (Some d) origin ss
unfolding feasible
feasible-alike w settings d origin rs ss e =
    sym (judged-only w d origin rs) ∙ ap (judged w d origin) e ∙ judged-only w d origin ss

-- a rule with a destination is judged the same whatever is allowed, and one with none is feasible exactly where that is
pub whatever-allowed : (w : ℕ) (s t : Settings) (d : Pattern) (origin : Origin) (rs : List Route)
    → feasible w s (Some d) origin rs ≡ feasible w t (Some d) origin rs
unfolding feasible
whatever-allowed w s t d origin rs = refl

pub by-allowed : (w : ℕ) (s : Settings) (origin : Origin) (rs : List Route) → feasible w s None origin rs ≡ s.allows_no_destination
unfolding feasible
by-allowed w s origin rs = refl

-- RFC 8956 section 5: a destination with an offset is covered by no route, and so infeasible whatever is allowed
module _ (family : Family) (ws : List ℕ) (d : Pattern) (h : d.offset ≡ 0 → ⊥) where
  elsewhere : (at : ℕ) → covered_by family.width d (route_at family ws at) ≡ false
  unfolding covered_by route_at
  elsewhere at = sym (other_offset family.width (route_at family ws at).prefix d (λ e. h (sym e)))

  none-matches : (n at : ℕ) → best_match family.width d (routes_from family n ws at) ≡ None
  unfolding best_match routes_from longer
  none-matches zero at = refl
  none-matches (suc n) at = rw (no-match family.width d (route_at family ws at) (elsewhere at)) (none-matches n (at + family.words))

  pub offset-infeasible : (settings : Settings) (origin : Origin) → feasible family.width settings (Some d) origin (routes_of family ws) ≡ false
  unfolding feasible judged routes_of
  offset-infeasible settings origin = rw (judged, none-matches (length ws / family.words) 0)
