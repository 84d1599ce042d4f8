-- One pass over the routes: the best match so far and the neighbour ASes seen inside the destination settle what the whole list
-- says, together with the routes to come. Assumes nothing.
use mathlib.Core.Path.{◌≡◌, refl, sym, ◌∙◌}
use mathlib.Core.Bool.{Bool, true, false, not, ◌&&◌, ◌||◌, and-true, and-false, and_self, and_assoc}
use mathlib.Core.List.{List, ◌++◌}
use Prim.Native.Nat.{ℕ, ◌≤◌, ◌<◌}
use native.Mathlib.Omega.{arith}
use lib.Dec.{ltb, eqb}
use lib.ListN.{length}
use borrow.Author.Tests.{lt-ltb, le-ltb, ltb-true, ltb-false, ne_eqb, eqb-true, eqb-false, not-true, not-false}
use Rattle.std.proofs.Common.{Option, Some, None, option_map}
use Rattle.octets.specs.Test.{every}
use Rattle.octets.proofs.Cases.{by-test, apart}
use Rattle.prefix.specs.Prefix.{Pattern, pattern_of, contains}
use Rattle.prefix.specs.declared.Prefix.{Prefix}
use Rattle.rule.specs.declared.Family.{Family}
use Rattle.rule.specs.Family.{Fits}
use Rattle.route.specs.declared.Route.{Route as RouteInCode}
use Rattle.route.specs.declared.Origin.{Origin}
use Rattle.route.specs.declared.Settings.{Settings}
use Rattle.route.specs.declared.Neighbours.{Neighbours}
use Rattle.route.specs.declared.Neighbours.TheVariants.{Nobody, One, Several}
use Rattle.route.specs.Route.{Route, route_of, route_at, routes_of}
use Rattle.route.specs.Feasible.{covered_by, more_specific, longer, matched, best_match, originates, undisputed, judged, feasible}
use Rattle.route.specs.Pass.{added, noted, agrees, validated}
use Rattle.route.proofs.RouteLaws.{routes-front, routes-none}

-- the longer of three matches is the same however they are taken together
pub longer-none : (a : Option Route) → longer a None ≡ a
unfolding longer
longer-none None = refl
longer-none (Some r) = refl

longer-three : (r s t : Route) → longer (longer (Some r) (Some s)) (Some t) ≡ longer (Some r) (longer (Some s) (Some t))
unfolding longer
longer-three r s t =
    let l = r.prefix.length in
    let m = s.prefix.length in
    let n = t.prefix.length in
    by-test (ltb l m)
    (λ e.
    by-test (ltb m n)
    (λ f. let a = ltb-true l m e in let b = ltb-true m n f in rw (e, f, lt-ltb l n (omega arith)))
    (λ f. rw (e, f, e)))
    (λ e.
    by-test (ltb m n) (λ f. rw (e, f))
    (λ f. let a = ltb-false l m e in let b = ltb-false m n f in rw (e, f, le-ltb l n (omega arith), e)))

pub longer-assoc : (a b c : Option Route) → longer (longer a b) c ≡ longer a (longer b c)
unfolding longer
longer-assoc None b c = refl
longer-assoc (Some r) None c = refl
longer-assoc (Some r) (Some s) None = longer-none (longer (Some r) (Some s))
longer-assoc (Some r) (Some s) (Some t) = longer-three r s t

-- all neighbour ASes agree with one more exactly where they do and it does
added-agrees : (seen : Neighbours) (m n : ℕ) → agrees (added seen m) n ≡ agrees seen n && eqb m n
unfolding agrees added
added-agrees Nobody m n = refl
added-agrees (One k) m n =
    by-test (eqb k m) (λ e. rw (e, ← eqb-true k m e) (sym (and_self (eqb k n))))
    (λ e.
    by-test (eqb k n)
    (λ f. rw (e, f) (sym (ne_eqb m n (λ g. eqb-false k m e (eqb-true k n f ∙ sym g)))))
    (λ f. rw (e, f)))
added-agrees Several m n = refl

pub noted-agrees : (w : ℕ) (d : Pattern) (seen : Neighbours) (r : Route) (n : ℕ)
    → agrees (noted w d seen r) n ≡ agrees seen n && (not (more_specific w d r) || eqb r.neighbour n)
unfolding noted
noted-agrees w d seen r n =
    by-test (more_specific w d r) (λ e. rw e (added-agrees seen r.neighbour n)) (λ e. rw e (sym (and-true (agrees seen n))))

-- what holds before each route of the pass
pub record Passed (family : Family) (d : Pattern) (ws : List ℕ) (best : Option Route) (seen : Neighbours) (more : List ℕ) : Type 0 where
  pub matching : longer best (best_match family.width d (routes_of family more)) ≡ best_match family.width d (routes_of family ws)
  pub agreeing : (n : ℕ) → agrees seen n && undisputed family.width d n (routes_of family more) ≡ undisputed family.width d n (routes_of family ws)

pub pass-start : (family : Family) (d : Pattern) (ws more : List ℕ) → more ≡ ws → Passed family d ws None Nobody more
unfolding longer agrees
pass-start family d ws more e = record { matching = rw e; agreeing = λ n. rw e }

-- neither of two tests holds
neither : (a b : Bool) → a || b ≡ false → (a ≡ false) × (b ≡ false)
neither true b e = apart (cc)
neither false b e = (refl, e)

module _ (family : Family) (F : Fits family) (d : Pattern) (ws : List ℕ) (best : Option Route) (seen : Neighbours) (more : List ℕ)
    (c : Passed family d ws best seen more) (own rest : List ℕ) (cut : more ≡ own ++ rest) (size : length own ≡ family.words) where
  pub pass_on : (r : Route) (b : Option Route) (s : Neighbours) → r ≡ route_at family own 0
      → b ≡ longer best (matched family.width d r) → s ≡ noted family.width d seen r → Passed family d ws b s rest
  unfolding best_match undisputed every
  pass_on r b s e f g =
      let next = routes-front family own rest F size more cut in
      record {
        matching =
            rw (f, longer-assoc best (matched family.width d r) (best_match family.width d (routes_of family rest)))
            (rw (next, ← e) at c.matching);
        agreeing = λ n. rw (g, noted-agrees family.width d seen r n, and_assoc) (rw (next, ← e) at (c.agreeing n));
      }

  -- a route that neither covers the destination nor lies inside it leaves what is kept as it was
  pub pass-over : (r : Route) (nested : Bool) → r ≡ route_at family own 0
      → nested ≡ (contains family.width d r.prefix || contains family.width r.prefix d) → nested ≡ false → Passed family d ws best seen rest
  unfolding matched covered_by noted more_specific
  pass-over r nested e says far =
      let none = neither (contains family.width d r.prefix) (contains family.width r.prefix d) (sym says ∙ far) in
      pass_on r best seen e (rw none.1 (sym (longer-none best))) (rw none.0 refl)

-- what the pass has kept says what the routes do
kept-says : (w : ℕ) (d : Pattern) (origin : Origin) (rs : List Route) (best : Option Route) (seen : Neighbours) → best_match w d rs ≡ best
    → ((n : ℕ) → agrees seen n ≡ undisputed w d n rs) → validated best origin seen ≡ judged w d origin rs
unfolding validated judged
kept-says w d origin rs None seen e f = rw (judged, e)
kept-says w d origin rs (Some r) seen e f = rw (judged, e, f r.neighbour)

pub pass-end : (family : Family) (d : Pattern) (ws : List ℕ) (best : Option Route) (seen : Neighbours) (more : List ℕ) (origin : Origin) (v : Bool)
    → Passed family d ws best seen more → length more < family.words → v ≡ validated best origin seen
    → v ≡ judged family.width d origin (routes_of family ws)
unfolding best_match undisputed every
pass-end family d ws best seen more origin v c h e =
    let none = routes-none family more h in
    e
    ∙ kept-says family.width d origin (routes_of family ws) best seen (sym (rw none at c.matching) ∙ longer-none best)
    (λ n. sym (and-true (agrees seen n)) ∙ (rw none at (c.agreeing n)))

-- one route more: the best match stays where the route does not cover the destination, or is no longer
module _ (w : ℕ) (d : Pattern) (best : Option RouteInCode) (r : RouteInCode) (t : Bool) (says : t ≡ contains w (pattern_of r.prefix) d) where
  pub not-covering : not t ≡ true → option_map route_of best ≡ longer (option_map route_of best) (matched w d (route_of r))
  unfolding matched covered_by
  not-covering e = rw (← says, not-true t e) (sym (longer-none (option_map route_of best)))

  pub first-match : not t ≡ false → best ≡ None → Some (route_of r) ≡ longer (option_map route_of best) (matched w d (route_of r))
  unfolding matched covered_by longer
  first-match e f = rw (f, ← says, not-false t e)

  pub longer-match : (s : RouteInCode) → not t ≡ false → best ≡ Some s → s.prefix.length < r.prefix.length
      → Some (route_of r) ≡ longer (option_map route_of best) (matched w d (route_of r))
  unfolding matched covered_by longer
  longer-match s e f h = rw (f, ← says, not-false t e, lt-ltb s.prefix.length r.prefix.length h)

  pub no_longer : (s : RouteInCode) → not t ≡ false → best ≡ Some s → r.prefix.length ≤ s.prefix.length
      → Some (route_of s) ≡ longer (option_map route_of best) (matched w d (route_of r))
  unfolding matched covered_by longer
  no_longer s e f h = rw (f, ← says, not-false t e, le-ltb s.prefix.length r.prefix.length h)

-- one route more: its neighbour AS is noted where the route is longer than the destination and inside it
module _ (w : ℕ) (d : Pattern) (seen : Neighbours) (r : Route) where
  pub not-inside : r.prefix.length ≤ d.length → seen ≡ noted w d seen r
  unfolding noted more_specific
  not-inside h = rw (le-ltb d.length r.prefix.length h, and-false (contains w d r.prefix))

  pub outside : (t : Bool) → t ≡ contains w d r.prefix → not t ≡ true → seen ≡ noted w d seen r
  unfolding noted more_specific
  outside t says e = rw (← says, not-true t e)

  pub inside : (t : Bool) (s : Neighbours) → t ≡ contains w d r.prefix → not t ≡ false → d.length < r.prefix.length
      → s ≡ added seen r.neighbour → s ≡ noted w d seen r
  unfolding noted more_specific
  inside t s says e h f = rw (← says, not-false t e, lt-ltb d.length r.prefix.length h) f

-- the three ways to conclude
module _ (best : Option RouteInCode) (origin : Origin) (seen : Neighbours) where
  pub no-match : best ≡ None → false ≡ validated (option_map route_of best) origin seen
  unfolding validated
  no-match e = rw e

  module _ (r : RouteInCode) (e : best ≡ Some r) (has : Bool) (says : has ≡ originates origin (route_of r)) where
    pub other-originator : not has ≡ true → false ≡ validated (option_map route_of best) origin seen
    unfolding validated
    other-originator h = rw (e, ← says, not-true has h)

    pub by-neighbour : (v : Bool) → not has ≡ false → v ≡ agrees seen r.neighbour → v ≡ validated (option_map route_of best) origin seen
    unfolding validated
    by-neighbour v h g = rw (e, ← says, not-false has h) g

-- with no destination what is allowed decides, and with one the routes do
module _ (w : ℕ) (settings : Settings) (destination : Option Prefix) (origin : Origin) (routes : List Route) where
  pub no-destination : destination ≡ None
      → settings.allows_no_destination ≡ feasible w settings (option_map pattern_of destination) origin routes
  unfolding feasible
  no-destination e = rw e

  pub by-routes : (d : Prefix) (v : Bool) → destination ≡ Some d → v ≡ judged w (pattern_of d) origin routes
      → v ≡ feasible w settings (option_map pattern_of destination) origin routes
  unfolding feasible
  by-routes d v e f = rw e f
