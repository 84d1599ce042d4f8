-- Whether a rule is feasible by the unicast routes at hand: RFC 8955 section 6. Of a rule its destination counts, and who announces it.
-- A route covers the destination, or is more specific than it, or does neither; w is the width of an address.
use Rattle.std.specs.Prelude.{ℕ, ◌≤◌, ◌≡◌, Bool, true, false, cond, not, ◌&&◌, ◌||◌, ltb, eqb, Option, Some, None}
use mathlib.Core.List.{List, [], ◌∷◌, Memᴰ}
use Rattle.octets.specs.Test.{every}
use Rattle.prefix.specs.Prefix.{Pattern, contains}
use Rattle.route.specs.declared.Origin.{Origin}
use Rattle.route.specs.declared.Settings.{Settings}
use Rattle.route.specs.Route.{Route}

-- Section 6 b): a route covers the destination where its prefix contains it; a route equal to the destination covers it.
unfoldable pub covered_by : ℕ → Pattern → Route → Bool
covered_by w destination r = contains w r.prefix destination

-- Section 6 c): a route is more specific than the destination where it lies strictly inside; a route equal to the destination does not.
unfoldable pub more_specific : ℕ → Pattern → Route → Bool
more_specific w destination r = contains w destination r.prefix && ltb destination.length r.prefix.length

-- Section 6 b): "the longest possible prefix length covering the destination prefix": such a route is among the routes, covers the
-- destination, and no other that covers it is longer. The law `sound-best` says that `best_match` is it.
pub record Longest (w : ℕ) (destination : Pattern) (routes : List Route) (r : Route) : Type 0 where
  pub among : Memᴰ r routes
  pub covering : covered_by w destination r ≡ true
  pub longest : (s : Route) → Memᴰ s routes → covered_by w destination s ≡ true → s.prefix.length ≤ r.prefix.length

-- Section 6 b): of two matches the one with the longer prefix.
unfoldable pub longer : Option Route → Option Route → Option Route
longer None best = best
longer (Some r) None = Some r
longer (Some r) (Some s) = cond (ltb r.prefix.length s.prefix.length) (Some s) (Some r)

-- Section 6 b): a route that covers the destination is a match.
unfoldable pub matched : ℕ → Pattern → Route → Option Route
matched w destination r = cond (covered_by w destination r) (Some r) None

-- Section 6 b): the best match is the route with the longest prefix that covers the destination.
unfoldable pub best_match : ℕ → Pattern → List Route → Option Route
best_match w destination [] = None
best_match w destination (r ∷ routes) = longer (matched w destination r) (best_match w destination routes)

-- Section 6 b): "The originator of the Flow Specification matches the originator of the best-match unicast route".
unfoldable pub originates : Origin → Route → Bool
originates origin best = eqb best.originator origin.originator

-- Section 6 c): no more-specific route has been received from another neighbour AS than this one.
unfoldable pub undisputed : ℕ → Pattern → ℕ → List Route → Bool
undisputed w destination neighbour routes = every (λ r. not (more_specific w destination r) || eqb r.neighbour neighbour) routes

-- Section 6 b) and c); 01: "the longest route that covers it exists and has the announcement's originator; no route strictly inside the
-- destination has another neighbour AS than that best route".
unfoldable pub judged : ℕ → Pattern → Origin → List Route → Bool
judged w destination origin routes =
    elim (best_match w destination routes) [
      | None ↦ false
      | Some best ↦ originates origin best && undisputed w destination best.neighbour routes
    ]

-- Section 6 a): a rule with a destination, 0.0.0.0/0 like any other, is feasible as that is judged, whatever the setting; 01: "A setting
-- may allow rules with no destination; those are then always feasible." A destination with an offset is infeasible, as RFC 8956 section 5
-- a) asks for offset 0: routes have offset 0, so that none covers it.
unfoldable pub feasible : ℕ → Settings → Option Pattern → Origin → List Route → Bool
feasible w settings None origin routes = settings.allows_no_destination
feasible w settings (Some destination) origin routes = judged w destination origin routes
