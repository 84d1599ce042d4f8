-- Unicast routes as they are lent, in 32-bit words, and which lists of words are sound. The family says how many words a route has, and how
-- many bits an address.
use Rattle.std.specs.Prelude.{ℕ, zero, suc, ◌+◌, ◌-◌, ◌*◌, ◌/◌, ◌%◌, ◌^◌, Bool, true, ◌&&◌, ◌||◌, List, [], ◌∷◌, leb, ltb, eqb, length, get_or}
use Rattle.octets.specs.Test.{every}
use Rattle.prefix.specs.Prefix.{Pattern, pattern_of}
use Rattle.rule.specs.declared.Family.{Family}
use Rattle.route.specs.declared.Route.{Route as RouteInCode}

-- A unicast route: its prefix, its originator, and the neighbour AS that it was received from.
pub record Route : Type 0 where
  pub prefix : Pattern
  pub originator : ℕ
  pub neighbour : ℕ

-- The route that a route of the code stands for.
abbrev pub route_of : RouteInCode → Route
route_of r = record { prefix = pattern_of r.prefix; originator = r.originator; neighbour = r.neighbour }

-- The number in the n words that begin at a place, the highest first.
unfoldable pub number_in_words : ℕ → List ℕ → ℕ → ℕ
number_in_words zero words at = 0
number_in_words (suc n) words at = number_in_words n words at * 2 ^ 32 + get_or words (at + n) 0

-- The words of an address: a route's words without its length, its originator and its neighbour AS.
abbrev pub address_words : Family → ℕ
address_words family = family.words - 3

-- 01: "four a route: address, length, originator, neighbour AS"; 2026-04: "Routes are lent as words with four-word addresses", so that one of
-- IPv6 has seven. The route whose words begin at a place.
unfoldable pub route_at : Family → List ℕ → ℕ → Route
route_at family words at =
    record {
      prefix =
          record {
            offset = 0;
            length = get_or words (at + address_words family) 0;
            address = number_in_words (address_words family) words at;
          };
      originator = get_or words (at + address_words family + 1) 0;
      neighbour = get_or words (at + address_words family + 2) 0;
    }

-- So many routes, one after the other from a place on.
unfoldable pub routes_from : Family → ℕ → List ℕ → ℕ → List Route
routes_from family zero words at = []
routes_from family (suc n) words at = route_at family words at ∷ routes_from family n words (at + family.words)

-- 01: "Routes are lent as 32-bit words, four a route": the routes that words spell; words left over spell none.
unfoldable pub routes_of : Family → List ℕ → List Route
routes_of family words = routes_from family (length words / family.words) words 0

-- 01: "length at most 32, no bit past the length": such a prefix of an address of w bits is plain.
unfoldable pub plain_prefix : ℕ → Pattern → Bool
plain_prefix w p = leb p.length w && eqb (p.address % 2 ^ (w - p.length)) 0

-- 01: "by address then length": a prefix comes before another.
unfoldable pub rises : Pattern → Pattern → Bool
rises p q = ltb p.address q.address || eqb p.address q.address && ltb p.length q.length

-- 01: "strictly rising by address then length": each route comes before the next.
unfoldable pub rising : List Route → Bool
rising [] = true
rising (r ∷ []) = true
rising (r ∷ s ∷ routes) = rises r.prefix s.prefix && rising (s ∷ routes)

-- 01: "at most 4,096 routes".
abbrev pub most_routes : ℕ
most_routes = 4096

-- 01: "Sound: a multiple of four words, at most 4,096 routes, length at most 32, no bit past the length, strictly rising by address then
-- length."
unfoldable pub sound_routes : Family → List ℕ → Bool
sound_routes family words =
    eqb (length words % family.words) 0
    && (leb (length words) (most_routes * family.words)
    && (every (λ r. plain_prefix family.width r.prefix) (routes_of family words) && rising (routes_of family words)))
