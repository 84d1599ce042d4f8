-- Worked examples of section 6, as one computed claim. Assumes nothing.
use mathlib.Core.Path.{◌≡◌, refl}
use mathlib.Core.Bool.{Bool, true, false}
use mathlib.Core.List.{List, [], ◌∷◌, ◌++◌}
use Prim.Native.Nat.{ℕ, ◌*◌, ◌^◌}
use Rattle.std.proofs.Common.{Option, Some, None}
use Rattle.octets.specs.Test.{every, same_list}
use Rattle.prefix.specs.Prefix.{Pattern, bits, covers_address, contains}
use Rattle.rule.specs.Family.{ipv4, ipv6}
use Rattle.route.specs.Route.{number_in_words, route_at, routes_from, routes_of, plain_prefix, rises, rising, sound_routes}
use Rattle.route.specs.Feasible.{covered_by, more_specific, longer, matched, best_match, originates, undisputed, judged, feasible}

-- 192.0.2.0/24 of originator 7 and AS 64500
abbrev one : List ℕ
one = 0xc0000200 ∷ 24 ∷ 7 ∷ 64500 ∷ []

-- the same, and 192.0.2.128/25 of AS 64501
abbrev two : List ℕ
two = one ++ (0xc0000280 ∷ 25 ∷ 7 ∷ 64501 ∷ [])

abbrev to : ℕ → ℕ → Option Pattern
to address length = Some (record { offset = 0; length = length; address = address })

-- whether a rule to this destination is feasible by the routes, from an originator
abbrev by : List ℕ → Bool → Option Pattern → ℕ → Bool
by words allowed destination originator =
    feasible 32 (record { allows_no_destination = allowed }) destination (record { originator = originator }) (routes_of ipv4 words)

-- both lists are sound, and not the second before the first, nor one with a word left over, nor a length over 32 or a bit past the length
pub sounds : (sound_routes ipv4 []
    ∷ sound_routes ipv4 one
    ∷ sound_routes ipv4 two
    ∷ sound_routes ipv4 (0xc0000280 ∷ 25 ∷ 7 ∷ 64501 ∷ one)
    ∷ sound_routes ipv4 (one ++ one)
    ∷ sound_routes ipv4 (one ++ (0xc0000280 ∷ []))
    ∷ sound_routes ipv4 (0xc0000200 ∷ 33 ∷ 7 ∷ 64500 ∷ [])
    ∷ sound_routes ipv4 (0xc0000201 ∷ 24 ∷ 7 ∷ 64500 ∷ [])
    ∷ [])
    ≡ true ∷ true ∷ true ∷ false ∷ false ∷ false ∷ false ∷ false ∷ []
unfolding every number_in_words route_at routes_from routes_of plain_prefix rises rising sound_routes
sounds = refl

-- by the first list, 192.0.2.0/25 is feasible from 7 and not from 8, and so is 192.0.2.0/24; by both, 192.0.2.0/24 is not and
-- 192.0.2.0/25 is; 0.0.0.0/0, which no route covers, is feasible neither way, and a rule with no destination exactly where that is
-- allowed
pub examples : (by one false (to 0xc0000200 25) 7
    ∷ by one false (to 0xc0000200 25) 8
    ∷ by one false (to 0xc0000200 24) 7
    ∷ by two false (to 0xc0000200 24) 7
    ∷ by two false (to 0xc0000200 25) 7
    ∷ by two false (to 0 0) 7
    ∷ by two true (to 0 0) 7
    ∷ by two false None 7
    ∷ by two true None 7
    ∷ [])
    ≡ true ∷ false ∷ true ∷ false ∷ true ∷ false ∷ false ∷ false ∷ true ∷ []
unfolding every bits same_list covers_address contains number_in_words route_at routes_from routes_of covered_by more_specific longer matched best_match originates undisputed judged feasible
examples = refl

-- 2001:db8::/32 of originator 7 and AS 64500, and 2001:db8:0:1::/64 of AS 64501
abbrev long : List ℕ
long = 0x20010db8 ∷ 0 ∷ 0 ∷ 0 ∷ 32 ∷ 7 ∷ 64500 ∷ 0x20010db8 ∷ 1 ∷ 0 ∷ 0 ∷ 64 ∷ 7 ∷ 64501 ∷ []

-- whether a rule to these bits of 2001:db8:: is feasible by them
abbrev widely : ℕ → ℕ → Bool
widely offset length =
    feasible 128 (record { allows_no_destination = true }) (Some (record { offset = offset; length = length; address = 0x20010db8 * 2 ^ 96 }))
    (record { originator = 7 }) (routes_of ipv6 long)

-- the list is sound, with a bit past the length it is not; 2001:db8::/64 is feasible, 2001:db8::/32 is disputed by the other route, and
-- RFC 8956 section 5: a destination with an offset is infeasible, as no route covers it
pub longs : (sound_routes ipv6 long
    ∷ sound_routes ipv6 (0x20010db8 ∷ 0 ∷ 0 ∷ 1 ∷ 32 ∷ 7 ∷ 64500 ∷ [])
    ∷ widely 0 64
    ∷ widely 0 32
    ∷ widely 1 64
    ∷ [])
    ≡ true ∷ false ∷ true ∷ false ∷ false ∷ []
unfolding every bits same_list covers_address contains number_in_words route_at routes_from routes_of plain_prefix rises rising sound_routes covered_by more_specific longer matched best_match originates undisputed judged feasible
longs = refl
