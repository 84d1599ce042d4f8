-- Looking a packet up in a table, and the first match's record. 01: "a companion call gives back the first match's record
-- as a part of the lent table (empty if none, or if the lookup is refused)".
use Rattle.std.specs.Prelude.{ℕ, List, [], Result, Ok, Err, Option}
use Rattle.rule.specs.declared.Family.{Family}
use Rattle.rule.specs.declared.Refusal.{Refusal}
use Rattle.packet.specs.declared.Packet.{Packet}
use Rattle.table.specs.declared.Place.{Place}
use Rattle.table.specs.Walk.{entries}
use Rattle.lookup.specs.Opening.{opening}
use Rattle.lookup.specs.Lookup.{hit, verdict_for, first_place}
use Rattle.lookup.specs.declared.Matched.{Matched}

-- The head that a packet is looked up under: none, as in IPv4 and IPv6. In a family whose values have a head no value has the empty one, so that its
-- lookups have to name a head.
abbrev pub no_head : List ℕ
no_head = []

-- What a table says of a packet.
abbrev pub looked_up : Family → List ℕ → Result Packet Refusal → Result (Option Matched) Refusal
looked_up family t (Err refusal) = Err refusal
looked_up family t (Ok packet) = Ok (verdict_for family no_head packet (entries t))

-- Looking a packet up.
unfoldable pub looking_up : Family → List ℕ → List ℕ → Result (Option Matched) Refusal
looking_up family t octets = looked_up family t (opening family t octets)

-- Where the first match's record stands; where there is none, an empty part at octet 0.
abbrev pub first_in : Family → List ℕ → Result Packet Refusal → Place
first_in family t (Err refusal) = record { start = 0; end = 0 }
first_in family t (Ok packet) = first_place (hit family no_head packet) 0 (entries t)

-- Where the first match's record stands in a table.
unfoldable pub first_match : Family → List ℕ → List ℕ → Place
first_match family t octets = first_in family t (opening family t octets)

-- The same, or the lookup's refusal.
abbrev pub placed : Family → List ℕ → Result Packet Refusal → Result Place Refusal
placed family t (Err refusal) = Err refusal
placed family t (Ok packet) = Ok (first_place (hit family no_head packet) 0 (entries t))

-- Where the first match's record stands in a table, or the refusal.
unfoldable pub match_place : Family → List ℕ → List ℕ → Result Place Refusal
match_place family t octets = placed family t (opening family t octets)
