-- A worked attribute of each kind, on a table of 136 octets and one route. A reach has five rules: web is announced; a rule to a prefix that
-- no route covers is not feasible; echo is announced; for a third feasible rule the room is one octet too small; and web is announced
-- again. An unreach then withdraws echo twice. A reach with the rule alone that is not feasible is done, and so is one whose reserved octet
-- is not 0; other attributes, each of which breaks one rule of the whole, are refused. Both rates of a reach are changed as they are read.
use Rattle.std.specs.Prelude.{ℕ, false, List, [], ◌∷◌, ◌++◌, replicate, take}
use Rattle.route.specs.declared.Origin.{Origin}
use Rattle.request.specs.Input.{Policy, policy_of}
use Rattle.update.specs.Singles.{Reach, reach_of}

-- 192.0.2.0/24 is routed to originator 7, over neighbour AS 64500.
abbrev pub routed : Policy
routed = policy_of (0xc0000200 ∷ 24 ∷ 7 ∷ 64500 ∷ []) (record { allows_no_destination = false })

-- Web: destination 192.0.2.0/25, protocol 6, destination port 80.
abbrev pub web_value : List ℕ
web_value = 0x01 ∷ 0x19 ∷ 0xc0 ∷ 0x00 ∷ 0x02 ∷ 0x00 ∷ 0x03 ∷ 0x81 ∷ 0x06 ∷ 0x05 ∷ 0x81 ∷ 0x50 ∷ []

-- Web as NLRI.
abbrev pub web : List ℕ
web = 12 ∷ web_value

-- Echo: destination 192.0.2.0/24, protocol 1, ICMP type 8.
abbrev pub echo_value : List ℕ
echo_value = 0x01 ∷ 0x18 ∷ 0xc0 ∷ 0x00 ∷ 0x02 ∷ 0x03 ∷ 0x81 ∷ 0x01 ∷ 0x07 ∷ 0x81 ∷ 0x08 ∷ []

-- Echo as NLRI.
abbrev pub echo : List ℕ
echo = 11 ∷ echo_value

-- A rule as NLRI, to 198.51.100.0/24, which no route covers.
abbrev pub elsewhere : List ℕ
elsewhere = 5 ∷ 0x01 ∷ 0x18 ∷ 0xc6 ∷ 0x33 ∷ 0x64 ∷ []

-- A rule as NLRI, to 192.0.2.128/25, which the route covers.
abbrev pub third : List ℕ
third = 6 ∷ 0x01 ∷ 0x19 ∷ 0xc0 ∷ 0x00 ∷ 0x02 ∷ 0x80 ∷ []

-- The octets before the rules of a reach: AFI 1, SAFI 133, next-hop length 0, reserved.
abbrev pub reach_start : List ℕ
reach_start = 0x00 ∷ 0x01 ∷ 0x85 ∷ 0x00 ∷ 0x00 ∷ []

-- The octets before the rules of an unreach: AFI 1, SAFI 133.
abbrev pub unreach_start : List ℕ
unreach_start = 0x00 ∷ 0x01 ∷ 0x85 ∷ []

-- The reach with five rules.
abbrev pub five_rules : List ℕ
five_rules = reach_start ++ web ++ elsewhere ++ echo ++ third ++ web

-- The same without its last octet, of 56.
abbrev pub five_cut : List ℕ
five_cut = take 55 five_rules

-- A reach with the rule to the prefix that no route covers.
abbrev pub elsewhere_alone : List ℕ
elsewhere_alone = reach_start ++ elsewhere

-- The unreach with echo twice.
abbrev pub echo_twice : List ℕ
echo_twice = unreach_start ++ echo ++ echo

-- A reach with web, and every bit of its reserved octet set.
abbrev pub with_reserved : List ℕ
with_reserved = 0x00 ∷ 0x01 ∷ 0x85 ∷ 0x00 ∷ 0xff ∷ web

-- A reach with next-hop length 4, a next hop and web.
abbrev pub with_next_hop : List ℕ
with_next_hop = 0x00 ∷ 0x01 ∷ 0x85 ∷ 0x04 ∷ 0xc0 ∷ 0x00 ∷ 0x02 ∷ 0x01 ∷ 0x00 ∷ web

-- A reach with AFI 2 and web.
abbrev pub of_another : List ℕ
of_another = 0x00 ∷ 0x02 ∷ 0x85 ∷ 0x00 ∷ 0x00 ∷ web

-- A reach with SAFI 134, of flow rules in a VPN (RFC 8955 section 8), and web.
abbrev pub of_vpn : List ℕ
of_vpn = 0x00 ∷ 0x01 ∷ 0x86 ∷ 0x00 ∷ 0x00 ∷ web

-- An unreach with AFI 2 and echo.
abbrev pub echo_of_another : List ℕ
echo_of_another = 0x00 ∷ 0x02 ∷ 0x85 ∷ echo

-- A byte rate of 1.5, which is rounded down to 1, and a packet rate of minus 1, which is taken as zero.
abbrev pub limiting : List ℕ
limiting = 0x80 ∷ 0x06 ∷ 0 ∷ 0 ∷ 0x3f ∷ 0xc0 ∷ 0 ∷ 0 ∷ 0x80 ∷ 0x0c ∷ 0 ∷ 0 ∷ 0xbf ∷ 0x80 ∷ 0 ∷ 0 ∷ []

-- Their notes in one octet: 1 for the byte rate in the low three bits, 4 for the packet rate in the next three.
abbrev pub their_notes : ℕ
their_notes = 0x21

-- A byte rate that is not a number.
abbrev pub unsound_rate : List ℕ
unsound_rate = 0x80 ∷ 0x06 ∷ 0 ∷ 0 ∷ 0x7f ∷ 0xc0 ∷ 0 ∷ 0 ∷ []

-- Originator 7.
abbrev pub seven : Origin
seven = record { originator = 7 }

-- A reach from originator 7, with the two rates.
abbrev pub from_seven : List ℕ → Reach
from_seven attribute = reach_of attribute seven limiting

-- A record's head: so many octets of value, originator 7, the flags of both rates, byte rate 1, packet rate 0, their notes, three zeros.
abbrev pub head_for : ℕ → List ℕ
head_for size = 0 ∷ size ∷ 0 ∷ 0 ∷ 0 ∷ 7 ∷ 3 ∷ 0 ∷ replicate 7 0 ++ 1 ∷ replicate 16 0 ++ their_notes ∷ 0 ∷ 0 ∷ 0 ∷ []

-- The table with no rule.
abbrev pub none_held : List ℕ
none_held = replicate 136 0

-- The table with web.
abbrev pub web_held : List ℕ
web_held = head_for 12 ++ web_value ++ replicate 88 0

-- The table with web and echo.
abbrev pub both_held : List ℕ
both_held = head_for 12 ++ web_value ++ head_for 11 ++ echo_value ++ replicate 41 0

-- So many answer words, each of which holds 9 before the call.
abbrev pub words_lent : ℕ → List ℕ
words_lent many = replicate many 9
