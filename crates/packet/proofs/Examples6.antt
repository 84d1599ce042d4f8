-- Worked examples of what an IPv6 packet shows, written from 2026-04's words and RFC 8200: they hold the definitions from outside. Each claim
-- is computed. Assumes nothing.
use mathlib.Core.Path.{◌≡◌, refl, sym, ◌∙◌}
use mathlib.Core.Bool.{true, false}
use mathlib.Core.List.Memᴰ
use mathlib.Core.List.{List, [], ◌∷◌, ◌++◌, map}
use Prim.Native.Nat.{ℕ}
use lib.ListN.{take, replicate}
use Rattle.std.proofs.Common.{Option, Some, None}
use Rattle.octets.specs.Number.{number_at}
use Rattle.octets.specs.Walk.{walk}
use Rattle.octets.proofs.Cases.{apart}
use Rattle.rule.specs.Family.{ipv6}
use Rattle.extension.specs.Extension.{offset_of_fragment, extension_at, fragment_at, header_at, headers_from, upper_layer, walked_over, before_fragment}
use Rattle.packet.specs.declared.Packet.{Packet}
use Rattle.packet.specs.Header6.{ipv6_unusable, counted, upper_octets}
use Rattle.packet.specs.Transport.{has_ports, has_icmp, transport_fields}
use Rattle.packet.specs.Packet.{fragment_data, ipv6_fields}
use Rattle.packet.specs.Later.{LaterFragment}

-- an IPv6 header by its first octet, its payload length and its next header, and what follows
abbrev own : ℕ → ℕ → ℕ → List ℕ → List ℕ
own first payload next rest = first ∷ 0x01 ∷ 0x23 ∷ 0x45 ∷ 0 ∷ payload ∷ next ∷ 64 ∷ replicate 32 0 ++ rest

-- a header 0, 43 or 60 of eight octets, and a fragment header, each by the number of the next one, the latter by its field too
abbrev options : ℕ → List ℕ → List ℕ
options next rest = next ∷ 0 ∷ 1 ∷ 4 ∷ 0 ∷ 0 ∷ 0 ∷ 0 ∷ rest

abbrev fragment : ℕ → ℕ → List ℕ → List ℕ
fragment next field rest = next ∷ 0 ∷ 0 ∷ field ∷ 0 ∷ 0 ∷ 0 ∷ 7 ∷ rest

-- ports 1000 and 25, as TCP and UDP have them
abbrev ports : List ℕ
ports = 3 ∷ 232 ∷ 0 ∷ 25 ∷ []

-- a packet is usable with just its header, whatever its payload length says; it is not with 39 octets lent, or of another version
pub usable : map (ipv6_unusable ipv6) (own 0x60 0 6 [] ∷ own 0x6f 255 6 [] ∷ take 39 (own 0x60 0 6 []) ∷ own 0x40 0 6 [] ∷ own 0x70 0 6 [] ∷ [])
    ≡ false ∷ false ∷ true ∷ true ∷ true ∷ []
unfolding ipv6_unusable
usable = refl

-- what is shown of the upper layer's number, of fragments, and of the source port
pub record Seen : Type 0 where
  pub protocol : Option ℕ
  pub fragment : ℕ
  pub port : Option ℕ

abbrev seen : Option ℕ → ℕ → Option ℕ → Seen
seen protocol fragment port = record { protocol = protocol; fragment = fragment; port = port }

abbrev seen_in : List ℕ → Seen
seen_in s = let packet : Packet = ipv6_fields ipv6 s in seen packet.protocol packet.fragment packet.transport.source_port

-- 40 octets with next header 6; ports behind a payload length of 0, which do not count; behind no header, behind one and behind three; with
-- three of their octets in the payload length, or lent; 50, 51, 59 and 135 are upper layers
pub chains : map seen_in
    (own 0x60 0 6 []
    ∷ own 0x60 0 6 ports
    ∷ own 0x60 4 6 ports
    ∷ own 0x60 12 0 (options 6 ports)
    ∷ own 0x60 28 0 (options 43 (options 60 (options 17 ports)))
    ∷ own 0x60 11 0 (options 6 ports)
    ∷ own 0x60 12 0 (options 6 (3 ∷ 232 ∷ 0 ∷ []))
    ∷ own 0x60 4 50 ports ∷ own 0x60 4 51 ports ∷ own 0x60 4 59 ports ∷ own 0x60 4 135 ports
    ∷ [])
    ≡ seen (Some 6) 0 None
    ∷ seen (Some 6) 0 None
    ∷ seen (Some 6) 0 (Some 1000)
    ∷ seen (Some 6) 0 (Some 1000)
    ∷ seen (Some 17) 0 (Some 1000)
    ∷ seen (Some 6) 0 None
    ∷ seen (Some 6) 0 None
    ∷ seen (Some 50) 0 None ∷ seen (Some 51) 0 None ∷ seen (Some 59) 0 None ∷ seen (Some 135) 0 None
    ∷ []
unfolding number_at walk extension_at fragment_at header_at headers_from upper_layer upper_octets transport_fields fragment_data ipv6_fields
chains = refl

-- a walk past the octets: a header behind a payload length of 0; one of which the last octet is missing in the payload length, or lent, or that
-- says that it is longer; and a fragment header of which one is
pub lost : map seen_in
    (own 0x60 0 0 (options 6 ports)
    ∷ own 0x60 7 0 (options 6 ports)
    ∷ own 0x60 8 0 (take 7 (options 6 []))
    ∷ own 0x60 12 0 (6 ∷ 1 ∷ 1 ∷ 4 ∷ 0 ∷ 0 ∷ 0 ∷ 0 ∷ ports)
    ∷ own 0x60 7 44 (fragment 6 1 ports)
    ∷ own 0x60 8 44 (take 7 (fragment 6 1 []))
    ∷ [])
    ≡ seen None 0 None ∷ seen None 0 None ∷ seen None 0 None ∷ seen None 0 None ∷ seen None 0 None ∷ seen None 0 None ∷ []
unfolding number_at walk extension_at fragment_at header_at headers_from upper_layer upper_octets transport_fields fragment_data ipv6_fields
lost = refl

-- fragments: a whole one, with the bits between set, too; a first one; a middle and a last one, which show their upper layer and no port; a
-- header 60 behind a first one, and behind a last one, whose data stand though nothing is found; a second 44, which is the upper layer
pub fragments : map seen_in
    (own 0x60 12 44 (fragment 6 0 ports)
    ∷ own 0x60 12 44 (fragment 6 6 ports)
    ∷ own 0x60 12 44 (fragment 6 1 ports)
    ∷ own 0x60 12 44 (fragment 6 9 ports)
    ∷ own 0x60 12 44 (fragment 6 8 ports)
    ∷ own 0x60 20 44 (fragment 60 1 (options 6 ports))
    ∷ own 0x60 20 44 (fragment 60 8 (options 6 ports))
    ∷ own 0x60 20 44 (fragment 44 1 (fragment 6 8 ports))
    ∷ [])
    ≡ seen (Some 6) 0 (Some 1000)
    ∷ seen (Some 6) 0 (Some 1000)
    ∷ seen (Some 6) 0x04 (Some 1000)
    ∷ seen (Some 6) 0x02 None
    ∷ seen (Some 6) 0x0a None
    ∷ seen (Some 6) 0x04 (Some 1000)
    ∷ seen None 0x0a None
    ∷ seen (Some 44) 0x04 None
    ∷ []
unfolding number_at walk extension_at fragment_at header_at headers_from upper_layer upper_octets transport_fields fragment_data ipv6_fields
fragments = refl

-- a later fragment: a header 60 and behind it, at 48, a fragment header with offset 1 and M; the walk comes over both, so that the law of later
-- fragments speaks of it, and what that says is what is computed
abbrev middle : List ℕ
middle = own 0x60 20 60 (options 44 (fragment 17 9 ports))

middle-walk : walked_over (counted middle) ≡ record { kind = 60; at = 40; fragmented = false; field = 0 } ∷ before_fragment 48 ∷ []
unfolding number_at walk extension_at fragment_at header_at headers_from
middle-walk = refl

middle-offset : offset_of_fragment (number_at 2 middle 50) ≡ 1
unfolding number_at
middle-offset = refl

pub middle-later : LaterFragment middle 48
middle-later = record { walked = rw middle-walk (Memᴰ.tail (Memᴰ.head refl)); later = λ z. apart (sym z ∙ middle-offset) }

pub middle-seen : seen_in middle ≡ seen (Some 17) 0x02 None
unfolding number_at walk extension_at fragment_at header_at headers_from upper_layer upper_octets transport_fields fragment_data ipv6_fields
middle-seen = refl

-- ICMPv6 is protocol 58, and ICMP's number shows no type
pub icmp : has_icmp ipv6 58 2 ∷ has_icmp ipv6 58 1 ∷ has_icmp ipv6 1 60 ∷ has_ports 58 60 ∷ [] ≡ true ∷ false ∷ false ∷ false ∷ []
icmp = refl
