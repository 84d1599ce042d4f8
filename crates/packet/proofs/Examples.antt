-- Worked examples of what a packet shows, written from 01's words and RFC 791: they hold the definitions from outside. Each claim is
-- computed. Assumes nothing.
use mathlib.Core.Path.{◌≡◌, refl}
use mathlib.Core.Bool.{true, false}
use mathlib.Core.List.{List, [], ◌∷◌, ◌++◌, map}
use Prim.Native.Nat.{ℕ}
use lib.Dec.{eqb}
use lib.ListN.{take, replicate}
use Rattle.octets.specs.Number.{number_at}
use Rattle.rule.specs.Family.{ipv4}
use Rattle.packet.specs.Header.{dont_fragment, fragment_offset, more_fragments, ipv4_unusable}
use Rattle.packet.specs.Transport.{transport_octets, has_ports, has_icmp, has_flags}
use Rattle.packet.specs.Packet.{fragment_data}

-- the fragment component's data, from the header's field of three flags and the offset
abbrev fragment_in : ℕ → ℕ
fragment_in field = fragment_data (dont_fragment field) (eqb (fragment_offset field) 0) (more_fragments field)

-- RFC 791's flags and offset: a whole datagram, one with DF, a first, a middle and a last fragment, a first with DF, a middle and a last
-- with every bit of the offset, and the bit that RFC 791 reserves
pub fragments : map fragment_in (0x0000 ∷ 0x4000 ∷ 0x2000 ∷ 0x2001 ∷ 0x00b9 ∷ 0x6000 ∷ 0x3fff ∷ 0x1fff ∷ 0x8000 ∷ [])
    ≡ 0x00 ∷ 0x01 ∷ 0x04 ∷ 0x02 ∷ 0x0a ∷ 0x05 ∷ 0x02 ∷ 0x0a ∷ 0x00 ∷ []
unfolding fragment_data
fragments = refl

-- ports are there with 4 octets of TCP or UDP and not with 3, ICMP's type and code with 2 octets and not with 1, flags with 14 octets and
-- not with 13; and none of them with a neighbour's number, or that of ICMP for IPv6
pub enough : (has_ports 6 4 ∷ has_ports 17 4 ∷ has_icmp ipv4 1 2 ∷ has_flags 6 14 ∷ [])
    ++ (has_ports 6 3 ∷ has_ports 17 3 ∷ has_icmp ipv4 1 1 ∷ has_flags 6 13 ∷ [])
    ++ (has_ports 1 60 ∷ has_ports 5 60 ∷ has_ports 7 60 ∷ has_ports 16 60 ∷ has_ports 18 60 ∷ [])
    ++ (has_icmp ipv4 0 60 ∷ has_icmp ipv4 2 60 ∷ has_icmp ipv4 6 60 ∷ has_icmp ipv4 58 60 ∷ [])
    ++ (has_flags 1 60 ∷ has_flags 5 60 ∷ has_flags 7 60 ∷ has_flags 17 60 ∷ [])
    ≡ (true ∷ true ∷ true ∷ true ∷ [])
    ++ (false ∷ false ∷ false ∷ false ∷ [])
    ++ (false ∷ false ∷ false ∷ false ∷ false ∷ [])
    ++ (false ∷ false ∷ false ∷ false ∷ [])
    ++ (false ∷ false ∷ false ∷ false ∷ [])
enough = refl

-- an IPv4 header from 192.0.2.1 to 198.51.100.7, by its first octet, its type of service, its length, the two octets of flags and
-- offset, and its protocol
abbrev pub header : ℕ → ℕ → ℕ → ℕ → ℕ → ℕ → List ℕ
header first service total high low protocol =
    first ∷ service ∷ 0 ∷ total ∷ 0 ∷ 0 ∷ high ∷ low ∷ 64 ∷ protocol ∷ 0 ∷ 0 ∷ 192 ∷ 0 ∷ 2 ∷ 1 ∷ 198 ∷ 51 ∷ 100 ∷ 7 ∷ []

-- a packet is usable with just its header, with headers of six and of fifteen words where its length has room for them, and where it is
-- longer than what is lent; it is not with 19 octets lent, of another version, with four words, or with a length below its header's
pub usable : map (ipv4_unusable ipv4)
    (header 0x45 0 20 0 0 6 ∷ header 0x46 0 24 0 0 6 ∷ header 0x4f 0 60 0 0 6 ∷ header 0x45 0 255 0 0 6
    ∷ take 19 (header 0x45 0 20 0 0 6) ∷ header 0x65 0 20 0 0 6 ∷ header 0x35 0 20 0 0 6 ∷ header 0x44 0 20 0 0 6 ∷ header 0x45 0 19 0 0 6 ∷ header 0x46 0 23 0 0 6
    ∷ [])
    ≡ false ∷ false ∷ false ∷ false ∷ true ∷ true ∷ true ∷ true ∷ true ∷ true ∷ []
unfolding ipv4_unusable number_at
usable = refl

-- four octets behind a header and so many octets of options
abbrev behind : ℕ → List ℕ → List ℕ
behind options h = h ++ replicate options 9 ++ (1 ∷ 2 ∷ 3 ∷ 4 ∷ [])

-- all four count in a packet of 24 octets, in a longer one, and in a first fragment; two in one of 22 octets, none in one of 20; and they
-- are not found behind the smallest offset or the greatest
pub transports : map transport_octets
    (behind 0 (header 0x45 0 24 0 0 6) ∷ behind 0 (header 0x45 0 28 0 0 6) ∷ behind 0 (header 0x45 0 24 0x20 0 6)
    ∷ behind 0 (header 0x45 0 22 0 0 6) ∷ behind 0 (header 0x45 0 20 0 0 6)
    ∷ behind 0 (header 0x45 0 24 0 1 6) ∷ behind 0 (header 0x45 0 24 0x1f 0xff 6)
    ∷ [])
    ≡ (1 ∷ 2 ∷ 3 ∷ 4 ∷ []) ∷ (1 ∷ 2 ∷ 3 ∷ 4 ∷ []) ∷ (1 ∷ 2 ∷ 3 ∷ 4 ∷ [])
    ∷ (1 ∷ 2 ∷ []) ∷ []
    ∷ [] ∷ []
    ∷ []
unfolding transport_octets number_at
transports = refl

-- all four count behind one word of options, behind ten, and in a first fragment with options; two in a packet of two octets more than its
-- header, none in one of just its header; none where what is lent ends with the options, inside them or before them; none in a later fragment
pub options : map transport_octets
    (behind 4 (header 0x46 0 28 0 0 6) ∷ behind 40 (header 0x4f 0 64 0 0 6) ∷ behind 4 (header 0x46 0 28 0x20 0 6)
    ∷ behind 40 (header 0x4f 0 62 0 0 6) ∷ behind 40 (header 0x4f 0 60 0 0 6)
    ∷ behind 0 (header 0x46 0 28 0 0 6) ∷ behind 0 (header 0x4f 0 64 0 0 6) ∷ header 0x4f 0 64 0 0 6
    ∷ behind 4 (header 0x46 0 28 0 1 6)
    ∷ [])
    ≡ (1 ∷ 2 ∷ 3 ∷ 4 ∷ []) ∷ (1 ∷ 2 ∷ 3 ∷ 4 ∷ []) ∷ (1 ∷ 2 ∷ 3 ∷ 4 ∷ [])
    ∷ (1 ∷ 2 ∷ []) ∷ []
    ∷ [] ∷ [] ∷ []
    ∷ []
    ∷ []
unfolding transport_octets number_at
options = refl
