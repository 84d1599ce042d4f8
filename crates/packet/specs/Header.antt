-- The IPv4 header (RFC 791) at the front of a packet's octets: the fields that rules and 01 speak of, and when octets are unusable as a
-- packet. An octet that is not there counts as 0. The header of IPv6 is in Header6.antt.
use Rattle.std.specs.Prelude.{ℕ, ◌*◌, ◌/◌, Bool, not, ◌||◌, List, ltb, eqb, length, get_or}
use Rattle.std.specs.Int.Bits.{bit_and}
use Rattle.octets.specs.Number.{number_at}
use Rattle.octets.specs.Bit.{has}
use Rattle.rule.specs.declared.Family.{Family}

-- The version of IP, which stands at the same place in both headers.
abbrev pub version : List ℕ → ℕ
version s = get_or s 0 0 / 16

-- The header's length in words of four octets; the field has four bits, so it is never above 15.
abbrev pub header_words : List ℕ → ℕ
header_words s = bit_and (get_or s 0 0) 0x0f

-- 01: "DSCP data the top six bits of packet octet 1".
abbrev pub dscp : List ℕ → ℕ
dscp s = get_or s 1 0 / 4

-- How many octets the packet says that it has, the header among them.
abbrev pub total_length : List ℕ → ℕ
total_length s = number_at 2 s 2

-- Three flags and, in the bits below them, the fragment offset.
abbrev pub fragment_field : List ℕ → ℕ
fragment_field s = number_at 2 s 6

-- DF, "don't fragment".
abbrev pub dont_fragment : ℕ → Bool
dont_fragment field = has field 0x4000

-- MF, "more fragments".
abbrev pub more_fragments : ℕ → Bool
more_fragments field = has field 0x2000

-- Where a fragment belongs in its datagram; the first fragment, and a datagram that is whole, has 0.
abbrev pub fragment_offset : ℕ → ℕ
fragment_offset field = bit_and field 0x1fff

-- The protocol of what follows the header: 1 is ICMP, 6 TCP, 17 UDP.
abbrev pub protocol : List ℕ → ℕ
protocol s = get_or s 9 0

-- The address that the packet comes from.
abbrev pub source : List ℕ → ℕ
source s = number_at 4 s 12

-- The address that the packet goes to.
abbrev pub destination : List ℕ → ℕ
destination s = number_at 4 s 16

-- 01: "A packet is 12 if under 20 octets are lent, version is not 4, header length is not 5 to 15 words, or total length is below the
-- header length."
unfoldable pub ipv4_unusable : Family → List ℕ → Bool
ipv4_unusable family s =
    ltb (length s) 20 || not (eqb (version s) family.version) || ltb (header_words s) 5 || ltb (total_length s) (4 * header_words s)
