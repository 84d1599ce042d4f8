-- The IPv6 header (RFC 8200 section 3) at the front of a packet's octets, by the names of its fields there; when octets are unusable as a
-- packet; and what is behind the headers that are walked over (crate extension). An octet that is not there counts as 0.
use Rattle.std.specs.Prelude.{ℕ, ◌+◌, ◌/◌, Bool, cond, not, ◌&&◌, ◌||◌, List, [], ltb, eqb, length, take, drop, Result}
use Rattle.std.specs.Result.{is_ok}
use Rattle.std.specs.Int.Bits.{bit_and}
use Rattle.octets.specs.Number.{number_at}
use Rattle.prefix.specs.declared.Address.{Address}
use Rattle.rule.specs.declared.Family.{Family}
use Rattle.extension.specs.declared.Progress.{Progress}
use Rattle.extension.specs.Extension.{offset_of_fragment, reached}
use Rattle.packet.specs.Header.{version}

-- "Traffic Class", the 8 bits behind the version.
abbrev pub traffic_class : List ℕ → ℕ
traffic_class s = bit_and (number_at 2 s 0 / 16) 0xff

-- "Flow Label", the 20 bits behind the traffic class.
abbrev pub flow_label : List ℕ → ℕ
flow_label s = bit_and (number_at 4 s 0) 0xfffff

-- "Payload Length": how many octets follow the header.
abbrev pub payload_length : List ℕ → ℕ
payload_length s = number_at 2 s 4

-- 2026-04: "Packet length is payload length plus 40."
abbrev pub packet_length : List ℕ → ℕ
packet_length s = payload_length s + 40

-- An address of 128 bits from a place on, in two words of 64.
abbrev pub address_at : List ℕ → ℕ → Address
address_at s at = record { high = number_at 8 s at; low = number_at 8 s (at + 8) }

-- "Source Address".
abbrev pub source_address : List ℕ → Address
source_address s = address_at s 8

-- "Destination Address".
abbrev pub destination_address : List ℕ → Address
destination_address s = address_at s 24

-- 2026-04: "A packet is 12 under 40 octets or with version not 6."
unfoldable pub ipv6_unusable : Family → List ℕ → Bool
ipv6_unusable family s = ltb (length s) 40 || not (eqb (version s) family.version)

-- The octets that count: those lent, up to the packet's length.
abbrev pub counted : List ℕ → List ℕ
counted s = take (packet_length s) s

-- Whether octets of the upper layer count: it is found, and not behind a fragment offset that is not 0.
abbrev pub upper_found : Result Progress Progress → Bool
upper_found upper = is_ok upper && eqb (offset_of_fragment (reached upper).field) 0

-- The octets from the upper layer's first one on, of those that count.
unfoldable pub upper_octets : List ℕ → Result Progress Progress → List ℕ
upper_octets s upper = cond (upper_found upper) (drop (reached upper).at s) []
