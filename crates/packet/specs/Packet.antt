-- What octets show as a packet: its fields, or that they are unusable as one. A family's packets have the header of its version of IP.
use Rattle.std.specs.Prelude.{ℕ, ◌+◌, ◌/◌, Bool, false, not, cond, ◌&&◌, List, eqb, Option, Some, None}
use Rattle.std.specs.Bool.{then_some}
use Rattle.std.specs.Result.{is_ok}
use Rattle.octets.specs.Bit.{bit_if}
use Rattle.prefix.specs.declared.Address.{Address}
use Rattle.rule.specs.declared.Family.{Family}
use Rattle.extension.specs.Extension.{offset_of_fragment, more_flag, reached, upper_layer}
use Rattle.packet.specs.declared.Packet.{Packet}
use Rattle.packet.specs.Header.{ipv4_unusable, destination, source, protocol, total_length, dscp, fragment_field, dont_fragment, fragment_offset, more_fragments}
use Rattle.packet.specs.Header6.{traffic_class, flow_label, packet_length, source_address, destination_address, ipv6_unusable, counted, upper_octets}
use Rattle.packet.specs.Transport.{transport_octets, transport_fields}

-- RFC 8955 section 4.2.2.12, RFC 8956 section 3.6, and 01: "0x01 DF, 0x02 offset not 0, 0x04 offset 0 and MF, 0x08 offset not 0 and MF clear";
-- `first` says that the offset is 0.
unfoldable pub fragment_data : Bool → Bool → Bool → ℕ
fragment_data dont first more = bit_if dont 0x01 + bit_if (not first) 0x02 + bit_if (first && more) 0x04 + bit_if (not first && not more) 0x08

-- An address of up to 64 bits, which stands in the low one of its two words.
abbrev pub one_word : ℕ → Address
one_word number = record { high = 0; low = number }

-- The fields of a usable IPv4 packet. 01: "Length data is the total length field". It has no flow label.
unfoldable pub ipv4_fields : Family → List ℕ → Packet
ipv4_fields family s =
    let field = fragment_field s in
    record {
      destination = one_word (destination s);
      source = one_word (source s);
      protocol = Some (protocol s);
      length = total_length s;
      dscp = dscp s;
      fragment = fragment_data (dont_fragment field) (eqb (fragment_offset field) 0) (more_fragments field);
      transport = transport_fields family (protocol s) (transport_octets s);
      label = None;
    }

-- The fields of a usable IPv6 packet. RFC 8956 section 3.3: the protocol is that of the upper layer, hidden where the walk finds none; the
-- fragment data are never DF, and 0 where the walk came over no fragment header, since its field is then 0.
unfoldable pub ipv6_fields : Family → List ℕ → Packet
ipv6_fields family s =
    let upper = upper_layer (counted s) in
    let progress = reached upper in
    record {
      destination = destination_address s;
      source = source_address s;
      protocol = then_some (is_ok upper) progress.kind;
      length = packet_length s;
      dscp = traffic_class s / 4;
      fragment = fragment_data false (eqb (offset_of_fragment progress.field) 0) (more_flag progress.field);
      transport = transport_fields family progress.kind (upper_octets (counted s) upper);
      label = Some (flow_label s);
    }

-- Whether a family's packets are those of IP version 4; else they are those of version 6.
abbrev pub is_version4 : Family → Bool
is_version4 family = eqb family.version 4

-- When octets are unusable as a packet: 12.
unfoldable pub is_unusable : Family → List ℕ → Bool
is_unusable family s = cond (is_version4 family) (ipv4_unusable family s) (ipv6_unusable family s)

-- The fields of a usable packet.
unfoldable pub fields_of : Family → List ℕ → Packet
fields_of family s = cond (is_version4 family) (ipv4_fields family s) (ipv6_fields family s)

-- What is read where octets are unusable, and else by their fields.
abbrev pub reading_of : Bool → Packet → Option Packet
reading_of unusable fields = cond unusable None (Some fields)

-- What octets show as a packet.
unfoldable pub packet_of : Family → List ℕ → Option Packet
packet_of family s = reading_of (is_unusable family s) (fields_of family s)
