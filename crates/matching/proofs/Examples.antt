-- Worked examples of which rules a packet meets, written from 01's words and RFC 791, 792 and 793: they hold the definitions from outside.
-- Each claim is computed. Assumes nothing.
use mathlib.Core.Path.{◌≡◌, refl}
use mathlib.Core.Bool.{Bool, true, false, not, ◌&&◌}
use mathlib.Core.List.{List, [], ◌∷◌, ◌++◌}
use Prim.Native.Nat.{ℕ}
use Rattle.std.proofs.Common.{Option, Some, None}
use Rattle.octets.specs.Test.{every, one_holds, same_list}
use Rattle.octets.specs.Number.{number_at}
use Rattle.octets.specs.Walk.{walk}
use Rattle.prefix.specs.Prefix.{bits, covers_address, pattern_in}
use Rattle.rule.specs.Family.{ipv4, ipv6}
use Rattle.rule.specs.Shape.{shape_of}
use Rattle.rule.specs.Operator.{ends_list, size_of}
use Rattle.rule.specs.Component.{pair_at, pairs_from, lead_of, offset_at, prefix_end, body_end, component_at}
use Rattle.rule.specs.Value.{components_from, components}
use Rattle.spelling.specs.Plain.{plain_operand}
use Rattle.packet.specs.declared.Packet.{Packet}
use Rattle.packet.specs.Header.{ipv4_unusable}
use Rattle.packet.specs.Transport.{transport_octets, transport_fields}
use Rattle.packet.specs.Packet.{fragment_data, ipv4_fields, is_unusable, fields_of, packet_of}
use Rattle.packet.proofs.Examples.{header}
use Rattle.matching.specs.Operator.{numeric_holds, bitmask_holds}
use Rattle.matching.specs.PairList.{groups_from, groups, list_holds}
use Rattle.matching.specs.Match.{holds_for, body_holds, field_matches, fields_for, body_covers, component_matches, matches}

-- whether octets are a packet that meets the rule of a value
abbrev met : List ℕ → List ℕ → Bool
met octets value = seen (packet_of ipv4 octets)
  where
    seen : Option Packet → Bool
    seen (Some packet) = matches ipv4 value packet
    seen None = false

-- TCP's header from port 1024 to port 80, of five words, with SYN
abbrev syn : List ℕ
syn = 4 ∷ 0 ∷ 0 ∷ 80 ∷ 0 ∷ 0 ∷ 0 ∷ 0 ∷ 0 ∷ 0 ∷ 0 ∷ 0 ∷ 0x50 ∷ 0x02 ∷ 0 ∷ 0 ∷ 0 ∷ 0 ∷ 0 ∷ 0 ∷ []

-- UDP's header from port 100 to port 200, and ICMP's echo request, type 8 and code 0
abbrev udp : List ℕ
udp = 0 ∷ 100 ∷ 0 ∷ 200 ∷ 0 ∷ 8 ∷ 0 ∷ 0 ∷ []

abbrev echo : List ℕ
echo = 8 ∷ 0 ∷ 0 ∷ 0 ∷ 0 ∷ 0 ∷ 0 ∷ 0 ∷ []

-- octets that are a packet, rules that it meets, and rules that it does not, each by its value
record Example : Type 0 where
  pub octets : List ℕ
  pub meets : List (List ℕ)
  pub misses : List (List ℕ)

-- whether what an example says is so
abbrev holds : Example → Bool
holds e = every (met e.octets) e.meets && not (one_holds (met e.octets) e.misses)

-- a TCP packet of 40 octets with DF and DSCP 46 that opens a connection: by its addresses, protocol and ports, its length, its DSCP under
-- bits that are to be ignored, and its fragment data likewise
abbrev opening : Example
opening =
    record {
      octets = header 0x45 0xb8 40 0x40 0 6 ++ syn;
      meets =
          (0x01 ∷ 0x00 ∷ []) ∷ (0x01 ∷ 0x18 ∷ 0xc6 ∷ 0x33 ∷ 0x64 ∷ []) ∷ (0x01 ∷ 0x20 ∷ 0xc6 ∷ 0x33 ∷ 0x64 ∷ 0x07 ∷ [])
          ∷ (0x02 ∷ 0x18 ∷ 0xc0 ∷ 0x00 ∷ 0x02 ∷ []) ∷ (0x03 ∷ 0x81 ∷ 0x06 ∷ []) ∷ (0x04 ∷ 0x81 ∷ 0x50 ∷ [])
          ∷ (0x04 ∷ 0x91 ∷ 0x04 ∷ 0x00 ∷ []) ∷ (0x05 ∷ 0x81 ∷ 0x50 ∷ []) ∷ (0x06 ∷ 0x91 ∷ 0x04 ∷ 0x00 ∷ []) ∷ (0x0a ∷ 0x81 ∷ 0x28 ∷ [])
          ∷ (0x0b ∷ 0x81 ∷ 0x2e ∷ []) ∷ (0x0b ∷ 0x81 ∷ 0xee ∷ []) ∷ (0x0c ∷ 0x81 ∷ 0x01 ∷ []) ∷ (0x0c ∷ 0x81 ∷ 0xf1 ∷ [])
          ∷ (0x0c ∷ 0x82 ∷ 0x0e ∷ []) ∷ (0x01 ∷ 0x18 ∷ 0xc6 ∷ 0x33 ∷ 0x64 ∷ 0x03 ∷ 0x81 ∷ 0x06 ∷ 0x05 ∷ 0x81 ∷ 0x50 ∷ []) ∷ [];
      misses =
          (0x01 ∷ 0x18 ∷ 0xc6 ∷ 0x33 ∷ 0x65 ∷ []) ∷ (0x01 ∷ 0x20 ∷ 0xc6 ∷ 0x33 ∷ 0x64 ∷ 0x06 ∷ [])
          ∷ (0x02 ∷ 0x18 ∷ 0xc6 ∷ 0x33 ∷ 0x64 ∷ []) ∷ (0x03 ∷ 0x81 ∷ 0x11 ∷ []) ∷ (0x04 ∷ 0x81 ∷ 0x51 ∷ [])
          ∷ (0x05 ∷ 0x91 ∷ 0x04 ∷ 0x00 ∷ []) ∷ (0x06 ∷ 0x81 ∷ 0x50 ∷ []) ∷ (0x07 ∷ 0x87 ∷ 0x00 ∷ []) ∷ (0x08 ∷ 0x87 ∷ 0x00 ∷ [])
          ∷ (0x0a ∷ 0x84 ∷ 0x28 ∷ []) ∷ (0x0a ∷ 0x82 ∷ 0x28 ∷ []) ∷ (0x0b ∷ 0x81 ∷ 0x2f ∷ []) ∷ (0x0c ∷ 0x80 ∷ 0x0e ∷ [])
          ∷ (0x01 ∷ 0x18 ∷ 0xc6 ∷ 0x33 ∷ 0x64 ∷ 0x03 ∷ 0x81 ∷ 0x06 ∷ 0x05 ∷ 0x81 ∷ 0x51 ∷ []) ∷ [];
    }

-- the same packet's flags, in one octet and in two, where the four bits above them count as 0: SYN, any of SYN and ACK, not ACK
abbrev flags : Example
flags =
    record {
      octets = header 0x45 0xb8 40 0x40 0 6 ++ syn;
      meets =
          (0x09 ∷ 0x81 ∷ 0x02 ∷ []) ∷ (0x09 ∷ 0x80 ∷ 0x12 ∷ []) ∷ (0x09 ∷ 0x82 ∷ 0x10 ∷ []) ∷ (0x09 ∷ 0x91 ∷ 0x00 ∷ 0x02 ∷ [])
          ∷ (0x09 ∷ 0x90 ∷ 0x00 ∷ 0x12 ∷ []) ∷ (0x09 ∷ 0x92 ∷ 0x50 ∷ 0x00 ∷ []) ∷ [];
      misses =
          (0x09 ∷ 0x81 ∷ 0x12 ∷ []) ∷ (0x09 ∷ 0x82 ∷ 0x12 ∷ []) ∷ (0x09 ∷ 0x83 ∷ 0x02 ∷ []) ∷ (0x09 ∷ 0x91 ∷ 0x50 ∷ 0x02 ∷ [])
          ∷ (0x09 ∷ 0x90 ∷ 0x50 ∷ 0x00 ∷ []) ∷ [];
    }

-- its port by lists: AND binds tighter than OR, the first AND is ignored, and a range is of one port
abbrev joined : Example
joined =
    record {
      octets = header 0x45 0xb8 40 0x40 0 6 ++ syn;
      meets =
          (0x05 ∷ 0x01 ∷ 0x50 ∷ 0x01 ∷ 0x01 ∷ 0xc1 ∷ 0x02 ∷ []) ∷ (0x05 ∷ 0x01 ∷ 0x01 ∷ 0x01 ∷ 0x50 ∷ 0xc1 ∷ 0x50 ∷ [])
          ∷ (0x05 ∷ 0x41 ∷ 0x50 ∷ 0x81 ∷ 0x02 ∷ []) ∷ (0x05 ∷ 0x03 ∷ 0x50 ∷ 0xc5 ∷ 0x50 ∷ []) ∷ (0x04 ∷ 0x03 ∷ 0x50 ∷ 0xc5 ∷ 0x50 ∷ [])
          ∷ [];
      misses =
          (0x05 ∷ 0x01 ∷ 0x01 ∷ 0x81 ∷ 0x02 ∷ []) ∷ (0x05 ∷ 0x01 ∷ 0x50 ∷ 0xc1 ∷ 0x01 ∷ []) ∷ (0x05 ∷ 0x03 ∷ 0x51 ∷ 0xc5 ∷ 0x52 ∷ [])
          ∷ (0x04 ∷ 0x03 ∷ 0x51 ∷ 0xd5 ∷ 0x03 ∷ 0xff ∷ []) ∷ [];
    }

-- a UDP packet, whole
abbrev datagram : Example
datagram =
    record {
      octets = header 0x45 0 28 0 0 17 ++ udp;
      meets =
          (0x03 ∷ 0x81 ∷ 0x11 ∷ []) ∷ (0x04 ∷ 0x81 ∷ 0x64 ∷ []) ∷ (0x04 ∷ 0x81 ∷ 0xc8 ∷ []) ∷ (0x05 ∷ 0x81 ∷ 0xc8 ∷ [])
          ∷ (0x06 ∷ 0x81 ∷ 0x64 ∷ []) ∷ (0x04 ∷ 0x87 ∷ 0x00 ∷ []) ∷ [];
      misses =
          (0x03 ∷ 0x81 ∷ 0x06 ∷ []) ∷ (0x04 ∷ 0x81 ∷ 0x65 ∷ []) ∷ (0x05 ∷ 0x81 ∷ 0x64 ∷ []) ∷ (0x06 ∷ 0x81 ∷ 0xc8 ∷ [])
          ∷ (0x09 ∷ 0x82 ∷ 0x00 ∷ []) ∷ (0x07 ∷ 0x87 ∷ 0x00 ∷ []) ∷ (0x0c ∷ 0x80 ∷ 0x0f ∷ []) ∷ [];
    }

-- its later fragment, the last, shows no port to any operator
abbrev later : Example
later =
    record {
      octets = header 0x45 0 28 0 185 17 ++ udp;
      meets =
          (0x03 ∷ 0x81 ∷ 0x11 ∷ []) ∷ (0x0c ∷ 0x80 ∷ 0x02 ∷ []) ∷ (0x0c ∷ 0x81 ∷ 0x0a ∷ []) ∷ (0x0c ∷ 0x82 ∷ 0x04 ∷ []) ∷ [];
      misses =
          (0x04 ∷ 0x87 ∷ 0x00 ∷ []) ∷ (0x05 ∷ 0x87 ∷ 0x00 ∷ []) ∷ (0x06 ∷ 0x87 ∷ 0x00 ∷ []) ∷ (0x04 ∷ 0x86 ∷ 0x00 ∷ [])
          ∷ (0x0c ∷ 0x80 ∷ 0x04 ∷ []) ∷ (0x0c ∷ 0x81 ∷ 0x01 ∷ []) ∷ [];
    }

-- its first fragment does
abbrev first : Example
first =
    record {
      octets = header 0x45 0 28 0x20 0 17 ++ udp;
      meets =
          (0x05 ∷ 0x81 ∷ 0xc8 ∷ []) ∷ (0x0c ∷ 0x81 ∷ 0x04 ∷ []) ∷ [];
      misses =
          (0x0c ∷ 0x80 ∷ 0x0b ∷ []) ∷ [];
    }

-- a TCP packet whose options, a word, look like ports: those behind them are its ports, and its flags stand there too
abbrev longer : Example
longer =
    record {
      octets = header 0x46 0 44 0 0 6 ++ (0 ∷ 25 ∷ 0 ∷ 25 ∷ []) ++ syn;
      meets =
          (0x04 ∷ 0x81 ∷ 0x50 ∷ []) ∷ (0x05 ∷ 0x81 ∷ 0x50 ∷ []) ∷ (0x06 ∷ 0x91 ∷ 0x04 ∷ 0x00 ∷ []) ∷ (0x09 ∷ 0x81 ∷ 0x02 ∷ [])
          ∷ (0x0a ∷ 0x81 ∷ 0x2c ∷ []) ∷ [];
      misses =
          (0x04 ∷ 0x81 ∷ 0x19 ∷ []) ∷ (0x05 ∷ 0x81 ∷ 0x19 ∷ []) ∷ (0x06 ∷ 0x81 ∷ 0x19 ∷ []) ∷ [];
    }

-- an ICMP echo request has a type and a code, and neither ports nor flags
abbrev request : Example
request =
    record {
      octets = header 0x45 0 28 0 0 1 ++ echo;
      meets =
          (0x03 ∷ 0x81 ∷ 0x01 ∷ []) ∷ (0x07 ∷ 0x81 ∷ 0x08 ∷ []) ∷ (0x08 ∷ 0x81 ∷ 0x00 ∷ [])
          ∷ (0x07 ∷ 0x81 ∷ 0x08 ∷ 0x08 ∷ 0x81 ∷ 0x00 ∷ []) ∷ [];
      misses =
          (0x07 ∷ 0x81 ∷ 0x00 ∷ []) ∷ (0x08 ∷ 0x81 ∷ 0x08 ∷ []) ∷ (0x04 ∷ 0x87 ∷ 0x00 ∷ []) ∷ (0x09 ∷ 0x82 ∷ 0x00 ∷ []) ∷ [];
    }

-- each of them is so
pub packets : every holds (opening ∷ flags ∷ joined ∷ datagram ∷ later ∷ first ∷ longer ∷ request ∷ []) ≡ true
unfolding
    number_at walk bits same_list covers_address pattern_in shape_of ends_list size_of pair_at pairs_from lead_of offset_at prefix_end body_end
    component_at components_from components plain_operand is_unusable ipv4_unusable fragment_data ipv4_fields transport_octets transport_fields fields_of packet_of
    numeric_holds bitmask_holds every one_holds groups_from groups list_holds holds_for body_holds field_matches fields_for
    body_covers component_matches matches
packets = refl

-- a packet of IPv6 that goes from 2001:db8::2 to 2001:db8::1234:5678:9a00:1, whose protocol is not found, whose transport header is shown as
-- one of ICMP, and whose flow label has more than 16 bits
abbrev seen : Packet
seen =
    record {
      destination = record { high = 0x20010db800000000; low = 0x123456789a000001 };
      source = record { high = 0x20010db800000000; low = 2 };
      protocol = None;
      length = 65575;
      dscp = 0;
      fragment = 0;
      transport =
          record {
            source_port = None;
            destination_port = None;
            icmp_type = Some 128;
            icmp_code = Some 0;
            flags = None;
          };
      label = Some 0x12345;
    }

-- RFC 8956 section 3.8's pattern from bit 64 up to 104, and others with and without an offset; the lowest bit of a fragment value is ignored;
-- and a flow label is compared whole
pub patterns : every (λ value. matches ipv6 value seen)
    ((0x01 ∷ 0x68 ∷ 0x40 ∷ 0x12 ∷ 0x34 ∷ 0x56 ∷ 0x78 ∷ 0x9a ∷ []) ∷ (0x01 ∷ 0x20 ∷ 0x00 ∷ 0x20 ∷ 0x01 ∷ 0x0d ∷ 0xb8 ∷ [])
    ∷ (0x01 ∷ 0x00 ∷ 0x00 ∷ [])
    ∷ (0x01 ∷ 0x68 ∷ 0x40 ∷ 0x12 ∷ 0x34 ∷ 0x56 ∷ 0x78 ∷ 0x9a ∷ 0x02 ∷ 0x80 ∷ 0x00 ∷ 0x20 ∷ 0x01 ∷ 0x0d ∷ 0xb8 ∷ 0x00 ∷ 0x00 ∷ 0x00 ∷ 0x00 ∷ 0x00 ∷ 0x00 ∷ 0x00 ∷ 0x00 ∷ 0x00 ∷ 0x00 ∷ 0x00 ∷ 0x02 ∷ [])
    ∷ (0x0c ∷ 0x81 ∷ 0x01 ∷ []) ∷ (0x07 ∷ 0x81 ∷ 0x80 ∷ []) ∷ (0x0d ∷ 0xa1 ∷ 0x00 ∷ 0x01 ∷ 0x23 ∷ 0x45 ∷ []) ∷ [])
    && not (one_holds (λ value. matches ipv6 value seen)
    ((0x01 ∷ 0x68 ∷ 0x40 ∷ 0x12 ∷ 0x34 ∷ 0x56 ∷ 0x78 ∷ 0x9b ∷ []) ∷ (0x01 ∷ 0x21 ∷ 0x00 ∷ 0x20 ∷ 0x01 ∷ 0x0d ∷ 0xb8 ∷ 0x80 ∷ [])
    ∷ (0x02 ∷ 0x41 ∷ 0x40 ∷ 0x80 ∷ []) ∷ (0x03 ∷ 0x87 ∷ 0x00 ∷ []) ∷ (0x0c ∷ 0x81 ∷ 0x02 ∷ []) ∷ (0x04 ∷ 0x87 ∷ 0x00 ∷ []) ∷ (0x0d ∷ 0x91 ∷ 0x23 ∷ 0x45 ∷ []) ∷ (0x0d ∷ 0xa1 ∷ 0x00 ∷ 0x11 ∷ 0x23 ∷ 0x45 ∷ []) ∷ []))
    ≡ true
unfolding
    number_at walk bits same_list covers_address pattern_in shape_of ends_list size_of pair_at pairs_from lead_of offset_at prefix_end body_end
    component_at components_from components plain_operand numeric_holds bitmask_holds every one_holds groups_from groups list_holds holds_for
    body_holds field_matches fields_for body_covers component_matches matches
patterns = refl
