-- The transport header (RFC 8955 sections 4.2.2.4 to 4.2.2.9): which of its octets are there behind an IPv4 header, and what transport
-- octets show in either family. What they do not show is hidden, and a component that asks for it never matches.
use Rattle.std.specs.Prelude.{ℕ, ◌*◌, min, Bool, cond, ◌&&◌, ◌||◌, List, [], leb, eqb, length, get_or, None}
use Rattle.std.specs.Bool.{then_some}
use Rattle.std.specs.Int.Bits.{bit_and}
use Rattle.octets.specs.Number.{number_at}
use Rattle.rule.specs.declared.Family.{Family}
use Rattle.rule.specs.Value.{between}
use Rattle.packet.specs.declared.Transport.{Transport}
use Rattle.packet.specs.Header.{header_words, total_length, fragment_field, fragment_offset}

-- 01: transport octets "are found only if" ... "fragment offset 0"; 2026-02 strikes out "header length is 5 words and".
abbrev pub transport_found : ℕ → Bool
transport_found offset = eqb offset 0

-- 01: "Transport octets count only up to the smaller of lent and total length"; 2026-02: "the transport header is looked for after the
-- full header length", so behind the options.
unfoldable pub transport_octets : List ℕ → List ℕ
transport_octets s =
    cond (transport_found (fragment_offset (fragment_field s))) (between s (4 * header_words s) (min (length s) (total_length s))) []

-- 01: "Ports need protocol 6 or 17 and 4 transport octets".
abbrev pub has_ports : ℕ → ℕ → Bool
has_ports protocol there = (eqb protocol 6 || eqb protocol 17) && leb 4 there

-- 01: "ICMP needs protocol 1 and 2 octets"; 1 is ICMP's number in IPv4, and 58 ICMPv6's (RFC 8956 section 3.4).
abbrev pub has_icmp : Family → ℕ → ℕ → Bool
has_icmp family protocol there = eqb protocol family.icmp && leb 2 there

-- 01: "flags need protocol 6 and 14 octets".
abbrev pub has_flags : ℕ → ℕ → Bool
has_flags protocol there = eqb protocol 6 && leb 14 there

-- A transport header of which nothing is shown.
abbrev pub hidden : Transport
hidden = record { source_port = None; destination_port = None; icmp_type = None; icmp_code = None; flags = None }

-- The fields that transport octets show. Flags are in their two-octet form, 01: "octets 12 and 13 with the top four bits as 0"; a value of
-- one octet asks for no bit above those of octet 13 (`flags-octet` in matching/proofs/Theorems.antt).
unfoldable pub transport_fields : Family → ℕ → List ℕ → Transport
transport_fields family protocol t =
    record {
      source_port = then_some (has_ports protocol (length t)) (number_at 2 t 0);
      destination_port = then_some (has_ports protocol (length t)) (number_at 2 t 2);
      icmp_type = then_some (has_icmp family protocol (length t)) (get_or t 0 0);
      icmp_code = then_some (has_icmp family protocol (length t)) (get_or t 1 0);
      flags = then_some (has_flags protocol (length t)) (bit_and (number_at 2 t 12) 0x0fff);
    }
