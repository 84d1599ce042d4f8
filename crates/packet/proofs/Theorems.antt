-- What a reader expects of a packet's fields: 12 is answered exactly where octets are unusable, a usable packet shows the fields of its octets,
-- a later fragment shows no transport header, nor does a packet that ends with its header, and in any other one the transport octets are
-- those behind the options. Assumes nothing.
use mathlib.Core.Path.{◌≡◌, refl, sym, ◌∙◌}
use mathlib.Core.Bool.{true, and-false}
use mathlib.Core.List.{List, [], ◌++◌}
use mathlib.Core.Logic.{◌↔◌}
use Prim.Native.Nat.{ℕ, ◌+◌, ◌-◌, ◌*◌, ◌≤◌, min}
use native.Mathlib.Omega.{arith}
use native.Mathlib.Decide.{dec_lt}
use lib.ListN.{length, take, drop, length-append, get_or-append}
use lib.Seq.{take_all, take-length, drop-append_seam}
use Rattle.std.proofs.Common.{Some, None}
use Rattle.octets.proofs.Cases.{by-test, apart}
use Rattle.octets.proofs.NumberLaws.{number-before}
use borrow.Author.Tests.{eq-eqb}
use Rattle.rule.specs.declared.Family.{Family}
use Rattle.rule.specs.Family.{ipv6}
use Rattle.packet.specs.declared.Packet.{Packet}
use Rattle.packet.specs.Header.{header_words, total_length, fragment_field, fragment_offset, ipv4_unusable, protocol}
use Rattle.packet.specs.Header6.{ipv6_unusable}
use Rattle.packet.specs.Transport.{transport_found, transport_octets, transport_fields, hidden}
use Rattle.packet.specs.Packet.{ipv4_fields, ipv6_fields, reading_of, is_unusable, fields_of, packet_of}
use Rattle.packet.proofs.TransportLaws.{later-not-found, empty}

-- no octets show nothing, whatever the protocol
pub no-octets : (family : Family) (protocol : ℕ) → transport_fields family protocol [] ≡ hidden
unfolding transport_fields
no-octets family protocol = simp and-false

-- a usable packet shows the fields of its octets
pub usable-fields : (family : Family) (s : List ℕ) (packet : Packet) → packet_of family s ≡ Some packet → packet ≡ fields_of family s
unfolding packet_of
usable-fields family s packet e =
    by-test (is_unusable family s)
    (λ t. let z : None ≡ Some packet = rw t at e in apart (cc))
    (λ t. let z : Some (fields_of family s) ≡ Some packet = rw t at e in cc)

-- octets are refused as a packet exactly where they are unusable
pub unusable-exactly : (family : Family) (s : List ℕ) → (packet_of family s ≡ None) ↔ (is_unusable family s ≡ true)
unfolding packet_of
unusable-exactly family s =
    by-test (is_unusable family s) (λ t. (λ e. t, λ u. rw t)) (λ t. (λ e. let z : Some (fields_of family s) ≡ None = rw t at e in apart (cc), λ u. apart (cc)))

-- packets of IPv4 are read by the header of RFC 791, and those of IPv6 by that of RFC 8200
pub four-read : (family : Family) (s : List ℕ) → family.version ≡ 4 → packet_of family s ≡ reading_of (ipv4_unusable family s) (ipv4_fields family s)
unfolding packet_of is_unusable fields_of
four-read family s four = rw (eq-eqb family.version 4 four)

pub six-read : (s : List ℕ) → packet_of ipv6 s ≡ reading_of (ipv6_unusable ipv6 s) (ipv6_fields ipv6 s)
unfolding packet_of is_unusable fields_of
six-read s = refl

-- a later fragment shows no transport header
pub later-hidden : (family : Family) (s : List ℕ) → (fragment_offset (fragment_field s) ≡ 0 → ⊥) → (ipv4_fields family s).transport ≡ hidden
unfolding ipv4_fields transport_octets
later-hidden family s later = rw (later-not-found (fragment_offset (fragment_field s)) later) (no-octets family (protocol s))

-- up to the smaller of both ends is up to the total length, since no octet stands behind the last
as-far : (rest : List ℕ) (n total : ℕ) → take (min (n + length rest) total - n) rest ≡ take (total - n) rest
as-far rest n total =
    elim (dec_lt (n + length rest) total) [
      | yes l ↦ let e : min (n + length rest) total - n ≡ length rest = omega arith in rw e (take-length rest ∙ sym (take_all (total - n) rest (omega arith)))
      | no g ↦ let e : min (n + length rest) total - n ≡ total - n = omega arith in rw e
    ]

-- in what is no later fragment the transport octets are those behind the header and its options, up to the total length, whatever octets
-- the options have
pub behind-header : (h rest : List ℕ) → 20 ≤ length h → length h ≡ 4 * header_words h → fragment_offset (fragment_field h) ≡ 0
    → transport_octets (h ++ rest) ≡ take (total_length h - length h) rest
unfolding transport_octets
behind-header h rest enough whole found =
    rw (
      get_or-append h rest 0 0 (omega arith),
      number-before 2 h rest 2 (omega arith),
      number-before 2 h rest 6 (omega arith),
      found,
      ← whole,
      length-append h rest,
      drop-append_seam h rest,
    )
    (as-far rest (length h) (total_length h))

-- a packet whose lent octets or whose total length end with the header, or inside it, shows no transport header
pub ended-hidden : (family : Family) (s : List ℕ) → min (length s) (total_length s) ≤ 4 * header_words s → (ipv4_fields family s).transport ≡ hidden
unfolding ipv4_fields transport_octets
ended-hidden family s ends =
    let none : take (min (length s) (total_length s) - 4 * header_words s) (drop (4 * header_words s) s) ≡ [] = empty s (4 * header_words s) (min (length s) (total_length s)) ends in
    rw none (by-test (transport_found (fragment_offset (fragment_field s))) (λ t. rw t (no-octets family (protocol s))) (λ t. rw t (no-octets family (protocol s))))
