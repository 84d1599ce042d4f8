-- What request 2026-02, on IP options, changed of what a packet shows, and what it left as it was: 01's sentence before it, as its definition
-- then had it, beside the definition now. All but that sentence is named by the definitions of today, which the request left. Assumes
-- nothing.
use mathlib.Core.Path.{◌≡◌, refl, ap}
use mathlib.Core.Bool.{cond, ◌&&◌, and-false}
use mathlib.Core.List.{List, []}
use mathlib.Core.Logic.{◌↔◌}
use Prim.Native.Nat.{ℕ, ◌*◌, min}
use lib.Dec.{eqb}
use lib.ListN.{length}
use borrow.Author.Tests.{ne_eqb}
use Rattle.std.proofs.Common.{Option, Some, None}
use Rattle.octets.proofs.Cases.{by-test, apart}
use Rattle.rule.specs.declared.Family.{Family}
use Rattle.rule.specs.Value.{between}
use Rattle.packet.specs.declared.Transport.{Transport}
use Rattle.packet.specs.declared.Packet.{Packet}
use Rattle.packet.specs.Header.{header_words, total_length, fragment_field, dont_fragment, fragment_offset, more_fragments, ipv4_unusable, destination, source, protocol, dscp}
use Rattle.packet.specs.Transport.{transport_octets, transport_fields, hidden}
use Rattle.packet.specs.Packet.{fragment_data, one_word, ipv4_fields, packet_of}
use Rattle.packet.proofs.Theorems.{four-read, no-octets}

-- 01 before 2026-02: transport octets "are found only if header length is 5 words and fragment offset 0"
abbrev octets_before : List ℕ → List ℕ
octets_before s =
    cond (eqb (header_words s) 5 && eqb (fragment_offset (fragment_field s)) 0) (between s (4 * header_words s) (min (length s) (total_length s))) []

-- the fields that a usable packet showed
abbrev pub fields_before : Family → List ℕ → Packet
fields_before family s =
    record {
      destination = one_word (destination s);
      source = one_word (source s);
      protocol = Some (protocol s);
      length = total_length s;
      dscp = dscp s;
      fragment = fragment_data (dont_fragment (fragment_field s)) (eqb (fragment_offset (fragment_field s)) 0) (more_fragments (fragment_field s));
      transport = transport_fields family (protocol s) (octets_before s);
      label = None;
    }

-- what octets showed as a packet
abbrev pub packet_before : Family → List ℕ → Option Packet
packet_before family s = cond (ipv4_unusable family s) None (Some (fields_before family s))

-- a packet with another transport header
abbrev pub with_transport : Packet → Transport → Packet
with_transport packet transport =
    record {
      destination = packet.destination;
      source = packet.source;
      protocol = packet.protocol;
      length = packet.length;
      dscp = packet.dscp;
      fragment = packet.fragment;
      transport = transport;
      label = packet.label;
    }

module _ (family : Family) (four : family.version ≡ 4) (s : List ℕ) where
  -- octets are unusable as a packet where they were
  pub as-unusable : (packet_before family s ≡ None) ↔ (packet_of family s ≡ None)
  as-unusable =
      rw (four-read family s four)
      (by-test (ipv4_unusable family s)
      (λ t. (λ e. rw t, λ e. rw t))
      (λ t. (
        λ e. let z : Some (fields_before family s) ≡ None = rw t at e in apart (cc),
        λ e. let z : Some (ipv4_fields family s) ≡ None = rw t at e in apart (cc),
      )))

  -- every field but those of the transport header is as it was
  pub other-fields : (transport : Transport) → with_transport (fields_before family s) transport ≡ with_transport (ipv4_fields family s) transport
  unfolding ipv4_fields
  other-fields transport = refl

  -- where the transport octets are as they were, so is all that is shown
  same-octets : octets_before s ≡ transport_octets s → packet_before family s ≡ packet_of family s
  unfolding ipv4_fields
  same-octets e =
      rw (four-read family s four)
      (ap
      (λ (t : List ℕ). cond (ipv4_unusable family s) None (Some (with_transport (fields_before family s) (transport_fields family (protocol s) t))))
      e)

  -- a packet with a header of five words shows what it showed
  pub five-words : header_words s ≡ 5 → packet_before family s ≡ packet_of family s
  unfolding transport_octets
  five-words h = same-octets (rw h)

  -- a later fragment shows what it showed, with options too
  pub later_same : (fragment_offset (fragment_field s) ≡ 0 → ⊥) → packet_before family s ≡ packet_of family s
  unfolding transport_octets
  later_same later = same-octets (simp (ne_eqb (fragment_offset (fragment_field s)) 0 later, and-false))

  -- a packet with options showed no transport header
  pub hid-all : (header_words s ≡ 5 → ⊥) → (fields_before family s).transport ≡ hidden
  hid-all options = rw (ne_eqb (header_words s) 5 options) (no-octets family (protocol s))
