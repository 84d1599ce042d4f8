-- **A packet shows the fields that RFC 791 lays out.** The header is written here field behind field, as section 3.1 draws it, with its
-- options and what follows behind it, and TCP's, UDP's and ICMP's as their RFCs do; what the definitions read from them is what was
-- written, for all values. Assumes nothing.
use mathlib.Core.Path.{◌≡◌, refl, sym, ap, ◌∙◌}
use mathlib.Core.Bool.{true, false, not, cond, ◌&&◌, ◌||◌, and-false, or-true}
use mathlib.Core.List.{List, [], ◌∷◌, ◌++◌}
use mathlib.Core.Logic.{◌⊎◌, ⊎_elim}
use Prim.Native.Nat.{ℕ, ◌+◌, ◌-◌, ◌*◌, ◌/◌, ◌%◌, ◌<◌}
use native.Mathlib.Omega.{arith}
use native.Mathlib.Nat.{zero-mul}
use native.Mathlib.Decide.{dec_lt}
use lib.Bits.{and_mask, and_high}
use lib.Dec.{ltb, eqb}
use lib.ListN.{length, take, length-append}
use borrow.Author.Tests.{le-ltb, le-leb, lt-leb, eq-eqb, ne_eqb, eqb-true}
use Rattle.std.proofs.Common.{Some, None}
use Rattle.octets.specs.Number.{number_at, octets_of}
use Rattle.octets.specs.Bit.{bit_if}
use Rattle.octets.proofs.Cases.{by-test}
use Rattle.octets.proofs.NumberLaws.{number-octets, length-octets_of}
use Rattle.rule.specs.declared.Family.{Family}
use Rattle.packet.specs.Header.{version, header_words, dscp, total_length, fragment_field, dont_fragment, more_fragments, fragment_offset, protocol, source, destination, ipv4_unusable}
use Rattle.packet.specs.Transport.{has_ports, has_icmp, has_flags, transport_octets, transport_fields}
use Rattle.packet.specs.Packet.{fragment_data, one_word, ipv4_fields}
use Rattle.packet.proofs.Examples.{header}
use Rattle.packet.proofs.HeaderLaws.{too_few}
use Rattle.packet.proofs.Theorems.{behind-header}

-- the fields of a header but its options, in their order; the type of service is the DSCP and two bits behind it (`congestion`)
pub record Header : Type 0 where
  pub version : ℕ
  pub words : ℕ
  pub dscp : ℕ
  pub congestion : ℕ
  pub total : ℕ
  pub identification : ℕ
  pub reserved : ℕ
  pub dont_fragment : ℕ
  pub more_fragments : ℕ
  pub offset : ℕ
  pub time_to_live : ℕ
  pub protocol : ℕ
  pub checksum : ℕ
  pub source : ℕ
  pub destination : ℕ

-- a field that stands below another one, or is read from several octets, has no more bits than RFC 791 gives it; of the others nothing is
-- asked
pub record Sized (h : Header) : Type 0 where
  pub words : h.words < 16
  pub congestion : h.congestion < 4
  pub total : h.total < 65536
  pub reserved : h.reserved < 2
  pub dont_fragment : h.dont_fragment < 2
  pub more_fragments : h.more_fragments < 2
  pub offset : h.offset < 8192
  pub source : h.source < 4294967296
  pub destination : h.destination < 4294967296

-- three flags, and the offset below them
abbrev flagged : Header → ℕ
flagged h = h.reserved * 0x8000 + h.dont_fragment * 0x4000 + h.more_fragments * 0x2000 + h.offset

-- the octets of a header, and those that follow
abbrev pub laid_out : Header → List ℕ → List ℕ
laid_out h rest =
    (h.version * 16 + h.words) ∷ (h.dscp * 4 + h.congestion) ∷ octets_of 2 h.total
    ++ (octets_of 2 h.identification ++ (octets_of 2 (flagged h)
    ++ (h.time_to_live ∷ h.protocol ∷ octets_of 2 h.checksum
    ++ (octets_of 4 h.source ++ (octets_of 4 h.destination ++ rest)))))

-- a first fragment of 60 octets with a word of options, from 192.0.2.1 to 198.51.100.7
abbrev example : Header
example =
    record {
      version = 4;
      words = 6;
      dscp = 46;
      congestion = 1;
      total = 60;
      identification = 0;
      reserved = 0;
      dont_fragment = 0;
      more_fragments = 1;
      offset = 0;
      time_to_live = 64;
      protocol = 17;
      checksum = 0;
      source = 0xc0000201;
      destination = 0xc6336407;
    }

-- it has the sizes asked for, and its octets are these
pub example-sized : Sized example
example-sized =
    record {
      words = omega arith;
      congestion = omega arith;
      total = omega arith;
      reserved = omega arith;
      dont_fragment = omega arith;
      more_fragments = omega arith;
      offset = omega arith;
      source = omega arith;
      destination = omega arith;
    }

pub example-octets : laid_out example [] ≡ header 0x46 0xb9 60 0x20 0 17
unfolding octets_of
example-octets = refl

-- fewer octets than those of a header are unusable
pub too_short : (family : Family) (s : List ℕ) → length s < 20 → ipv4_unusable family s ≡ true
too_short family s short = sym (too_few family s short)

-- a flag is set where its bit is 1
one_bit : (x bit mask : ℕ) → x ≡ bit → bit < 2 → 0 < mask → not (eqb (x * mask) 0) ≡ eqb bit 1
one_bit x bit mask e small some =
    elim (dec_lt bit 1) [
      | yes l ↦ let z : bit ≡ 0 = omega arith in rw (e, z, zero-mul mask)
      | no g ↦ let z : bit ≡ 1 = omega arith in rw (e, z, ne_eqb (1 * mask) 0 (λ n. absurd (omega arith)))
    ]

module _ (h : Header) (sized : Sized h) (rest : List ℕ) where
  version-back : version (laid_out h rest) ≡ h.version
  version-back = omega (arith, sized.words)

  words_back : header_words (laid_out h rest) ≡ h.words
  words_back = and_mask (h.version * 16 + h.words) 4 ∙ omega (arith, sized.words)

  dscp-back : dscp (laid_out h rest) ≡ h.dscp
  dscp-back = omega (arith, sized.congestion)

  total-back : total_length (laid_out h rest) ≡ h.total
  unfolding number_at octets_of
  total-back = omega (arith, sized.total)

  field_back : fragment_field (laid_out h rest) ≡ flagged h
  unfolding number_at octets_of
  field_back = omega (arith, sized.reserved, sized.dont_fragment, sized.more_fragments, sized.offset)

  offset-back : fragment_offset (fragment_field (laid_out h rest)) ≡ h.offset
  offset-back = rw field_back (and_mask (flagged h) 13 ∙ omega (arith, sized.offset))

  dont-back : dont_fragment (fragment_field (laid_out h rest)) ≡ eqb h.dont_fragment 1
  dont-back = rw (field_back, and_high (flagged h) 1 14) (one_bit (flagged h / 16384 % 2) h.dont_fragment 16384 (omega (arith, sized.dont_fragment, sized.more_fragments, sized.offset)) sized.dont_fragment (omega arith))

  more-back : more_fragments (fragment_field (laid_out h rest)) ≡ eqb h.more_fragments 1
  more-back = rw (field_back, and_high (flagged h) 1 13) (one_bit (flagged h / 8192 % 2) h.more_fragments 8192 (omega (arith, sized.more_fragments, sized.offset)) sized.more_fragments (omega arith))

  protocol-back : protocol (laid_out h rest) ≡ h.protocol
  unfolding octets_of
  protocol-back = refl

  source-back : source (laid_out h rest) ≡ h.source
  unfolding number_at octets_of
  source-back = omega (arith, sized.source)

  destination-back : destination (laid_out h rest) ≡ h.destination
  unfolding number_at octets_of
  destination-back = omega (arith, sized.destination)

  -- octets with a whole header are unusable by their version and their lengths alone
  pub unusable-back : (family : Family)
      → ipv4_unusable family (laid_out h rest) ≡ (not (eqb h.version family.version) || ltb h.words 5 || ltb h.total (4 * h.words))
  unfolding ipv4_unusable octets_of
  unusable-back family = rw (le-ltb (length (laid_out h rest)) 20 (omega arith), version-back, words_back, total-back)

  -- a packet shows the fields of its header as they were laid out
  pub fields_back : (family : Family) → ipv4_fields family (laid_out h rest)
      ≡ record {
        destination = one_word h.destination;
        source = one_word h.source;
        protocol = Some h.protocol;
        length = h.total;
        dscp = h.dscp;
        fragment =
            bit_if (eqb h.dont_fragment 1) 0x01 + bit_if (not (eqb h.offset 0)) 0x02 + bit_if (eqb h.offset 0 && eqb h.more_fragments 1) 0x04
            + bit_if (not (eqb h.offset 0) && not (eqb h.more_fragments 1)) 0x08;
        transport = transport_fields family h.protocol (transport_octets (laid_out h rest));
        label = None;
      }
  unfolding ipv4_fields fragment_data
  fields_back family =
      rw (destination-back, source-back, protocol-back, total-back, dscp-back, dont-back, more-back, offset-back)

  none-back : eqb h.offset 0 ≡ false → transport_octets (laid_out h rest) ≡ []
  unfolding transport_octets
  none-back later = rw (offset-back, later)

-- behind options that fill the header up, the transport octets are those that follow, up to the total length, in what is no later fragment
pub transport-back : (h : Header) → Sized h → (options rest : List ℕ) → 20 + length options ≡ 4 * h.words
    → transport_octets (laid_out h (options ++ rest)) ≡ cond (eqb h.offset 0) (take (h.total - 4 * h.words) rest) []
unfolding octets_of
transport-back h sized options rest whole =
    by-test (eqb h.offset 0)
    (λ t.
    let n : length (laid_out h options) ≡ 4 * h.words = omega arith in
    rw t
    (behind-header (laid_out h options) rest (omega arith) (n ∙ rw (words_back h sized options)) (offset-back h sized options ∙ eqb-true h.offset 0 t)
    ∙ rw (total-back h sized options, n)))
    (λ t. rw t (none-back h sized (options ++ rest) t))

-- the ports stand in front
module _ (from to : ℕ) (small : from < 65536) (also : to < 65536) (rest : List ℕ) where
  from_back : number_at 2 (octets_of 2 from ++ (octets_of 2 to ++ rest)) 0 ≡ from
  unfolding number_at octets_of
  from_back = omega (arith, small)

  to_back : number_at 2 (octets_of 2 from ++ (octets_of 2 to ++ rest)) 2 ≡ to
  unfolding number_at octets_of
  to_back = omega (arith, also)

-- TCP's header (RFC 793 section 3.1) and UDP's (RFC 768) begin with the ports: both are shown, however few octets follow
pub ports-back : (family : Family) (protocol from to : ℕ) (rest : List ℕ) → (protocol ≡ 6) ⊎ (protocol ≡ 17) → from < 65536 → to < 65536
    → ((transport_fields family protocol (octets_of 2 from ++ (octets_of 2 to ++ rest))).source_port ≡ Some from)
    × ((transport_fields family protocol (octets_of 2 from ++ (octets_of 2 to ++ rest))).destination_port ≡ Some to)
unfolding transport_fields octets_of
ports-back family protocol from to rest which small also =
    let t : List ℕ = octets_of 2 from ++ (octets_of 2 to ++ rest) in
    let four = le-leb 4 (length t) (omega arith) in
    let first = from_back from to small also rest in
    let second = to_back from to small also rest in
    let either : (eqb protocol 6 || eqb protocol 17) ≡ true = ⊎_elim (λ e. rw (eq-eqb protocol 6 e)) (λ e. simp (eq-eqb protocol 17 e, or-true)) which in
    (rw (either, four, first), rw (either, four, second))

-- TCP's control bits (RFC 793 section 3.1), six reserved bits among them, stand below the data offset, behind twelve octets
pub flags-back : (family : Family) (before rest : List ℕ) (offset flags : ℕ) → 12 ≡ length before → offset < 16 → flags < 4096
    → (transport_fields family 6 (before ++ octets_of 2 (offset * 4096 + flags) ++ rest)).flags ≡ Some flags
unfolding transport_fields
flags-back family before rest offset flags twelve few small =
    let t : List ℕ = before ++ octets_of 2 (offset * 4096 + flags) ++ rest in
    let long : length t ≡ 14 + length rest = simp (length-append, length-octets_of) (omega arith) in
    rw (
      le-leb 14 (length t) (omega arith),
      twelve,
      number-octets before 2 (offset * 4096 + flags) rest (omega arith),
      and_mask (offset * 4096 + flags) 12,
    )
    (ap Some (omega arith))

-- ICMP's header (RFC 792) begins with type and code
pub icmp-back : (family : Family) (kind code : ℕ) (rest : List ℕ)
    → ((transport_fields family family.icmp (kind ∷ code ∷ rest)).icmp_type ≡ Some kind)
    × ((transport_fields family family.icmp (kind ∷ code ∷ rest)).icmp_code ≡ Some code)
unfolding transport_fields
icmp-back family kind code rest =
    let two = le-leb 2 (length (kind ∷ code ∷ rest)) (omega arith) in
    let own = eq-eqb family.icmp family.icmp refl in
    (rw (own, two), rw (own, two))

-- too few octets hide a field, and so does another protocol
module _ (family : Family) (protocol : ℕ) (t : List ℕ) where
  pub ports-hidden : (length t < 4) ⊎ ((protocol ≡ 6 → ⊥) × (protocol ≡ 17 → ⊥))
      → ((transport_fields family protocol t).source_port ≡ None) × ((transport_fields family protocol t).destination_port ≡ None)
  unfolding transport_fields
  ports-hidden why =
      let no : has_ports protocol (length t) ≡ false =
      ⊎_elim (λ few. simp (lt-leb 4 (length t) few, and-false)) (λ others. rw (ne_eqb protocol 6 others.0, ne_eqb protocol 17 others.1)) why in
      (rw no, rw no)

  pub icmp-hidden : (length t < 2) ⊎ (protocol ≡ family.icmp → ⊥)
      → ((transport_fields family protocol t).icmp_type ≡ None) × ((transport_fields family protocol t).icmp_code ≡ None)
  unfolding transport_fields
  icmp-hidden why =
      let no : has_icmp family protocol (length t) ≡ false =
      ⊎_elim (λ few. simp (lt-leb 2 (length t) few, and-false)) (λ other. rw (ne_eqb protocol family.icmp other)) why in
      (rw no, rw no)

  pub flags-hidden : (length t < 14) ⊎ (protocol ≡ 6 → ⊥) → (transport_fields family protocol t).flags ≡ None
  unfolding transport_fields
  flags-hidden why =
      let no : has_flags protocol (length t) ≡ false =
      ⊎_elim (λ few. simp (lt-leb 14 (length t) few, and-false)) (λ other. rw (ne_eqb protocol 6 other)) why in
      rw no
