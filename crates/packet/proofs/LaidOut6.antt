-- **A packet shows the fields that RFC 8200 lays out.** The IPv6 header is written here field behind field, as section 3 draws it, with what
-- follows behind it; what the definitions read from it is what was written, for all values. How headers behind it are walked over is in
-- extension/proofs/LaidOut.antt. Assumes nothing.
use mathlib.Core.Path.{◌≡◌, refl, sym, ◌∙◌}
use mathlib.Core.Bool.{Bool, true, false, not, cond, ◌&&◌}
use mathlib.Core.List.{List, [], ◌∷◌, ◌++◌, append_assoc}
use Prim.Native.Nat.{ℕ, ◌+◌, ◌*◌, ◌/◌, ◌^◌, ◌<◌}
use native.Mathlib.Omega.{arith}
use native.Mathlib.Nat.{add_assoc}
use lib.Bits.{and_mask}
use lib.Dec.{eqb}
use lib.ListN.{length, get_or, take, drop, length-append}
use lib.Seq.{take_all, take-append-add, drop-append_seam}
use borrow.Author.Tests.{le-ltb}
use Rattle.std.proofs.Common.{Some}
use Rattle.std.specs.Bool.{then_some}
use Rattle.octets.specs.Number.{number_at, octets_of}
use Rattle.octets.proofs.NumberLaws.{number-octets, number_behind, length-octets_of}
use Rattle.prefix.specs.declared.Address.{Address}
use Rattle.rule.specs.declared.Family.{Family}
use Rattle.extension.specs.Extension.{is_walked, offset_of_fragment, more_flag, ended, reached, upper_layer}
use Rattle.extension.proofs.ExtensionLaws.{reached-ended, found-ended}
use Rattle.extension.proofs.LaidOut.{Extension, AllWhole, first_of, size_of_all, laid_out as extension_octets, laid-append, laid-length, whole-packet}
use Rattle.packet.specs.Header.{version}
use Rattle.packet.specs.Header6.{traffic_class, flow_label, payload_length, source_address, destination_address, ipv6_unusable, counted, upper_octets}
use Rattle.packet.specs.Transport.{transport_fields}
use Rattle.packet.specs.Packet.{fragment_data, ipv6_fields}
use Rattle.packet.proofs.HeaderLaws.{too-few-six}

-- the fields of a header, in their order; the traffic class is the DSCP and two bits behind it (`congestion`)
pub record Header : Type 0 where
  pub version : ℕ
  pub dscp : ℕ
  pub congestion : ℕ
  pub label : ℕ
  pub payload : ℕ
  pub next : ℕ
  pub hop_limit : ℕ
  pub source : Address
  pub destination : Address

-- an address of two words of 64 bits
pub record Words (a : Address) : Type 0 where
  pub high : a.high < 256 ^ 8
  pub low : a.low < 256 ^ 8

-- the fields have no more bits than RFC 8200 gives them
pub record Sized (h : Header) : Type 0 where
  pub version : h.version < 16
  pub dscp : h.dscp < 64
  pub congestion : h.congestion < 4
  pub label : h.label < 1048576
  pub payload : h.payload < 65536
  pub source : Words h.source
  pub destination : Words h.destination

-- version, traffic class and flow label, in 4 + 8 + 20 bits
abbrev front : Header → ℕ
front h = h.version * 0x10000000 + (h.dscp * 4 + h.congestion) * 0x100000 + h.label

-- the eight octets before the addresses
abbrev first : Header → List ℕ
first h = octets_of 4 (front h) ++ (octets_of 2 h.payload ++ (h.next ∷ h.hop_limit ∷ []))

-- the octets of an address, and those that follow
abbrev spelt : Address → List ℕ → List ℕ
spelt a rest = octets_of 8 a.high ++ (octets_of 8 a.low ++ rest)

-- the octets of a header, and those that follow
abbrev pub laid_out : Header → List ℕ → List ℕ
laid_out h rest = first h ++ spelt h.source (spelt h.destination rest)

-- a packet of TCP with 20 octets, from 2001:db8::1 to 2001:db8::2, with a flow label of more than 16 bits
abbrev example : Header
example =
    record {
      version = 6;
      dscp = 46;
      congestion = 1;
      label = 0xabcde;
      payload = 20;
      next = 6;
      hop_limit = 64;
      source = record { high = 0x20010db800000000; low = 1 };
      destination = record { high = 0x20010db800000000; low = 2 };
    }

-- its octets are these
pub example-octets : laid_out example []
    ≡ 0x6b ∷ 0x9a ∷ 0xbc ∷ 0xde ∷ 0 ∷ 20 ∷ 6 ∷ 64
    ∷ 0x20 ∷ 0x01 ∷ 0x0d ∷ 0xb8 ∷ 0 ∷ 0 ∷ 0 ∷ 0 ∷ 0 ∷ 0 ∷ 0 ∷ 0 ∷ 0 ∷ 0 ∷ 0 ∷ 1
    ∷ 0x20 ∷ 0x01 ∷ 0x0d ∷ 0xb8 ∷ 0 ∷ 0 ∷ 0 ∷ 0 ∷ 0 ∷ 0 ∷ 0 ∷ 0 ∷ 0 ∷ 0 ∷ 0 ∷ 2 ∷ []
unfolding octets_of
example-octets = refl

-- fewer octets than those of a header are unusable
pub too_short : (family : Family) (s : List ℕ) → length s < 40 → ipv6_unusable family s ≡ true
too_short family s short = sym (too-few-six family s short)

-- a number behind octets, counted from the first of these
past : (p t : List ℕ) (m at : ℕ) → length p ≡ m → number_at 8 (p ++ t) (m + at) ≡ number_at 8 t at
past p t m at e = rw (← e) (number_behind 8 p t at)

-- an address is read back, and what follows it stands 16 octets further on
module _ (a : Address) (rest : List ℕ) where
  behind-high : (at : ℕ) → number_at 8 (spelt a rest) (8 + at) ≡ number_at 8 (octets_of 8 a.low ++ rest) at
  behind-high at = past (octets_of 8 a.high) (octets_of 8 a.low ++ rest) 8 at (length-octets_of 8 a.high)

  behind-both : (at : ℕ) → number_at 8 (spelt a rest) (16 + at) ≡ number_at 8 rest at
  behind-both at = rw (add_assoc 8 8 at) (behind-high (8 + at)) ∙ past (octets_of 8 a.low) rest 8 at (length-octets_of 8 a.low)

  module _ (words : Words a) where
    high-back : number_at 8 (spelt a rest) 0 ≡ a.high
    high-back = number-octets [] 8 a.high (octets_of 8 a.low ++ rest) words.high

    low-back : number_at 8 (spelt a rest) 8 ≡ a.low
    low-back = behind-high 0 ∙ number-octets [] 8 a.low rest words.low

module _ (h : Header) (sized : Sized h) (rest : List ℕ) where
  version-back : version (laid_out h rest) ≡ h.version
  unfolding octets_of
  version-back = omega (arith, sized.version, sized.dscp, sized.congestion, sized.label)

  class_back : traffic_class (laid_out h rest) / 4 ≡ h.dscp
  unfolding number_at octets_of
  class_back =
      rw (and_mask (number_at 2 (laid_out h rest) 0 / 16) 8) (omega (arith, sized.version, sized.dscp, sized.congestion, sized.label))

  label-back : flow_label (laid_out h rest) ≡ h.label
  unfolding number_at octets_of
  label-back = rw (and_mask (number_at 4 (laid_out h rest) 0) 20) (omega (arith, sized.version, sized.dscp, sized.congestion, sized.label))

  payload-back : payload_length (laid_out h rest) ≡ h.payload
  unfolding number_at octets_of
  payload-back = omega (arith, sized.payload)

  next-back : get_or (laid_out h rest) 6 0 ≡ h.next
  unfolding octets_of
  next-back = refl

  eight : length (first h) ≡ 8
  unfolding octets_of
  eight = refl

  own-octets : (at : ℕ) → number_at 8 (laid_out h rest) (8 + at) ≡ number_at 8 (spelt h.source (spelt h.destination rest)) at
  own-octets at = past (first h) (spelt h.source (spelt h.destination rest)) 8 at eight

  source-back : source_address (laid_out h rest) ≡ h.source
  source-back =
      rw (own-octets 0, own-octets 8, high-back h.source (spelt h.destination rest) sized.source, low-back h.source (spelt h.destination rest) sized.source) refl

  destination-back : destination_address (laid_out h rest) ≡ h.destination
  destination-back =
      rw (
        own-octets 16,
        own-octets 24,
        behind-both h.source (spelt h.destination rest) 0,
        behind-both h.source (spelt h.destination rest) 8,
        high-back h.destination rest sized.destination,
        low-back h.destination rest sized.destination,
      )
      refl

  -- octets with a whole header are unusable by their version alone
  pub unusable-back : (family : Family) → ipv6_unusable family (laid_out h rest) ≡ not (eqb h.version family.version)
  unfolding ipv6_unusable octets_of
  unusable-back family = rw (le-ltb (length (laid_out h rest)) 40 (omega arith), version-back)

  -- a packet shows the fields of its header as they were laid out; its length is that of its payload and 40 more
  pub fields_back : (family : Family)
      → ((ipv6_fields family (laid_out h rest)).destination ≡ h.destination)
      × (((ipv6_fields family (laid_out h rest)).source ≡ h.source)
      × (((ipv6_fields family (laid_out h rest)).length ≡ h.payload + 40)
      × (((ipv6_fields family (laid_out h rest)).dscp ≡ h.dscp)
      × ((ipv6_fields family (laid_out h rest)).label ≡ Some h.label))))
  unfolding ipv6_fields
  fields_back family = (destination-back, (source-back, (rw payload-back, (class_back, rw label-back))))

-- ---- behind the header ----

-- a packet whose octets all count shows what its walk comes to
module _ (family : Family) (s : List ℕ) (all : length s ≡ payload_length s + 40) (kind at field : ℕ) (fragmented found : Bool)
    (walk : upper_layer s ≡ ended found (record { kind = kind; at = at; fragmented = fragmented; field = field })) where
  counts : upper_layer (counted s) ≡ ended found (record { kind = kind; at = at; fragmented = fragmented; field = field })
  counts = rw (take_all (payload_length s + 40) s (omega arith)) walk

  come : reached (ended found (record { kind = kind; at = at; fragmented = fragmented; field = field }))
      ≡ record { kind = kind; at = at; fragmented = fragmented; field = field }
  come = reached-ended found (record { kind = kind; at = at; fragmented = fragmented; field = field })

  pub protocol-shown : (ipv6_fields family s).protocol ≡ then_some found kind
  unfolding ipv6_fields
  protocol-shown = rw (counts, come, found-ended found _) refl

  pub fragment-shown : (ipv6_fields family s).fragment ≡ fragment_data false (eqb (offset_of_fragment field) 0) (more_flag field)
  unfolding ipv6_fields
  fragment-shown = rw (counts, come) refl

  pub transport-shown : (ipv6_fields family s).transport ≡ transport_fields family kind (cond (found && eqb (offset_of_fragment field) 0) (drop at s) [])
  unfolding ipv6_fields upper_octets
  transport-shown = rw (counts, come, found-ended found _, take_all (payload_length s + 40) s (omega arith)) refl

-- a header is 40 octets, whatever follows
own-append : (h : Header) (rest : List ℕ) → laid_out h rest ≡ laid_out h [] ++ rest
unfolding octets_of
own-append h rest = refl

own-length : (h : Header) → length (laid_out h []) ≡ 40
unfolding octets_of
own-length h = refl

-- **the octets that count** are the header and, of those that follow, as many as the payload length says: none where that is 0
pub counted_back : (h : Header) (sized : Sized h) (rest : List ℕ) → counted (laid_out h rest) ≡ laid_out h (take h.payload rest)
counted_back h sized rest =
    let at : h.payload + 40 ≡ length (laid_out h []) + h.payload = rw (own-length h) (omega arith) in
    rw (payload-back h sized rest, own-append h rest, at) (take-append-add (laid_out h []) rest h.payload) ∙ sym (own-append h (take h.payload rest))

-- **a packet with headers 0, 43 and 60 behind its own shows the upper layer behind them**: its number, no fragment, and what its octets show
module _ (family : Family) (h : Header) (sized : Sized h) (es : List Extension) (upper : ℕ) (rest : List ℕ) (whole : AllWhole es)
    (next : h.next ≡ first_of es upper) (long : h.payload ≡ size_of_all es + length rest) (walked : is_walked upper ≡ false) (other : upper ≡ 44 → ⊥) where
  abbrev pub chained : List ℕ
  chained = laid_out h (extension_octets es upper rest)

  all-count : length chained ≡ payload_length chained + 40
  all-count =
      let own : length chained ≡ length (laid_out h []) + length (extension_octets es upper rest) =
      rw (own-append h (extension_octets es upper rest)) (length-append (laid_out h []) (extension_octets es upper rest)) in
      let others : length (extension_octets es upper rest) ≡ length (extension_octets es upper []) + length rest =
      rw (laid-append es upper rest) (length-append (extension_octets es upper []) rest) in
      let payload = payload-back h sized (extension_octets es upper rest) in
      let forty = own-length h in
      let size = laid-length es upper whole in
      omega arith

  ends : upper_layer chained ≡ ended true (record { kind = upper; at = 40 + size_of_all es; fragmented = false; field = 0 })
  ends =
      rw (own-append h (extension_octets es upper rest))
      (whole-packet (laid_out h []) rest (own-length h) es upper whole (next-back h sized [] ∙ next) walked other)

  behind-all : drop (40 + size_of_all es) chained ≡ rest
  behind-all =
      let at : length (laid_out h [] ++ extension_octets es upper []) ≡ 40 + size_of_all es =
      length-append (laid_out h []) (extension_octets es upper []) ∙ rw (own-length h, laid-length es upper whole) refl in
      let cut : chained ≡ (laid_out h [] ++ extension_octets es upper []) ++ rest =
      own-append h (extension_octets es upper rest) ∙ rw (laid-append es upper rest) (sym (append_assoc (laid_out h []) (extension_octets es upper []) rest)) in
      rw (cut, ← at) (drop-append_seam (laid_out h [] ++ extension_octets es upper []) rest)

  pub chain-shown : ((ipv6_fields family chained).protocol ≡ Some upper)
      × (((ipv6_fields family chained).fragment ≡ 0) × ((ipv6_fields family chained).transport ≡ transport_fields family upper rest))
  unfolding fragment_data
  chain-shown = (
    protocol-shown family chained all-count upper (40 + size_of_all es) 0 false true ends,
    (
      fragment-shown family chained all-count upper (40 + size_of_all es) 0 false true ends,
      transport-shown family chained all-count upper (40 + size_of_all es) 0 false true ends ∙ rw behind-all refl,
    ),
  )
