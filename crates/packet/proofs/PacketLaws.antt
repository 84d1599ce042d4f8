-- What octets show as a packet: one law for each return of the code. Assumes nothing.
use mathlib.Core.Path.{◌≡◌, sym, ◌∙◌}
use mathlib.Core.Bool.{Bool, false, not}
use mathlib.Core.List.{List}
use Prim.Native.Nat.{ℕ, ◌+◌, ◌-◌, ◌/◌, ◌≤◌, min}
use native.Mathlib.Omega.{arith}
use lib.Bits.{bit_and}
use lib.Dec.{ltb, eqb}
use lib.ListN.{length, take, drop, length-drop, length-take}
use lib.Seq.{take_all}
use borrow.Author.Tests.{eq-eqb, ne_eqb, ltb-false}
use Rattle.std.proofs.Common.{Option, Result, Ok}
use Rattle.std.proofs.lemmas.List.{take_min}
use Rattle.octets.proofs.Cases.{neither}
use Rattle.octets.specs.Number.{number_at}
use Rattle.rule.specs.declared.Family.{Family}
use Rattle.extension.specs.declared.Progress.{Progress}
use Rattle.extension.specs.Extension.{reached, upper_layer}
use Rattle.extension.proofs.ExtensionLaws.{upper-within}
use Rattle.packet.specs.declared.Packet.{Packet}
use Rattle.packet.specs.Header.{version, ipv4_unusable}
use Rattle.packet.specs.Header6.{traffic_class, flow_label, packet_length, address_at, ipv6_unusable, counted, upper_octets}
use Rattle.packet.specs.Packet.{ipv4_fields, ipv6_fields, reading_of, is_unusable, fields_of, packet_of}

-- the octets up to the smaller of both ends are those up to the packet's length
pub counted-octets : (s : List ℕ) (payload end : ℕ) → payload ≡ number_at 2 s 4 → end ≡ min (length s) (payload + 40) → take end s ≡ counted s
counted-octets s payload end is least =
    let e : end ≡ min (number_at 2 s 4 + 40) (length s) = omega arith in
    rw e (take_min (number_at 2 s 4 + 40) s)

-- 40 octets of a packet that is usable count, so that the walk ends in those that do
pub walk-within : (family : Family) (s e : List ℕ) (no-use : Bool) (upper : Result Progress Progress) → no-use ≡ ipv6_unusable family s → no-use ≡ false → e ≡ counted s → upper ≡ upper_layer e
    → (reached upper).at ≤ length e
unfolding ipv6_unusable
walk-within family s e no-use upper says h e' u' =
    let enough = ltb-false (length s) 40 (neither (ltb (length s) 40) (not (eqb (version s) family.version)) (sym says ∙ h)).0 in
    rw (u', e') (upper-within (counted s) (rw (length-take (packet_length s) s) (omega arith)))

-- how `traffic_class` and `flow_label` come to their answers
pub class-read : (s : List ℕ) (front : ℕ) → front ≡ number_at 2 s 0 → bit_and (front / 16) 0xff ≡ traffic_class s
class-read s front e = rw e

pub label-read : (s : List ℕ) (front : ℕ) → front ≡ number_at 4 s 0 → bit_and front 0xfffff ≡ flow_label s
label-read s front e = rw e

-- an address is its two words
pub two-words : (s : List ℕ) (at high low : ℕ) → high ≡ number_at 8 s at → low ≡ number_at 8 s (at + 8) → record { high = high; low = low } ≡ address_at s at
two-words s at high low h l = rw (h, l)

-- from the upper layer's first octet on
pub upper-there : (s : List ℕ) (upper : Result Progress Progress) (p : Progress) → upper ≡ Ok p → p.field / 8 ≡ 0
    → take (length s - p.at) (drop p.at s) ≡ upper_octets s upper
unfolding upper_octets
upper-there s upper p e first = rw (e, first) (take_all (length s - p.at) (drop p.at s) (rw (length-drop p.at s) (omega arith)))

-- how `packet_of` comes to each of its answers
module _ (family : Family) (s : List ℕ) (reading : Option Packet) where
  pub four-packet : family.version ≡ 4 → reading ≡ reading_of (ipv4_unusable family s) (ipv4_fields family s) → reading ≡ packet_of family s
  unfolding packet_of is_unusable fields_of
  four-packet h e = e ∙ rw (eq-eqb family.version 4 h)

  pub six-packet : (family.version ≡ 4 → ⊥) → reading ≡ reading_of (ipv6_unusable family s) (ipv6_fields family s) → reading ≡ packet_of family s
  unfolding packet_of is_unusable fields_of
  six-packet h e = e ∙ rw (ne_eqb family.version 4 h)
