-- What a reader expects of matching, beside the tables of operators: each list has its fields; a later fragment meets no rule that asks for a
-- transport header; a packet in which no upper layer is found meets no rule that asks for one; a list of one range is that range; a list's
-- first AND is no matter; and what a one-octet value of TCP flags is judged on. Assumes nothing.
use mathlib.Core.Path.{◌≡◌, refl, ap, ◌∙◌}
use mathlib.Core.Bool.{Bool, true, false, ◌&&◌, ◌||◌, and-false}
use mathlib.Core.List.{List, [], ◌∷◌}
use Prim.Native.Nat.{ℕ, ◌+◌, ◌*◌, ◌%◌, ◌^◌, ◌<◌, ◌≤◌}
use native.Mathlib.Omega.{arith}
use lib.Bits.{bit_and, and_mask, and_block, and_zero_r}
use lib.Dec.{leb, ltb, eqb}
use lib.ListN.{length, get_or}
use borrow.Author.Tests.{eqb-true, eqb-false, leb-true, lt-leb}
use Rattle.std.proofs.Common.{Some, None}
use Rattle.std.specs.Result.{is_ok}
use Rattle.octets.specs.Test.{every, one_holds, Each}
use Rattle.octets.specs.Number.{number_at}
use Rattle.octets.proofs.Cases.{by-test, apart, both}
use Rattle.octets.proofs.Facts.{Octets, below}
use Rattle.rule.specs.declared.Family.{Family}
use Rattle.rule.specs.declared.Shape.{Shape}
use Rattle.rule.specs.Family.{ipv4, ipv6}
use Rattle.rule.specs.Shape.{shape_of}
use Rattle.rule.specs.Component.{Pair}
use Rattle.rule.specs.Value.{Component, components}
use Rattle.spelling.specs.Plain.{plain_operand}
use Rattle.spelling.proofs.PlainLaws.{operand_small}
use Rattle.rule.proofs.ComponentsLaws.{each-found}
use Rattle.packet.specs.declared.Packet.{Packet}
use Rattle.packet.specs.Header.{fragment_field, fragment_offset}
use Rattle.packet.specs.Header6.{counted}
use Rattle.packet.specs.Packet.{fields_of, packet_of}
use Rattle.packet.specs.Transport.{hidden}
use Rattle.packet.proofs.Theorems.{usable-fields, later-hidden}
use Rattle.packet.proofs.Theorems6.{lost-hidden, later-six-hidden}
use Rattle.extension.specs.Extension.{offset_of_fragment, reached, upper_layer}
use Rattle.matching.specs.Operator.{bitmask_holds}
use Rattle.matching.specs.PairList.{joins, list_holds}
use Rattle.matching.specs.Match.{holds_for, pair_holds, field_matches, no_field, fields_for, component_matches, matches}
use Rattle.matching.proofs.OperatorLaws.{numeric-row}
use Rattle.matching.proofs.PairListLaws.{from_first}
use Rattle.std.proofs.Common.{Some}

-- in a family of the types 1 to 13 no component of a value comes to `no_field`: each type above 2 has its fields
pub has-field : (family : Family) (value : List ℕ) (packet : Packet) → family.highest ≤ 13
    → Each (λ component. 2 < component.kind → fields_for component.kind packet ≡ no_field → ⊥) (components family value)
unfolding fields_for
has-field family value packet types =
    each-found family value (λ component. 2 < component.kind → fields_for component.kind packet ≡ no_field → ⊥)
    (λ at previous kind next found list none.
    let had = found.had in
    let row = below 14 (λ n. leb n 2 || ltb 0 (length (fields_for n packet))) refl kind (omega arith) in
    apart (cc (rw (lt-leb kind 2 list, none) at row)))

-- whether a component asks for the transport header: port, destination port, source port, ICMP type and code, TCP flags
abbrev pub asks_transport : Component → Bool
asks_transport component = leb 4 component.kind && leb component.kind 9

-- whether it asks for the upper layer: for that, or for its protocol
abbrev pub asks_upper : Component → Bool
asks_upper component = eqb component.kind 3 || asks_transport component

-- a rule one of whose components passes a test that no matching component passes is not matched
one-fails : (family : Family) (packet : Packet) (asks : Component → Bool)
    → ((component : Component) → asks component ≡ true → component_matches family packet component ≡ false)
    → (components : List Component) → one_holds asks components ≡ true → every (component_matches family packet) components ≡ false
unfolding every one_holds
one-fails family packet asks never [] h = apart (cc)
one-fails family packet asks never (c ∷ cs) h =
    by-test (asks c) (λ t. rw (never c t))
    (λ t. rw (one-fails family packet asks never cs (rw t at h), and-false (component_matches family packet c)))

-- a component that asks for a hidden transport header never matches
module _ (family : Family) (packet : Packet) (shows : packet.transport ≡ hidden) where
  pub never-matches : (component : Component) → asks_transport component ≡ true → component_matches family packet component ≡ false
  unfolding component_matches shape_of fields_for field_matches one_holds
  never-matches component asks =
      let kind = component.kind in
      let bounds = both (leb 4 kind) (leb kind 9) asks in
      let low = leb-true 4 kind bounds.0 in
      let high = leb-true kind 9 bounds.1 in
      by-test (eqb kind 4) (λ t. rw (eqb-true kind 4 t, shows))
      (λ t4. by-test (eqb kind 5) (λ t. rw (eqb-true kind 5 t, shows))
      (λ t5. by-test (eqb kind 6) (λ t. rw (eqb-true kind 6 t, shows))
      (λ t6. by-test (eqb kind 7) (λ t. rw (eqb-true kind 7 t, shows))
      (λ t7. by-test (eqb kind 8) (λ t. rw (eqb-true kind 8 t, shows))
      (λ t8.
      let n4 = eqb-false kind 4 t4 in
      let n5 = eqb-false kind 5 t5 in
      let n6 = eqb-false kind 6 t6 in
      let n7 = eqb-false kind 7 t7 in
      let n8 = eqb-false kind 8 t8 in
      let nine : kind ≡ 9 = omega arith in
      rw (nine, shows))))))

  pub never_met : (value : List ℕ) → one_holds asks_transport (components family value) ≡ true → matches family value packet ≡ false
  unfolding matches
  never_met value = one-fails family packet asks_transport never-matches (components family value)

  -- the same of the protocol or upper layer and the transport header, where both are hidden
  module _ (none : packet.protocol ≡ None) where
    no-upper-matches : (component : Component) → asks_upper component ≡ true → component_matches family packet component ≡ false
    unfolding component_matches shape_of fields_for field_matches one_holds
    no-upper-matches component asks =
        by-test (eqb component.kind 3) (λ t. rw (eqb-true component.kind 3 t, none))
        (λ t. never-matches component (rw t at asks))

    pub no-upper : (value : List ℕ) → one_holds asks_upper (components family value) ≡ true → matches family value packet ≡ false
    unfolding matches
    no-upper value = one-fails family packet asks_upper no-upper-matches (components family value)

-- a later fragment meets no rule with a port, ICMP or flags component, whatever its operators
pub later-fragment : (value s : List ℕ) (packet : Packet) → packet_of ipv4 s ≡ Some packet → (fragment_offset (fragment_field s) ≡ 0 → ⊥)
    → one_holds asks_transport (components ipv4 value) ≡ true → matches ipv4 value packet ≡ false
unfolding fields_of
later-fragment value s packet seen later asks =
    never_met ipv4 packet (ap (λ (p : Packet). p.transport) (usable-fields ipv4 s packet seen) ∙ later-hidden ipv4 s later) value asks

-- the same of IPv6
pub later-fragment-six : (value s : List ℕ) (packet : Packet) → packet_of ipv6 s ≡ Some packet
    → (offset_of_fragment (reached (upper_layer (counted s))).field ≡ 0 → ⊥)
    → one_holds asks_transport (components ipv6 value) ≡ true → matches ipv6 value packet ≡ false
unfolding fields_of
later-fragment-six value s packet seen later asks =
    never_met ipv6 packet (ap (λ (p : Packet). p.transport) (usable-fields ipv6 s packet seen) ∙ later-six-hidden ipv6 s later) value asks

-- a packet in which the walk finds no upper layer meets no rule with a component of the types 3 to 9, whatever its operators
pub lost-walk : (value s : List ℕ) (packet : Packet) → packet_of ipv6 s ≡ Some packet → is_ok (upper_layer (counted s)) ≡ false
    → one_holds asks_upper (components ipv6 value) ≡ true → matches ipv6 value packet ≡ false
unfolding fields_of
lost-walk value s packet seen lost asks =
    let same = usable-fields ipv6 s packet seen in
    let none = lost-hidden ipv6 s lost in
    no-upper ipv6 packet (ap (λ (p : Packet). p.transport) same ∙ none.1) (ap (λ (p : Packet). p.protocol) same ∙ none.0) value asks

-- section 4.2.1.1: the AND bit of the first operator is treated as unset, so pairs that test alike begin a list alike
pub first-and : (test : Pair → Bool) (p q : Pair) (ps : List Pair) → test p ≡ test q → list_holds test (p ∷ ps) ≡ list_holds test (q ∷ ps)
first-and test p q ps e = rw (from_first test p ps, from_first test q ps, e)

-- a numeric list of one range, at least a and at most b, is that range; of a DSCP value the bits to be ignored are no matter
pub one-range : (shape : Shape) («data» : ℕ) (p q : Pair) → shape.bitmask ≡ false → p.operator < 256 → q.operator < 256
    → bit_and p.operator 7 ≡ 3 → bit_and q.operator 7 ≡ 5 → joins q ≡ true
    → list_holds (pair_holds shape «data») (p ∷ q ∷ [])
    ≡ leb (plain_operand shape.ignored p.value) «data» && leb «data» (plain_operand shape.ignored q.value)
unfolding holds_for
one-range shape «data» p q numeric small₁ small₂ least most and =
    from_first (pair_holds shape «data») p (q ∷ [])
    ∙ rw (
      and,
      numeric,
      ← numeric-row p.operator «data» (plain_operand shape.ignored p.value) small₁ 3 refl least,
      ← numeric-row q.operator «data» (plain_operand shape.ignored q.value) small₂ 5 refl most,
    )

-- a bitmask operator sees of the data what AND leaves of it
mask-alone : (operator a b value : ℕ) → bit_and a value ≡ bit_and b value → bitmask_holds operator a value ≡ bitmask_holds operator b value
unfolding bitmask_holds
mask-alone operator a b value e = rw e

two-octets : (t : List ℕ) → number_at 2 t 12 ≡ get_or t 12 0 * 256 + get_or t 13 0
unfolding number_at
two-octets t = omega arith

-- of a number below 256, AND with one of two octets sees the low octet alone
low-octet : (high low value : ℕ) → low < 256 → value < 256 → bit_and (bit_and (high * 256 + low) 0x0fff) value ≡ bit_and low value
low-octet high low value h k =
    let e : bit_and (high * 256 + low) 0x0fff ≡ high % 16 * 2 ^ 8 + low = and_mask (high * 256 + low) 12 ∙ omega arith in
    let z : value ≡ 0 * 2 ^ 8 + value = omega arith in
    rw e (ap (bit_and (high % 16 * 2 ^ 8 + low)) z ∙ and_block 8 (high % 16) 0 low value h k ∙ rw (and_zero_r (high % 16)) (omega arith))

-- 01: "Flags data is transport octet 13 counted from 0": a bitmask pair whose value has one octet holds of the two-octet form where it
-- holds of that octet
pub flags-octet : (shape : Shape) (p : Pair) (t : List ℕ) → Octets t → shape.bitmask ≡ true → p.value < 256
    → pair_holds shape (bit_and (number_at 2 t 12) 0x0fff) p ≡ pair_holds shape (get_or t 13 0) p
unfolding holds_for
flags-octet shape p t octets mask one =
    let wanted = plain_operand shape.ignored p.value in
    rw mask
    (mask-alone p.operator _ _ wanted
    (rw (two-octets t) (low-octet (get_or t 12 0) (get_or t 13 0) wanted (octets 13) (operand_small shape.ignored p.value wanted refl one))))
