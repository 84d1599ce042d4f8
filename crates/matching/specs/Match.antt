-- Whether a packet matches a rule (RFC 8955 section 4.2): when it matches each of the rule's components. A prefix is matched
-- by an address that it covers, a list of pairs by a field of the packet; a field that the packet hides matches no list.
use Rattle.std.specs.Prelude.{ℕ, Bool, false, cond, List, [], ◌∷◌, eqb, Option, Some, None}
use Rattle.octets.specs.Test.{every, one_holds}
use Rattle.prefix.specs.declared.Address.{Address}
use Rattle.prefix.specs.Prefix.{address_of, covers_address, pattern_in}
use Rattle.rule.specs.declared.Family.{Family}
use Rattle.rule.specs.declared.Shape.{Shape}
use Rattle.rule.specs.Shape.{shape_of}
use Rattle.rule.specs.Component.{Pair, pairs_from}
use Rattle.rule.specs.Value.{Component, components}
use Rattle.spelling.specs.Plain.{plain_operand}
use Rattle.packet.specs.declared.Packet.{Packet}
use Rattle.matching.specs.Operator.{numeric_holds, bitmask_holds}
use Rattle.matching.specs.PairList.{list_holds}

-- Whether an operator and a value of a list hold of the data. Sections 4.2.2.11 and 4.2.2.12: the bits of a DSCP or fragment value that
-- are to be ignored, those that the plain spelling clears, count as 0.
unfoldable pub holds_for : Shape → ℕ → ℕ → ℕ → Bool
holds_for shape operator value «data» =
    let wanted = plain_operand shape.ignored value in
    cond shape.bitmask (bitmask_holds operator «data» wanted) (numeric_holds operator «data» wanted)

-- The same of a pair.
abbrev pub pair_holds : Shape → ℕ → Pair → Bool
pair_holds shape «data» pair = holds_for shape pair.operator pair.value «data»

-- Whether the list that a body of the given shape is holds of the data.
unfoldable pub body_holds : Shape → List ℕ → ℕ → Bool
body_holds shape body «data» = list_holds (pair_holds shape «data») (pairs_from shape.largest body 0).items

-- Whether the list holds of a field. 01: "Otherwise that component never matches, whatever its operators": so of a hidden one.
unfoldable pub field_matches : Shape → List ℕ → Option ℕ → Bool
field_matches shape body (Some «data») = body_holds shape body «data»
field_matches shape body None = false

-- What a type that has no row here is judged on: no field, so that it matches no packet. No component of a rule comes to it (`has-field` in
-- proofs/Theorems.antt).
abbrev pub no_field : List (Option ℕ)
no_field = []

-- The fields that a list of the given type is judged on, in the order of sections 4.2.2.3 to 4.2.2.12, and RFC 8956 section 3.7 for the flow
-- label; one of them must match. 01: "For type 4 the whole list is judged on one port, then on the other."
unfoldable pub fields_for : ℕ → Packet → List (Option ℕ)
fields_for kind packet =
    cond (eqb kind 3) (packet.protocol ∷ [])
    (cond (eqb kind 4) (packet.transport.source_port ∷ packet.transport.destination_port ∷ [])
    (cond (eqb kind 5) (packet.transport.destination_port ∷ [])
    (cond (eqb kind 6) (packet.transport.source_port ∷ [])
    (cond (eqb kind 7) (packet.transport.icmp_type ∷ [])
    (cond (eqb kind 8) (packet.transport.icmp_code ∷ [])
    (cond (eqb kind 9) (packet.transport.flags ∷ [])
    (cond (eqb kind 10) (Some packet.length ∷ [])
    (cond (eqb kind 11) (Some packet.dscp ∷ [])
    (cond (eqb kind 12) (Some packet.fragment ∷ [])
    (cond (eqb kind 13) (packet.label ∷ []) no_field))))))))))

-- Whether the prefix that a body spells covers an address.
unfoldable pub body_covers : Family → List ℕ → ℕ → Bool
body_covers family body address = covers_address family.width (pattern_in family.width family.offsets body) address

-- The address that a prefix of the given type is matched by: sections 4.2.2.1 (type 1, the destination) and 4.2.2.2 (type 2, the source).
abbrev pub address_for : ℕ → Packet → Address
address_for kind packet = cond (eqb kind 1) packet.destination packet.source

-- Whether a packet matches a component: a prefix by an address, a list by a field.
unfoldable pub component_matches : Family → Packet → Component → Bool
component_matches family packet component =
    let shape = shape_of family component.kind in
    cond shape.prefix (body_covers family component.body (address_of (address_for component.kind packet)))
    (one_holds (field_matches shape component.body) (fields_for component.kind packet))

-- Section 4.2: a packet matches a rule where it matches all components of the rule's value.
unfoldable pub matches : Family → List ℕ → Packet → Bool
matches family value packet = every (component_matches family packet) (components family value)
