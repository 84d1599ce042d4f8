-- **01's marked examples, and the notes of rates**: the definitions give every question of either list the numbers it expects. Assumes
-- nothing.
use mathlib.Core.Path.{◌≡◌, refl}
use mathlib.Core.List.{[], ◌∷◌, map}
use Rattle.std.proofs.Common.{Ok}
use Rattle.octets.specs.Test.{every, one_holds, same_list}
use Rattle.octets.specs.Number.{number_at}
use Rattle.octets.specs.Walk.{walk}
use Rattle.prefix.specs.Prefix.{bits, covers_address, contains, prefix_order, pattern_in}
use Rattle.rule.specs.Operator.{ends_list, size_of}
use Rattle.rule.specs.Shape.{shape_of}
use Rattle.rule.specs.Component.{pair_at, pairs_from, lead_of, offset_at, prefix_end, body_end, component_at}
use Rattle.rule.specs.Value.{components_from, components, check_value}
use Rattle.spelling.specs.Plain.{expected_at_start, body_of, pattern_after, operand_after, after, without_reserved, plain_operator, plain_operand, plain_pattern, cleared_octet, plain_from, plain}
use Rattle.rule.specs.Family.{ipv4}
use Rattle.rule.specs.Reading.{field_size, field_length, first_rule, one_rule, span}
use Rattle.spelling.specs.Writing.{length_field}
use Rattle.order.specs.Precedence.{body_order, component_order, components_order, plain_order, precedence}
use Rattle.rate.specs.Rate.{scaled, value_rate, rate_of_parts, rate_of}
use Rattle.packet.specs.Header.{ipv4_unusable}
use Rattle.packet.specs.Transport.{transport_octets, transport_fields}
use Rattle.packet.specs.Packet.{fragment_data, ipv4_fields, is_unusable, fields_of, packet_of}
use Rattle.matching.specs.Operator.{numeric_holds}
use Rattle.matching.specs.PairList.{groups_from, groups, list_holds}
use Rattle.matching.specs.Match.{holds_for, body_holds, field_matches, fields_for, body_covers, component_matches, matches}
use Rattle.theorems.specs.Examples.{Example, answer_to, examples, notes}

pub marked : map (λ (e : Example). answer_to e.asks) examples ≡ map (λ (e : Example). e.expects) examples
unfolding
    answer_to number_at walk bits same_list covers_address contains prefix_order pattern_in ends_list size_of shape_of lead_of offset_at pair_at pairs_from prefix_end body_end component_at
    components_from components check_value expected_at_start body_of pattern_after operand_after after without_reserved plain_operator plain_operand plain_pattern cleared_octet plain_from plain field_size field_length length_field
    body_order component_order components_order plain_order precedence scaled value_rate rate_of_parts rate_of is_unusable ipv4_unusable fragment_data ipv4_fields transport_octets transport_fields fields_of packet_of
    numeric_holds every one_holds groups_from groups list_holds holds_for body_holds field_matches fields_for body_covers component_matches matches
marked = refl

-- **what was done to a rate**
pub noted : map (λ (e : Example). answer_to e.asks) notes ≡ map (λ (e : Example). e.expects) notes
unfolding answer_to scaled value_rate rate_of_parts rate_of
noted = refl

-- **A rule that is accepted**: the announcement of 01's program, a rule of eleven octets behind a length field of one.
pub accepted : one_rule ipv4 (0x0b ∷ 0x01 ∷ 0x18 ∷ 0xc0 ∷ 0x00 ∷ 0x02 ∷ 0x03 ∷ 0x81 ∷ 0x06 ∷ 0x04 ∷ 0x81 ∷ 0x19 ∷ []) ≡ Ok (span 1 11)
unfolding
    one_rule first_rule field_size field_length check_value components_from component_at body_end prefix_end pairs_from pair_at ends_list size_of shape_of lead_of offset_at walk
accepted = refl
