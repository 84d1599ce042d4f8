-- What is shown of the worked histories holds of the scene of IPv4 (specs/Scene4.antt), by computation. Assumes nothing.
use mathlib.Core.Path.{refl}
use Rattle.octets.specs.Number.{number_at, octets_of}
use Rattle.octets.specs.Test.{every, one_holds, all_zero, same_list}
use Rattle.octets.specs.Walk.{walk}
use Rattle.prefix.specs.Prefix.{bits, contains, pattern_in, covers_address, prefix_order}
use Rattle.rule.specs.Component.{pair_at, pairs_from, prefix_end, body_end, component_at, lead_of, offset_at}
use Rattle.rule.specs.Operator.{ends_list, size_of}
use Rattle.spelling.specs.Plain.{body_of, operand_after, after, plain_operator, plain_operand, plain_pattern, cleared_octet, plain_from, plain, expected_at_start, pattern_after, without_reserved}
use Rattle.rule.specs.Reading.{field_size, field_length, first_rule, one_rule}
use Rattle.rule.specs.Value.{components_from, components, check_value}
use Rattle.rule.proofs.FamilyLaws.{ipv4-fits}
use Rattle.order.specs.Key.{body_key, key_of, keys_of}
use Rattle.route.specs.Destination.{destination_for, destination_among, destination_of}
use Rattle.route.specs.Feasible.{covered_by, more_specific, longer, matched, best_match, undisputed, originates, judged, feasible}
use Rattle.route.specs.Route.{route_at, routes_of, plain_prefix, rises, rising, sound_routes, number_in_words, routes_from}
use Rattle.action.specs.Actions.{communities_at, actions_of, flags_of, notes_of, of_type, smallest, first, rule_actions}
use Rattle.action.specs.Given.{first_of, allowed}
use Rattle.action.specs.Limit.{smaller_of, could_be_limit}
use Rattle.action.specs.Merging.{merged}
use Rattle.action.specs.Possible.{could_be}
use Rattle.packet.specs.Header.{ipv4_unusable}
use Rattle.matching.specs.Match.{holds_for, body_holds, field_matches, component_matches, matches, fields_for, body_covers}
use Rattle.matching.specs.Operator.{numeric_holds, bitmask_holds}
use Rattle.packet.specs.Packet.{fragment_data, ipv4_fields, is_unusable, fields_of, packet_of}
use Rattle.matching.specs.PairList.{groups_from, groups, list_holds}
use Rattle.packet.specs.Transport.{transport_octets, transport_fields}
use Rattle.entry.specs.Entry.{plain_value, possible}
use Rattle.entry.specs.Record.{written_fields, read_fields, head_numbers, record_of, actions_in, entry_of, good_record}
use Rattle.table.specs.Change.{holds, has_room, changed}
use Rattle.lookup.specs.Lookup.{collected, merged_onto, verdict_of, verdict_for, first_place}
use Rattle.table.specs.Sound.{records_of, table_of, sound_table, soundness}
use Rattle.table.specs.Walk.{record_at, records_from, records, entries}
use Rattle.request.specs.Request.{request_of}
use Rattle.flowspec.specs.Announce.{announcing, withdrawing}
use Rattle.request.specs.Judging.{read_with_routes, is_feasible}
use Rattle.flowspec.specs.Feasibility.{judgement}
use Rattle.lookup.specs.Opening.{opening}
use Rattle.flowspec.specs.Look.{looking_up, first_match, match_place}
use Rattle.rule.specs.Shape.{shape_of}
use Rattle.rate.specs.Rate.{scaled, value_rate, rate_of_parts, rate_of, fits_significand, is_single, rate_given}
use Rattle.order.specs.Precedence.{body_order, component_order, components_order, plain_order, precedence}
use Rattle.attribute.specs.Head.{afi_of, is_of_family, is_reach, is_unreach}
use Rattle.attribute.specs.Rules.{rule_at, rules_from}
use Rattle.update.specs.Apply.{reaching, unreaching}
use Rattle.history.specs.Scene4.{scene_four}
use Rattle.history.proofs.Worked.{Computed, Shown, shown}

computed : Computed scene_four
unfolding
    number_at octets_of every one_holds all_zero same_list walk bits covers_address contains prefix_order pattern_in pair_at pairs_from lead_of
    offset_at prefix_end body_end component_at ends_list size_of expected_at_start body_of pattern_after operand_after after without_reserved
    plain_operator plain_operand plain_pattern cleared_octet plain_from plain field_size field_length first_rule one_rule components_from
    components check_value body_key key_of keys_of destination_for destination_among destination_of covered_by more_specific longer matched best_match
    undisputed originates judged feasible number_in_words route_at routes_from routes_of plain_prefix rises rising sound_routes of_type smallest first
    rule_actions communities_at actions_of flags_of notes_of first_of smaller_of allowed merged could_be_limit could_be is_unusable ipv4_unusable fragment_data ipv4_fields holds_for body_holds
    field_matches fields_for body_covers component_matches matches numeric_holds bitmask_holds fields_of packet_of groups_from groups list_holds
    transport_octets transport_fields plain_value possible written_fields read_fields head_numbers record_of actions_in entry_of good_record holds
    has_room changed collected merged_onto verdict_of verdict_for first_place records_of table_of sound_table soundness record_at
    records_from records entries request_of announcing withdrawing read_with_routes is_feasible judgement opening looking_up first_match
    match_place shape_of scaled value_rate rate_of_parts rate_of fits_significand is_single rate_given body_order component_order components_order
    plain_order precedence afi_of is_of_family is_reach is_unreach rule_at rules_from reaching unreaching
computed =
    record {
      fits = refl;
      announces = refl;
      adds = refl;
      removes = refl;
      again = refl;
      withdraws = refl;
      withdraws_none = refl;
      announces_spelled = refl;
      removes_unrouted = refl;
      reaches = refl;
      unreaches = refl;
      stands = refl;
      asked_owned = refl;
      asked_foreign = refl;
      asked_spelled = refl;
      asked_marked = refl;
      asked_dropped = refl;
      read_other = refl;
      plain_one = refl;
      plain_spelled = refl;
      plain_other = refl;
      read = refl;
      read_spelled = refl;
      differ = refl;
      octets_one = refl;
      octets_spelled = refl;
      octets_other = refl;
      octets_reached = refl;
      in_force = refl;
      gone = refl;
      in_force_unrouted = refl;
      gone_unrouted = refl;
      judges_matched = refl;
      judges_unmatched = refl;
    }

-- **demand 3 for IPv4 is about something**
pub shown-four : Shown scene_four
shown-four = shown scene_four computed ipv4-fits
