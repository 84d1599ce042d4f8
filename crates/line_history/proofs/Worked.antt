-- **The program's history is about something**: the worked inputs of specs/Worked.antt print what 01 and its rules say, and the first, whose
-- routes change between announcements, makes four calls, answered 8, 0, 8 and 14, and leaves a table of 64 octets with no rule. By
-- computation; assumes nothing.
use mathlib.Core.Path.{◌≡◌, refl}
use mathlib.Core.Bool.{true}
use mathlib.Core.List.{[], ◌∷◌, map}
use lib.ListN.{replicate}
use Rattle.octets.specs.Test.{every, one_holds, all_zero, same_list}
use Rattle.octets.specs.Number.{number_at, octets_of}
use Rattle.octets.specs.Store.{stored}
use Rattle.octets.specs.Walk.{walk}
use Rattle.prefix.specs.Prefix.{bits, covers_address, contains, prefix_order, pattern_in}
use Rattle.rule.specs.Component.{pair_at, pairs_from, lead_of, offset_at, prefix_end, body_end, component_at}
use Rattle.rule.specs.Operator.{ends_list, size_of}
use Rattle.rule.specs.Reading.{field_size, field_length, first_rule, one_rule}
use Rattle.rule.specs.Shape.{shape_of}
use Rattle.rule.specs.Value.{components_from, components, check_value}
use Rattle.spelling.specs.Plain.{expected_at_start, body_of, pattern_after, operand_after, after, without_reserved, plain_operator, plain_operand, plain_pattern, cleared_octet, plain_from, plain}
use Rattle.order.specs.Key.{body_key, key_of, keys_of}
use Rattle.order.specs.Precedence.{body_order, component_order, components_order, plain_order, precedence}
use Rattle.route.specs.Destination.{destination_for, destination_among, destination_of}
use Rattle.route.specs.Feasible.{covered_by, more_specific, longer, matched, best_match, undisputed, judged, feasible, originates}
use Rattle.route.specs.Route.{number_in_words, route_at, routes_from, routes_of, plain_prefix, rises, rising, sound_routes}
use Rattle.rate.specs.Rate.{scaled, value_rate, rate_of_parts, rate_of, fits_significand, is_single, rate_given}
use Rattle.action.specs.Actions.{of_type, smallest, first, rule_actions, communities_at, actions_of, flags_of, notes_of}
use Rattle.action.specs.Given.{first_of, allowed}
use Rattle.action.specs.Limit.{smaller_of, could_be_limit}
use Rattle.action.specs.Merging.{merged}
use Rattle.action.specs.Possible.{could_be}
use Rattle.entry.specs.Entry.{plain_value, possible}
use Rattle.entry.specs.Record.{written_fields, read_fields, head_numbers, record_of, actions_in, entry_of, good_record}
use Rattle.table.specs.Sound.{records_of, table_of, sound_table, soundness}
use Rattle.table.specs.Walk.{record_at, records_from, records, entries}
use Rattle.request.specs.Judging.{read_with_routes, is_feasible}
use Rattle.request.specs.Request.{request_of}
use Rattle.flowspec.specs.Announce.{announcing, withdrawing}
use Rattle.text.specs.Decimal.{number_from, number_in, starts_well, is_number, digits_of, decimal_of}
use Rattle.text.specs.Field.{fields, place_of}
use Rattle.text.specs.Hex.{is_hex_digit, hex_value, hex_digit, are_octets, octets_in, hex_of}
use Rattle.line.specs.Line.{are_of, said, line_of}
use Rattle.answers.specs.Answer.{place_text, answer_text, rule_text, rules_text, count_text, list_text}
use Rattle.lines.specs.Serve.{served}
use Rattle.table.specs.Change.{changed}
use Rattle.lines.specs.Input.{program_octets, after_line, after_lines, first_state, lines_of, lines_text, output_of, left_by}
use Rattle.history.specs.History.{number_of}
use Rattle.line_history.specs.Calls.{made_by}
use Rattle.line_history.specs.Worked.{rerouting, rerouting_printed, printed_example, example_printed}

-- what is computed of the inputs
pub record Computed : Type 0 where
  pub prints : same_list (output_of 64 rerouting) rerouting_printed ≡ true
  pub leaves : same_list (left_by 64 rerouting).table (replicate 64 0) ≡ true
  pub answers : map number_of (made_by (first_state 64) (lines_of rerouting)) ≡ 8 ∷ 0 ∷ 8 ∷ 14 ∷ []
  pub example : same_list (output_of program_octets printed_example) example_printed ≡ true

pub worked-input : Computed
unfolding
    number_at octets_of stored every one_holds all_zero same_list walk bits covers_address contains prefix_order pattern_in pair_at pairs_from lead_of
    offset_at prefix_end body_end component_at ends_list size_of field_size field_length first_rule one_rule shape_of components_from components
    check_value expected_at_start body_of pattern_after operand_after after without_reserved plain_operator plain_operand plain_pattern cleared_octet
    plain_from plain body_key key_of keys_of body_order component_order components_order plain_order precedence destination_for destination_among
    destination_of covered_by more_specific longer matched best_match undisputed judged feasible number_in_words route_at routes_from routes_of
    plain_prefix rises rising sound_routes scaled value_rate rate_of_parts rate_of fits_significand is_single rate_given of_type smallest first
    rule_actions communities_at actions_of flags_of notes_of first_of smaller_of could_be_limit allowed merged could_be plain_value possible written_fields read_fields
    head_numbers record_of actions_in entry_of good_record records_of table_of sound_table soundness record_at records_from records entries
    read_with_routes is_feasible request_of announcing withdrawing number_from number_in starts_well is_number digits_of decimal_of fields place_of
    is_hex_digit hex_value hex_digit are_octets octets_in hex_of are_of said line_of place_text answer_text rule_text rules_text count_text list_text
    lines_of first_state after_line lines_text after_lines served changed originates
worked-input = record { prints = refl; leaves = refl; answers = refl; example = refl }
