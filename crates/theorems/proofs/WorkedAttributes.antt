-- **The two calls do something**, by computation, with the attributes of specs/WorkedAttributes.antt. The reach with five rules is done, and
-- lists 0, 8, 0, 11 and 0 before the words that it keeps: the table holds web and echo, so that neither the 8 nor the 11 undid a rule before
-- it or stopped one behind it. It tells the notes of its rates, as each record does, and so does a reach whose one rule is answered 8. The
-- unreach with echo twice is done, lists 0 and 14, and leaves web alone; one with no rule is done, changes nothing and asks for no word. A
-- reserved octet that is not 0 is no matter. A next hop, another AFI, another SAFI and a reach with no rule are 19; the five rules less their
-- last octet are 1, and not one of the four before the cut is announced; four words for five rules are 16; and an unsound rate is 13 even
-- there. Assumes nothing.
use mathlib.Core.Path.{◌≡◌, refl}
use mathlib.Core.List.{[], ◌∷◌}
use Prim.Native.Nat.{ℕ}
use Rattle.std.proofs.Common.{Result, Ok, Err}
use Rattle.octets.specs.Number.{number_at, octets_of}
use Rattle.octets.specs.Test.{every, one_holds, all_zero, same_list}
use Rattle.octets.specs.Walk.{walk}
use Rattle.prefix.specs.Prefix.{bits, contains, pattern_in, covers_address}
use Rattle.rule.specs.declared.Refusal.{Refusal}
use Rattle.rule.specs.declared.Refusal.TheVariants.{Overlong, UnsoundActions, ShortBuffer, UntakenAttribute}
use Rattle.rule.specs.Component.{pair_at, pairs_from, prefix_end, body_end, component_at, lead_of, offset_at}
use Rattle.rule.specs.Operator.{ends_list, size_of}
use Rattle.rule.specs.Shape.{shape_of}
use Rattle.rule.specs.Reading.{field_size, field_length, first_rule, one_rule}
use Rattle.rule.specs.Value.{components_from, components, check_value}
use Rattle.rule.specs.Family.{ipv4}
use Rattle.spelling.specs.Plain.{body_of, operand_after, after, plain_operator, plain_operand, plain_pattern, cleared_octet, plain_from, plain, expected_at_start, pattern_after, without_reserved}
use Rattle.order.specs.Key.{body_key, key_of, keys_of}
use Rattle.route.specs.Destination.{destination_for, destination_among, destination_of}
use Rattle.route.specs.Feasible.{covered_by, more_specific, longer, matched, best_match, originates, undisputed, judged, feasible}
use Rattle.route.specs.Route.{route_at, routes_of, plain_prefix, rises, rising, sound_routes, number_in_words, routes_from}
use Rattle.rate.specs.Rate.{scaled, value_rate, rate_of_parts, rate_of, fits_significand, is_single, rate_given}
use Rattle.action.specs.Actions.{communities_at, actions_of, flags_of, notes_of, of_type, smallest, first, rule_actions}
use Rattle.action.specs.Given.{first_of, allowed}
use Rattle.action.specs.Limit.{smaller_of, could_be_limit}
use Rattle.action.specs.Possible.{could_be}
use Rattle.entry.specs.Entry.{plain_value, possible}
use Rattle.entry.specs.Record.{written_fields, read_fields, head_numbers, record_of, actions_in, entry_of, good_record}
use Rattle.table.specs.Change.{changed}
use Rattle.table.specs.Sound.{records_of, table_of, sound_table}
use Rattle.table.specs.Walk.{record_at, records_from, records, entries}
use Rattle.request.specs.Request.{request_of}
use Rattle.flowspec.specs.Announce.{announcing, withdrawing}
use Rattle.request.specs.Judging.{read_with_routes, is_feasible}
use Rattle.attribute.specs.Head.{afi_of, is_of_family, is_reach, is_unreach}
use Rattle.attribute.specs.Rules.{rule_at, rules_from}
use Rattle.update.specs.declared.Reached.{Reached}
use Rattle.update.specs.Singles.{Reach, reach_of}
use Rattle.update.specs.Apply.{Left, reaching, unreaching, reached}
use Rattle.theorems.specs.WorkedAttributes.{routed, reach_start, unreach_start, five_rules, five_cut, elsewhere_alone, echo_twice, with_reserved, with_next_hop, of_another, of_vpn, echo_of_another, their_notes, unsound_rate, seven, from_seven, none_held, web_held, both_held, words_lent}

-- a reach on the empty table, with so many words
abbrev on_empty : Reach → ℕ → Left (Result Reached Refusal)
on_empty reach many = reaching ipv4 routed reach none_held (words_lent many)

-- a refusal there, that leaves table and words as they were
abbrev refused_there : Refusal → ℕ → Left (Result Reached Refusal)
refused_there refusal many = record { answer = Err refusal; table = none_held; words = words_lent many }

-- what each call leaves
pub record Computed : Type 0 where
  pub announces : on_empty (from_seven five_rules) 7 ≡ record { answer = Ok (reached 5 their_notes); table = both_held; words = 0 ∷ 8 ∷ 0 ∷ 11 ∷ 0 ∷ 9 ∷ 9 ∷ [] }
  pub announces_none : on_empty (from_seven elsewhere_alone) 1 ≡ record { answer = Ok (reached 1 their_notes); table = none_held; words = 8 ∷ [] }
  pub withdraws : unreaching ipv4 echo_twice both_held (words_lent 4) ≡ record { answer = Ok 2; table = web_held; words = 0 ∷ 14 ∷ 9 ∷ 9 ∷ [] }
  pub withdraws_none : unreaching ipv4 unreach_start both_held [] ≡ record { answer = Ok 0; table = both_held; words = [] }
  pub reserved : on_empty (from_seven with_reserved) 1 ≡ record { answer = Ok (reached 1 their_notes); table = web_held; words = 0 ∷ [] }
  pub next_hop : on_empty (from_seven with_next_hop) 7 ≡ refused_there UntakenAttribute 7
  pub another_family : on_empty (from_seven of_another) 7 ≡ refused_there UntakenAttribute 7
  pub another_safi : on_empty (from_seven of_vpn) 7 ≡ refused_there UntakenAttribute 7
  pub unreach_of_another : unreaching ipv4 echo_of_another both_held (words_lent 4) ≡ record { answer = Err UntakenAttribute; table = both_held; words = words_lent 4 }
  pub no_rule : on_empty (from_seven reach_start) 7 ≡ refused_there UntakenAttribute 7
  pub cut : on_empty (from_seven five_cut) 7 ≡ refused_there Overlong 7
  pub few_words : on_empty (from_seven five_rules) 4 ≡ refused_there ShortBuffer 4
  pub unsound : on_empty (reach_of five_rules seven unsound_rate) 4 ≡ refused_there UnsoundActions 4

pub computed : Computed
unfolding
    number_at octets_of every one_holds all_zero same_list walk bits covers_address contains pattern_in pair_at pairs_from lead_of offset_at
    prefix_end body_end component_at ends_list size_of expected_at_start body_of pattern_after operand_after after without_reserved plain_operator
    plain_operand plain_pattern cleared_octet plain_from plain field_size field_length first_rule one_rule components_from components check_value
    body_key key_of keys_of destination_for destination_among destination_of covered_by more_specific longer matched best_match originates undisputed judged
    feasible number_in_words route_at routes_from routes_of plain_prefix rises rising sound_routes of_type smallest first rule_actions
    communities_at actions_of flags_of notes_of first_of smaller_of allowed could_be_limit could_be plain_value possible written_fields read_fields head_numbers record_of
    actions_in entry_of good_record changed records_of table_of sound_table record_at records_from records
    entries request_of announcing withdrawing read_with_routes is_feasible shape_of scaled value_rate rate_of_parts
    rate_of fits_significand is_single rate_given afi_of is_of_family is_reach is_unreach rule_at rules_from reaching unreaching
computed =
    record {
      announces = refl;
      announces_none = refl;
      withdraws = refl;
      withdraws_none = refl;
      reserved = refl;
      next_hop = refl;
      another_family = refl;
      another_safi = refl;
      unreach_of_another = refl;
      no_rule = refl;
      cut = refl;
      few_words = refl;
      unsound = refl;
    }
