-- What a call with a whole attribute checks, in the order in which 2026-01 names the numbers; the first check that does not hold refuses
-- the whole attribute.
use Rattle.std.specs.Prelude.{ℕ, List, [], ◌∷◌, leb, length}
use Rattle.rule.specs.declared.Family.{Family}
use Rattle.action.specs.Actions.{actions_of}
use Rattle.action.specs.declared.Actions.{Actions}
use Rattle.route.specs.Route.{sound_routes}
use Rattle.table.specs.Sound.{sound_table}
use Rattle.request.specs.Input.{Policy}
use Rattle.flowspec.specs.Checks.{Check, check, one_to_seven, is_sound, notes_in}
use Rattle.attribute.specs.Head.{is_reach, is_unreach}
use Rattle.attribute.specs.Rules.{reach_rules, unreach_rules}
use Rattle.update.specs.Singles.{Reach}
use Rattle.update.specs.declared.RulesRead.{RulesRead}

-- How many rules a reach has.
abbrev pub reach_count : Family → List ℕ → ℕ
reach_count family attribute = length (reach_rules family attribute).items

-- The notes of the rates that a reach announces each of its rules with.
abbrev pub reach_notes : Reach → ℕ
reach_notes reach = notes_in reach.communities

-- What a reach is answered with: how many rules it has, and those notes.
abbrev pub reach_values : Family → Reach → List ℕ
reach_values family reach = reach_count family reach.attribute ∷ reach_notes reach ∷ []

-- How many rules an unreach has.
abbrev pub unreach_count : Family → List ℕ → ℕ
unreach_count family attribute = length (unreach_rules family attribute).items

-- What is read of a reach, by how many rules it has and the actions of each.
abbrev pub rules_read : ℕ → Actions → RulesRead
rules_read count actions = record { count = count; actions = actions }

-- The checks of what a reach is given, beside the table, with so many answer words. 2026-01: "Checks run 10, 9 (reach), 19, 1 to 7 rule by
-- rule, 13 (reach), 16 (answer buffer under one word a rule)".
abbrev pub reach_input : Family → List ℕ → List ℕ → List ℕ → ℕ → List Check
reach_input family routes attribute communities words =
    check (sound_routes family routes) 9
    ∷ check (is_reach family attribute) 19
    ∷ one_to_seven (reach_rules family attribute).ending
    ∷ check (is_sound (actions_of communities)) 13
    ∷ check (leb (reach_count family attribute) words) 16
    ∷ []

-- The same of an unreach, which has neither routes nor communities.
abbrev pub unreach_input : Family → List ℕ → ℕ → List Check
unreach_input family attribute words =
    check (is_unreach family attribute) 19
    ∷ one_to_seven (unreach_rules family attribute).ending
    ∷ check (leb (unreach_count family attribute) words) 16
    ∷ []

-- All checks of a reach: the table's, 10, and then those of what it is given.
abbrev pub reach_checks : Family → Policy → Reach → List ℕ → List ℕ → List Check
reach_checks family policy reach table answers =
    check (sound_table family table) 10
    ∷ reach_input family policy.routes reach.attribute reach.communities (length answers)

-- The same of an unreach.
abbrev pub unreach_checks : Family → List ℕ → List ℕ → List ℕ → List Check
unreach_checks family attribute table answers = check (sound_table family table) 10 ∷ unreach_input family attribute (length answers)
