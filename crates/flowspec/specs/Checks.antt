-- 01's table of refusals as lists: what each call checks, in the order in which 01 names the numbers, and what a call says that goes
-- through such a list. The first check that does not hold refuses the call.
use Rattle.std.specs.Prelude.{ℕ, ◌≡◌, Bool, true, false, cond, not, List, [], ◌∷◌, leb, length, Result, Ok, Err, Option, Some, None}
use Rattle.octets.specs.Test.{Each}
use Rattle.sorted.specs.Table.{by_order}
use Rattle.rule.specs.declared.Family.{Family}
use Rattle.spelling.specs.Plain.{plain}
use Rattle.rule.specs.Value.{check_value}
use Rattle.rule.specs.Reading.{field_size, field_length, rule_end, value_in, check_rule}
use Rattle.rule.specs.Refusal.{number_of, place_of}
use Rattle.rule.specs.declared.Refusal.{Refusal}
use Rattle.spelling.specs.Writing.{rule_for}
use Rattle.order.specs.Key.{keys_of}
use Rattle.order.specs.Precedence.{precedence}
use Rattle.action.specs.declared.Actions.{Actions}
use Rattle.action.specs.Actions.{no_actions, actions_of, notes_of, values_of}
use Rattle.route.specs.declared.Origin.{Origin}
use Rattle.route.specs.Route.{sound_routes}
use Rattle.packet.specs.Packet.{is_unusable, fields_of}
use Rattle.entry.specs.Entry.{Entry}
use Rattle.table.specs.Walk.{entries}
use Rattle.table.specs.Sound.{sound_table}
use Rattle.lookup.specs.Lookup.{hit, collected, merged_onto, first_place}
use Rattle.table.specs.Change.{holds, has_room}
use Rattle.request.specs.Input.{Announcement, Policy}
use Rattle.request.specs.Judging.{is_feasible}
use Rattle.request.specs.Request.{announced_entry}
use Rattle.flowspec.specs.Told.{Told, refused, place_values}
use Rattle.flowspec.specs.Look.{no_head}

-- A check: whether it holds, and the number and the place of the refusal where it does not.
pub record Check : Type 0 where
  pub holds : Bool
  pub number : ℕ
  pub place : ℕ

-- A check whose refusal carries place 0; 01: "3 to 7 carry a place in the value"; "Others carry place 0."
abbrev pub check : Bool → ℕ → Check
check holds number = record { holds = holds; number = number; place = 0 }

-- 01: ""1 to 7" means 1, 2, then 3 to 7 as met": the refusals of a value, which is read left to right, as one check.
abbrev pub one_to_seven : Result Unit Refusal → Check
one_to_seven (Ok _) = record { holds = true; number = 0; place = 0 }
one_to_seven (Err refusal) = record { holds = false; number = number_of refusal; place = place_of refusal }

-- All checks of a list hold.
abbrev pub AllHold : List Check → Type 0
AllHold = Each (λ c. c.holds ≡ true)

-- What a call says that goes through checks: what it grants where all hold, else the refusal of the first that does not hold, with as
-- many values, each 0.
abbrev pub told : List Check → Told → Told
told [] grant = grant
told (c ∷ cs) grant = cond c.holds (told cs grant) (refused c.number c.place (length grant.values))

-- No "bytes after the one rule".
abbrev pub ends_there : List ℕ → Bool
ends_there rule = leb (length rule) (rule_end rule)

-- 01: "reading one rule 1 to 7, 15".
abbrev pub read_checks : Family → List ℕ → List Check
read_checks family rule = one_to_seven (check_rule family rule) ∷ check (ends_there rule) 15 ∷ []

-- 01: "Reading one rule answers the start and length of its value".
abbrev pub read_values : List ℕ → List ℕ
read_values rule = field_size rule ∷ field_length rule ∷ []

-- 01: "writer (takes a value) 1 to 7, 16".
abbrev pub write_checks : Family → List ℕ → List ℕ → List Check
write_checks family value buffer = one_to_seven (check_value family value) ∷ check (leb (length (rule_for family value)) (length buffer)) 16 ∷ []

-- 01: "answers how many octets it wrote".
abbrev pub write_values : Family → List ℕ → List ℕ
write_values family value = length (rule_for family value) ∷ []

-- 01: "comparing the same, first rule before second".
abbrev pub compare_checks : Family → List ℕ → List ℕ → List Check
compare_checks family first second =
    one_to_seven (check_rule family first)
    ∷ check (ends_there first) 15
    ∷ one_to_seven (check_rule family second)
    ∷ check (ends_there second) 15
    ∷ []

-- 1 where the first rule comes first, 3 where they are the same rule, 2 where the second comes first.
abbrev pub compare_values : Family → List ℕ → List ℕ → List ℕ
compare_values family first second = by_order (precedence family (value_in first) (value_in second)) 1 3 2 ∷ []

-- Whether communities are sound.
abbrev pub is_sound : Option Actions → Bool
is_sound (Some actions) = true
is_sound None = false

-- The actions that communities ask for, none where they are unsound.
abbrev pub actions_read : Option Actions → Actions
actions_read (Some actions) = actions
actions_read None = no_actions

-- 01: "actions 13".
abbrev pub actions_checks : List ℕ → List Check
actions_checks communities = check (is_sound (actions_of communities)) 13 ∷ []

-- The values of the actions, in the order of a record.
abbrev pub actions_values : List ℕ → List ℕ
actions_values communities = values_of (actions_read (actions_of communities))

-- 01: "feasibility alone 9, 1 to 7, 15, 8".
abbrev pub judge_checks : Family → Policy → List ℕ → Origin → List Check
judge_checks family policy rule origin =
    check (sound_routes family policy.routes) 9
    ∷ one_to_seven (check_rule family rule)
    ∷ check (ends_there rule) 15
    ∷ check (is_feasible family policy (value_in rule) origin) 8
    ∷ []

-- The entry that an announcement asks for, by its octets as read; it counts only where all checks before it hold.
abbrev pub entry_in : Family → Announcement → Entry
entry_in family a =
    announced_entry family a (field_size a.rule) (field_length a.rule) (actions_read (actions_of a.communities))

-- 01: "Announce checks 10, 9, 1 to 7, 15, 13, 8, 11".
abbrev pub announce_checks : Family → Policy → Announcement → List ℕ → List Check
announce_checks family policy a table =
    check (sound_table family table) 10
    ∷ check (sound_routes family policy.routes) 9
    ∷ one_to_seven (check_rule family a.rule)
    ∷ check (ends_there a.rule) 15
    ∷ check (is_sound (actions_of a.communities)) 13
    ∷ check (is_feasible family policy (value_in a.rule) a.origin) 8
    ∷ check (has_room family table (entry_in family a)) 11
    ∷ []

-- The notes of the rates that communities ask for.
abbrev pub notes_in : List ℕ → ℕ
notes_in communities = notes_of (actions_read (actions_of communities))

-- An announcement that is done answers those of its own communities.
abbrev pub announce_values : Announcement → List ℕ
announce_values a = notes_in a.communities ∷ []

-- 01: "withdraw 10, 1 to 7, 15, 14".
abbrev pub withdraw_checks : Family → List ℕ → List ℕ → List Check
withdraw_checks family rule table =
    check (sound_table family table) 10
    ∷ one_to_seven (check_rule family rule)
    ∷ check (ends_there rule) 15
    ∷ check (holds family table (keys_of family (plain family (value_in rule)))) 14
    ∷ []

-- 01: "lookup 10, 12".
abbrev pub lookup_checks : Family → List ℕ → List ℕ → List Check
lookup_checks family table packet = check (sound_table family table) 10 ∷ check (not (is_unusable family packet)) 12 ∷ []

-- 01: "matched with the merged actions and the count collected": the count, then the values of the actions; each is 0 where no rule
-- matches.
abbrev pub lookup_values : Family → List ℕ → List ℕ → List ℕ
lookup_values family table packet =
    let rules = collected (hit family no_head (fields_of family packet)) (entries table) in
    length rules ∷ values_of (merged_onto no_actions rules)

-- Where the first match's record stands, 0 and 0 where there is none.
abbrev pub first_match_values : Family → List ℕ → List ℕ → List ℕ
first_match_values family table packet =
    let found = first_place (hit family no_head (fields_of family packet)) 0 (entries table) in
    place_values found.start found.end
