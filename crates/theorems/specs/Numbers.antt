-- 01's table of refusals, "given exactly when", call by call: where an answer has each number, and where it has the number 0. That the
-- answers of the calls are such is shown in proofs/Numbers.antt, from their promises; what a value's own refusals 1 to 7 are is in rule's
-- specs/Refusals.antt. That the others have place 0 is in each promise's `tells`.
use Rattle.std.specs.Prelude.{ℕ, ◌≤◌, ◌≡◌, Bool, true, false, List, ◌↔◌, ◌⊎◌, leb, length, Result}
use Rattle.rule.specs.declared.Family.{Family}
use Rattle.rule.specs.declared.Refusal.{Refusal}
use Rattle.spelling.specs.Plain.{plain}
use Rattle.rule.specs.Value.{check_value}
use Rattle.rule.specs.Refusal.{RefusedWith}
use Rattle.rule.specs.Reading.{value_in, check_rule}
use Rattle.spelling.specs.Writing.{rule_for}
use Rattle.order.specs.Key.{keys_of}
use Rattle.route.specs.declared.Origin.{Origin}
use Rattle.route.specs.Route.{sound_routes}
use Rattle.action.specs.Actions.{actions_of}
use Rattle.packet.specs.Packet.{is_unusable}
use Rattle.table.specs.Sound.{sound_table}
use Rattle.table.specs.Change.{holds, has_room}
use Rattle.request.specs.Input.{Announcement, Policy}
use Rattle.request.specs.Judging.{is_feasible}
use Rattle.flowspec.specs.Told.{Told}
use Rattle.flowspec.specs.Checks.{AllHold, one_to_seven, ends_there, is_sound, entry_in, read_checks, write_checks, compare_checks, judge_checks, actions_checks, announce_checks, withdraw_checks, lookup_checks}

-- A test holds.
abbrev pub Yes : Bool → Type 0
Yes test = test ≡ true

-- A test does not hold.
abbrev pub No : Bool → Type 0
No test = test ≡ false

-- None of the refusals 1 to 7.
abbrev pub Accepts : Result Unit Refusal → Type 0
Accepts checked = (one_to_seven checked).holds ≡ true

-- Refusals 1 to 7, each with its place: told exactly where a value is refused so, and what is checked before it holds.
abbrev pub OneToSeven : Told → (ℕ → ℕ → Type 0) → Type 0
OneToSeven answer exactly = (number place : ℕ) → 1 ≤ number → number ≤ 7
    → ((answer.number ≡ number) × (answer.place ≡ place)) ↔ exactly number place

-- Reading one rule.
pub record ReadNumbers (family : Family) (rule : List ℕ) (answer : Told) : Type 0 where
  pub one-to-seven : OneToSeven answer (λ number place. RefusedWith (check_rule family rule) number place)
  pub fifteen : (answer.number ≡ 15) ↔ (Accepts (check_rule family rule) × No (ends_there rule))
  pub zero : (answer.number ≡ 0) ↔ AllHold (read_checks family rule)

-- Writing one rule.
pub record WriteNumbers (family : Family) (value buffer : List ℕ) (answer : Told) : Type 0 where
  pub one-to-seven : OneToSeven answer (λ number place. RefusedWith (check_value family value) number place)
  pub sixteen : (answer.number ≡ 16) ↔ (Accepts (check_value family value) × No (leb (length (rule_for family value)) (length buffer)))
  pub zero : (answer.number ≡ 0) ↔ AllHold (write_checks family value buffer)

-- One rule is read, and the rest holds.
abbrev pub OneRule : Family → List ℕ → Type 0 → Type 0
OneRule family rule then = Accepts (check_rule family rule) × (Yes (ends_there rule) × then)

-- Comparing two rules.
pub record CompareNumbers (family : Family) (first second : List ℕ) (answer : Told) : Type 0 where
  pub one-to-seven : OneToSeven answer (λ number place. RefusedWith (check_rule family first) number place
      ⊎ (Accepts (check_rule family first) × (Yes (ends_there first) × RefusedWith (check_rule family second) number place)))
  pub fifteen : (answer.number ≡ 15) ↔ ((Accepts (check_rule family first) × No (ends_there first))
      ⊎ (Accepts (check_rule family first) × (Yes (ends_there first) × (Accepts (check_rule family second) × No (ends_there second)))))
  pub zero : (answer.number ≡ 0) ↔ AllHold (compare_checks family first second)

-- Judging one rule.
pub record JudgeNumbers (family : Family) (policy : Policy) (rule : List ℕ) (origin : Origin) (answer : Told) : Type 0 where
  pub nine : (answer.number ≡ 9) ↔ No (sound_routes family policy.routes)
  pub one-to-seven : OneToSeven answer
      (λ number place. Yes (sound_routes family policy.routes) × RefusedWith (check_rule family rule) number place)
  pub fifteen : (answer.number ≡ 15)
      ↔ (Yes (sound_routes family policy.routes) × (Accepts (check_rule family rule) × No (ends_there rule)))
  pub eight : (answer.number ≡ 8)
      ↔ (Yes (sound_routes family policy.routes) × OneRule family rule (No (is_feasible family policy (value_in rule) origin)))
  pub zero : (answer.number ≡ 0) ↔ AllHold (judge_checks family policy rule origin)

-- Reading actions.
pub record ActionsNumbers (communities : List ℕ) (answer : Told) : Type 0 where
  pub thirteen : (answer.number ≡ 13) ↔ No (is_sound (actions_of communities))
  pub zero : (answer.number ≡ 0) ↔ AllHold (actions_checks communities)

-- Table and routes are sound, and the rest holds.
abbrev pub SoundBoth : Family → Policy → List ℕ → Type 0 → Type 0
SoundBoth family policy table then = Yes (sound_table family table) × (Yes (sound_routes family policy.routes) × then)

-- Announcing.
pub record AnnounceNumbers (family : Family) (policy : Policy) (a : Announcement) (table : List ℕ) (answer : Told) : Type 0 where
  pub ten : (answer.number ≡ 10) ↔ No (sound_table family table)
  pub nine : (answer.number ≡ 9) ↔ (Yes (sound_table family table) × No (sound_routes family policy.routes))
  pub one-to-seven : OneToSeven answer (λ number place. SoundBoth family policy table (RefusedWith (check_rule family a.rule) number place))
  pub fifteen : (answer.number ≡ 15) ↔ SoundBoth family policy table (Accepts (check_rule family a.rule) × No (ends_there a.rule))
  pub thirteen : (answer.number ≡ 13)
      ↔ SoundBoth family policy table (OneRule family a.rule (No (is_sound (actions_of a.communities))))
  pub eight : (answer.number ≡ 8)
      ↔ SoundBoth family policy table (OneRule family a.rule (Yes (is_sound (actions_of a.communities))
      × No (is_feasible family policy (value_in a.rule) a.origin)))
  pub eleven : (answer.number ≡ 11)
      ↔ SoundBoth family policy table (OneRule family a.rule (Yes (is_sound (actions_of a.communities))
      × (Yes (is_feasible family policy (value_in a.rule) a.origin) × No (has_room family table (entry_in family a)))))
  pub zero : (answer.number ≡ 0) ↔ AllHold (announce_checks family policy a table)

-- Withdrawing.
pub record WithdrawNumbers (family : Family) (rule table : List ℕ) (answer : Told) : Type 0 where
  pub ten : (answer.number ≡ 10) ↔ No (sound_table family table)
  pub one-to-seven : OneToSeven answer (λ number place. Yes (sound_table family table) × RefusedWith (check_rule family rule) number place)
  pub fifteen : (answer.number ≡ 15) ↔ (Yes (sound_table family table) × (Accepts (check_rule family rule) × No (ends_there rule)))
  pub fourteen : (answer.number ≡ 14)
      ↔ (Yes (sound_table family table) × OneRule family rule (No (holds family table (keys_of family (plain family (value_in rule))))))
  pub zero : (answer.number ≡ 0) ↔ AllHold (withdraw_checks family rule table)

-- Looking up, and finding the first match.
pub record LookupNumbers (family : Family) (table packet : List ℕ) (answer : Told) : Type 0 where
  pub ten : (answer.number ≡ 10) ↔ No (sound_table family table)
  pub twelve : (answer.number ≡ 12) ↔ (Yes (sound_table family table) × Yes (is_unusable family packet))
  pub zero : (answer.number ≡ 0) ↔ AllHold (lookup_checks family table packet)
