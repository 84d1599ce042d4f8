-- How the code goes through an attribute: once everything is found sound, and its rules are counted (attribute/specs/Count.antt), a change of
-- the table is made for each (table/specs/Change.antt). No promise names these words; that the changes are those of the single calls is shown
-- in proofs/SinglesLaws.antt.
use Rattle.std.specs.Prelude.{ℕ, ◌^◌, ◌<◌, ◌≤◌, ◌≡◌, true, List, length, Ok}
use Rattle.sorted.specs.History.{Op, announce, withdraw}
use Rattle.rule.specs.declared.Family.{Family}
use Rattle.rule.specs.Reading.{value_in}
use Rattle.rule.specs.Refusal.{told_number}
use Rattle.spelling.specs.Plain.{plain}
use Rattle.order.specs.Key.{RuleKey, keys_of}
use Rattle.action.specs.Possible.{could_be}
use Rattle.entry.specs.Entry.{Entry, entry_for}
use Rattle.table.specs.Change.{Changed, changed, Ready}
use Rattle.request.specs.Input.{policy_of}
use Rattle.request.specs.Judging.{is_feasible}
use Rattle.flowspec.specs.Announce.{Outcome, outcome}
use Rattle.attribute.specs.Rules.{rules_from}
use Rattle.update.specs.declared.Task.{Task}
use Rattle.update.specs.declared.Task.TheVariants.{Announce, Withdraw}
use Rattle.update.specs.Singles.{Singles, each_rule}
use Rattle.update.specs.Apply.{listed}

-- What a task asks of a sound table for one rule, by its accepted value: to announce it, as it is judged, or to withdraw it.
unfoldable pub rule_asks : Family → List ℕ → Task → List ℕ → Op RuleKey Entry
rule_asks family routes (Announce head settings) value =
    announce (entry_for head (plain family value)) (is_feasible family (policy_of routes settings) value head.origin)
rule_asks family routes Withdraw value = withdraw (keys_of family (plain family value))

-- What is done to the table for it.
abbrev pub rule_change : Family → List ℕ → Task → List ℕ → List ℕ → Changed
rule_change family routes task value t = changed family t (rule_asks family routes task value)

-- The same for a rule by its octets, as a call on the table.
abbrev pub rule_call : Family → List ℕ → Task → List ℕ → List ℕ → Outcome ℕ
rule_call family routes task rule t = outcome (λ done. told_number done) (rule_change family routes task (value_in rule) t)

-- What is left where that is done for the rules of an attribute from a place on.
abbrev pub tasks_from : Family → List ℕ → Task → List ℕ → ℕ → List ℕ → Singles
tasks_from family routes task attribute at t = each_rule (rule_call family routes task) (rules_from family attribute at).items t

-- What an announcement heads its rules with could be: an originator of 32 bits, and actions that some communities give.
abbrev pub TaskCouldBe : Task → Type 0
TaskCouldBe (Announce head settings) = (head.origin.originator < 2 ^ 32) × (could_be head.actions ≡ true)
TaskCouldBe Withdraw = Unit {0}

-- What the code asks before it goes through the rules: a table that is ready, a task that could be, and rules that are all accepted, with
-- an answer word for each.
pub record Prepared (family : Family) (task : Task) (attribute : List ℕ) (at : ℕ) (t : List ℕ) (used words : ℕ) : Type 0 where
  pub ready : Ready family t used
  pub could : TaskCouldBe task
  pub accepted : (rules_from family attribute at).ending ≡ Ok tt
  pub enough : length (rules_from family attribute at).items ≤ words

-- What the code leaves behind the last rule: the table, and the answer words.
pub record LeavesAll (singles : Singles) (answers exit words : List ℕ) : Type 0 where
  pub leaves : exit ≡ singles.table
  pub lists : words ≡ listed singles answers
