-- Announcing to and withdrawing from a table: what a call leaves, by what it asks once its input is read and judged
-- (request/specs/Request.antt). A call on an unsound table is 10, and changes nothing.
use Rattle.std.specs.Prelude.{ℕ, cond, List, Result, Ok, Err}
use Rattle.sorted.specs.History.{Op, refuse, announce, withdraw}
use Rattle.rule.specs.declared.Family.{Family}
use Rattle.spelling.specs.Plain.{plain}
use Rattle.rule.specs.Reading.{value_of, one_rule}
use Rattle.rule.specs.Refusal.{number_of}
use Rattle.rule.specs.declared.Refusal.{Refusal}
use Rattle.rule.specs.declared.Refusal.TheVariants.{UnsoundTable}
use Rattle.rule.specs.declared.Span.{Span}
use Rattle.order.specs.Key.{RuleKey, keys_of}
use Rattle.action.specs.declared.Actions.{Actions}
use Rattle.action.specs.Actions.{notes_of}
use Rattle.entry.specs.Entry.{Entry}
use Rattle.table.specs.Sound.{sound_table}
use Rattle.table.specs.Change.{Changed, outcome_of, changed}
use Rattle.request.specs.Input.{Announcement, Policy}
use Rattle.request.specs.Request.{request_of, announced_entry}
use Rattle.request.specs.declared.Request.{Request}

-- What a call on a table leaves: its answer, and the table's octets.
pub record Outcome (A : Type 0) : Type 0 where
  pub answer : A
  pub table : List ℕ

-- What a change of the table leaves, by the answer for its outcome.
abbrev pub outcome : {A : Type 0} → (Result Unit Refusal → A) → Changed → Outcome A
outcome answer_of c = record { answer = answer_of (outcome_of c.number); table = c.table }

-- An answer that comes before any change of the table (the refusals 10, 9, 1 to 7, 15, 13) gives back the octets it was given.
abbrev pub unchanged : {A : Type 0} → A → List ℕ → Outcome A
unchanged answer t = record { answer = answer; table = t }

-- The answer of an announcement, by its actions, for a change's outcome: where the rule is held, the notes of its rates are told; the
-- refusals 8 and 11 carry place 0.
abbrev pub announced_of : Actions → Result Unit Refusal → Result ℕ Refusal
announced_of actions (Ok _) = Ok (notes_of actions)
announced_of actions (Err refusal) = Err refusal

-- What an announcement asks of a table once its input is read and judged: nothing, where that is refused; else to announce an entry,
-- which is feasible or not.
abbrev pub announce_operation : Family → Announcement → Result Request Refusal → Op RuleKey Entry
announce_operation family a (Err refusal) = refuse (number_of refusal)
announce_operation family a (Ok asked) = announce (announced_entry family a asked.start asked.size asked.actions) asked.feasible

-- What an announcement leaves in a sound table.
abbrev pub announced_by : Family → Announcement → List ℕ → Result Request Refusal → Outcome (Result ℕ Refusal)
announced_by family a t (Err refusal) = unchanged (Err refusal) t
announced_by family a t (Ok asked) =
    outcome (announced_of asked.actions) (changed family t (announce_operation family a (Ok asked)))

-- 01: "Announce checks 10, 9, 1 to 7, 15, 13, 8, 11".
unfoldable pub announcing : Family → Policy → Announcement → List ℕ → Outcome (Result ℕ Refusal)
announcing family policy a t =
    cond (sound_table family t) (announced_by family a t (request_of family policy a)) (unchanged (Err UnsoundTable) t)

-- What a withdrawal asks of a table once its rule is read: nothing, where that is refused; else to withdraw the rule.
abbrev pub withdraw_operation : Family → List ℕ → Result Span Refusal → Op RuleKey Entry
withdraw_operation family rule (Err refusal) = refuse (number_of refusal)
withdraw_operation family rule (Ok read) = withdraw (keys_of family (plain family (value_of rule read.start read.size)))

-- What a withdrawal leaves in a sound table.
abbrev pub withdrawn_by : Family → List ℕ → List ℕ → Result Span Refusal → Outcome (Result Unit Refusal)
withdrawn_by family t rule (Err refusal) = unchanged (Err refusal) t
withdrawn_by family t rule (Ok read) =
    outcome (λ answer. answer) (changed family t (withdraw_operation family rule (Ok read)))

-- 01: "withdraw 10, 1 to 7, 15, 14".
unfoldable pub withdrawing : Family → List ℕ → List ℕ → Outcome (Result Unit Refusal)
withdrawing family rule t = cond (sound_table family t) (withdrawn_by family t rule (one_rule family rule)) (unchanged (Err UnsoundTable) t)
