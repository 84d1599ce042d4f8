-- Histories: calls that change one table, each with what it was lent, its answer and the octets it left. Routes and setting may change from
-- one call to the next. A rule is known by its key: two accepted rules have one key exactly when their plain spellings are equal (crate
-- order, KeyLaws: `keys-only` and `keys-same`).
use Rattle.std.specs.Prelude.{ℕ, ◌^◌, ◌<◌, ◌≤◌, ◌≡◌, ◌↔◌, length, replicate, Result, Option as OptionInCode}
use mathlib.Core.List.{List, [], ◌∷◌, Memᴰ}
use Rattle.std.proofs.Math.Option.{Option, none, some}
use Rattle.octets.specs.Number.{Octets}
use Rattle.octets.specs.Test.{Each}
use Rattle.sorted.specs.History.{Op}
use Rattle.sorted.specs.History as S
use Rattle.rule.specs.declared.Family.{Family}
use Rattle.rule.specs.declared.Refusal.{Refusal}
use Rattle.rule.specs.Reading.{one_rule}
use Rattle.route.specs.declared.Origin.{Origin}
use Rattle.order.specs.Key.{RuleKey, key_order}
use Rattle.action.specs.declared.Actions.{Actions}
use Rattle.action.specs.Actions.{actions_of}
use Rattle.entry.specs.Entry.{Entry, entry_key}
use Rattle.table.specs.Walk.{entries}
use Rattle.table.specs.Sound.{Encodes, most_octets}
use Rattle.lookup.specs.declared.Matched.{Matched}
use Rattle.request.specs.Input.{Announcement, Policy}
use Rattle.request.specs.Request.{request_of}
use Rattle.flowspec.specs.Announce.{Outcome, announce_operation, announcing, withdraw_operation, withdrawing}
use Rattle.flowspec.specs.Told.{Told, announced_told, withdrawn_told}
use Rattle.flowspec.specs.Promise.{Announces, Withdraws, LooksUp, FirstMatches}

-- An empty table: a buffer of n octets, all zero.
abbrev pub empty_table : ℕ → List ℕ
empty_table n = replicate n 0

-- A call, with whatever octets it was given: an announcement, with the routes and the setting that it was lent to be judged by, or a
-- withdrawal of a rule.
pub data Call : Type 0 where
  announcement : Policy → Announcement → Call
  withdrawal : List ℕ → Call

-- What a call is answered with, by its kind.
abbrev pub AnswerTo : Call → Type 0
AnswerTo (announcement policy a) = Result ℕ Refusal
AnswerTo (withdrawal rule) = Result Unit Refusal

-- What that answer says.
abbrev pub answer_told : (call : Call) → AnswerTo call → Told
answer_told (announcement policy a) answer = announced_told answer
answer_told (withdrawal rule) answer = withdrawn_told answer

-- A call as it was made: what it was given, its answer, and the table's octets after it.
pub record Made : Type 0 where
  pub call : Call
  pub answer : AnswerTo call
  pub left : List ℕ

-- What its answer says.
abbrev pub told_of : Made → Told
told_of m = answer_told m.call m.answer

-- The number that a call was answered with, 0 where it was done.
abbrev pub number_of : Made → ℕ
number_of m = (told_of m).number

-- What is asked of what a call is given, and holds by the types of what it is lent: an announced rule is octets, and an originator has 32
-- bits.
abbrev pub CanBe : Call → Type 0
CanBe (announcement policy a) = Octets a.rule × (a.origin.originator < 2 ^ 32)
CanBe (withdrawal rule) = Unit {0}

-- What every call of a history is given.
abbrev pub EachCanBe : List Made → Type 0
EachCanBe = Each (λ m. CanBe m.call)

-- What two histories compare of a call: its kind and, of an announcement, its origin and the actions as read, the notes of their rates among
-- them. The rule's spelling, the communities' octets and the answer are not compared, and that both were lent one policy is a premise of
-- its own (`SamePolicy`).
pub data Deed : Type 0 where
  announced : Origin → OptionInCode Actions → Deed
  withdrew : Deed

-- What is compared of a call.
abbrev pub deed : Call → Deed
deed (announcement policy a) = announced a.origin (actions_of a.communities)
deed (withdrawal rule) = withdrew

-- The same of a call that was made, if there is one.
abbrev pub deed_of : Option Made → Option Deed
deed_of none = none
deed_of (some m) = some (deed m.call)

-- Demand 3: "with the same routes and setting". A call was lent this policy; a withdrawal is lent none.
abbrev pub LentPolicy : Policy → Call → Type 0
LentPolicy policy (announcement lent a) = lent ≡ policy
LentPolicy policy (withdrawal rule) = Unit {0}

-- The same of every call of a history.
abbrev pub SamePolicy : Policy → List Made → Type 0
SamePolicy policy = Each (λ m. LentPolicy policy m.call)

-- The table at the end of a history.
abbrev pub end_of : List ℕ → List Made → List ℕ
end_of table [] = table
end_of table (m ∷ h) = end_of m.left h

module _ (family : Family) where
  -- What a call asks of a table, by its kind: an announcement is judged by what it was lent.
  abbrev pub operation_of : Call → Op RuleKey Entry
  operation_of (announcement policy a) = announce_operation family a (request_of family policy a)
  operation_of (withdrawal rule) = withdraw_operation family rule (one_rule family rule)

  -- A call's promise, with a table at entry.
  abbrev pub Promised : (call : Call) → List ℕ → AnswerTo call → List ℕ → Type 0
  Promised (announcement policy a) table answer left = Announces family policy a table answer left (policy.routes ∷ a.rule ∷ a.communities ∷ [])
  Promised (withdrawal rule) table answer left = Withdraws family rule table answer left (rule ∷ [])

  -- A history from a table on, the oldest call first, all calls of one family: each call keeps its promise on the table that the call
  -- before it left.
  abbrev pub Happened : List ℕ → List Made → Type 0
  Happened table [] = Unit {0}
  Happened table (m ∷ h) = Promised m.call table m.answer m.left × Happened m.left h

  -- What a call answers and leaves on a table.
  abbrev pub outcome_of : (call : Call) → List ℕ → Outcome (AnswerTo call)
  outcome_of (announcement policy a) table = announcing family policy a table
  outcome_of (withdrawal rule) table = withdrawing family rule table

  -- A call as it is made on a table.
  abbrev pub made_on : Call → List ℕ → Made
  made_on call table = record { call = call; answer = (outcome_of call table).answer; left = (outcome_of call table).table }

  -- The history of calls that are made one after the other, from a table on.
  abbrev pub history_of : List ℕ → List Call → List Made
  history_of table [] = []
  history_of table (call ∷ calls) = made_on call table ∷ history_of (outcome_of call table).table calls

  -- What a call that was made asked of its table.
  abbrev pub operation_made : Made → Op RuleKey Entry
  operation_made m = operation_of m.call

  -- The last counted call about a rule. 01: "A counted call is an announcement answered 0 or 8, or a withdrawal answered 0 or 14."
  abbrev pub last_counted : RuleKey → List Made → Option Made
  last_counted k h = S.last_counted key_order (entry_key family) operation_made number_of k h

  -- What is in force for a rule after a history: the entry of a feasible announcement, with its originator and actions, where that is the
  -- rule's last counted call.
  abbrev pub in_force_after : List Made → RuleKey → Option Entry
  in_force_after h k = S.in_force_after key_order (entry_key family) operation_made number_of h k

  -- Two histories agree on each rule's last counted call.
  abbrev pub Agree : List Made → List Made → Type 0
  Agree h g = (k : RuleKey) → deed_of (last_counted k h) ≡ deed_of (last_counted k g)

  -- A history that began at an empty table, in a buffer of n octets that only its calls wrote.
  pub record FromEmpty (n : ℕ) (h : List Made) : Type 0 where
    pub fits : n ≤ most_octets
    pub given : EachCanBe h
    pub happened : Happened (empty_table n) h

  -- **Demand 3**, of a table after any history, whatever routes its calls were lent: it "holds exactly the rules whose last counted call was a
  -- feasible announcement, each with that call's actions" (`exactly`; feasible by what that call was lent), "once, in precedence order"
  -- (`sound`: its octets are the records of its entries, whose keys rise strictly, and zeros), in the n octets of its buffer (`sized`).
  pub record HoldsExactly (n : ℕ) (h : List Made) (table : List ℕ) : Type 0 where
    pub exactly : (e : Entry) → Memᴰ e (entries table) ↔ (in_force_after h (entry_key family e) ≡ some e)
    pub sound : Encodes family table (entries table)
    pub sized : length table ≡ n

-- **Demand 3**, of two tables: they are "equal bytes and judge every packet alike", with one verdict, which has one count and one set of
-- actions, and one first match, which stands at one place of tables that stand at one place.
pub record EndAlike (family : Family) (table other : List ℕ) : Type 0 where
  pub octets : table ≡ other
  pub verdicts : (packet : List ℕ) (a b : Result (OptionInCode Matched) Refusal) (k l : List (List ℕ))
      → LooksUp family table packet a k → LooksUp family other packet b l → a ≡ b
  pub matches : (packet part rest : List ℕ) (lent stands stood : ℕ × ℕ) (k l : List (List ℕ))
      → FirstMatches family table packet lent part stands k
      → FirstMatches family other packet lent rest stood l → (part ≡ rest) × (stands ≡ stood)
