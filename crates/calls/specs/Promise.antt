-- What each call promises, for whatever family of addresses and whatever octets it is lent: the word that it returns (`result`), and what
-- every buffer that it is lent (`lent`, Buffers.antt) holds at exit (`left`): one that is lent to be read alone holds what it held. No call has a
-- `requires`. That no second result satisfies a promise is shown in proofs/Unique.antt. The answers are the door's, by its own definitions.
use Rattle.std.specs.Prelude.{ℕ, ◌≡◌, length}
use Rattle.rule.specs.declared.Family.{Family}
use Rattle.rule.specs.Reading.{one_rule}
use Rattle.spelling.specs.Writing.{writing, after_writing}
use Rattle.action.specs.Actions.{actions_of}
use Rattle.order.specs.Compare.{compare_rules}
use Rattle.route.specs.declared.Origin.{Origin}
use Rattle.route.specs.declared.Settings.{Settings}
use Rattle.request.specs.Input.{announcement_of, policy_of}
use Rattle.flowspec.specs.Feasibility.{judgement}
use Rattle.flowspec.specs.Announce.{announcing, withdrawing}
use Rattle.flowspec.specs.Look.{looking_up, match_place}
use Rattle.flowspec.specs.Told.{Told, reading_told, writing_told, comparison_told, feasibility_told, actions_told, announced_told, withdrawn_told, lookup_told, match_place_told}
use Rattle.update.specs.Singles.{reach_of}
use Rattle.update.specs.Apply.{reaching, unreaching, reached_told, unreached_told}
use Rattle.calls.specs.Word.{word_of, out_after}
use Rattle.calls.specs.Buffers.{ReadBuffers, WriteBuffers, CompareBuffers, FeasibleBuffers, ActionsBuffers, AnnounceBuffers, WithdrawBuffers, ReachBuffers, UnreachBuffers, LookupBuffers}

-- What a call returns, by its answer, and what its buffers hold at exit.
pub record Returns {Buffers : Type 0} (answer : Told) (after : Buffers) (result : ℕ) (left : Buffers) : Type 0 where
  pub is : result ≡ word_of answer
  pub leaves : left ≡ after

-- `read`: refusals 1 to 7, then 15.
abbrev pub ReadCall : Family → ReadBuffers → ℕ → ReadBuffers → Type 0
ReadCall family lent result left =
    let answer = reading_told (one_rule family lent.rule) in
    Returns answer (record { rule = lent.rule; out = out_after answer lent.out }) result left

-- `write`: refusals 1 to 7, then 16; on success the front of the buffer is filled and the rest kept, and a refusal changes no octet.
abbrev pub WriteCall : Family → WriteBuffers → ℕ → WriteBuffers → Type 0
WriteCall family lent result left =
    let answer = writing_told (writing family lent.value (length lent.buf)) in
    let written = after_writing family lent.value lent.buf in
    Returns answer (record { value = lent.value; buf = written; out = out_after answer lent.out }) result left

-- `compare`: refusals 1 to 7 and 15 of the first rule, then of the second.
abbrev pub CompareCall : Family → CompareBuffers → ℕ → CompareBuffers → Type 0
CompareCall family lent result left =
    let answer = comparison_told (compare_rules family lent.a lent.b) in
    Returns answer (record { a = lent.a; b = lent.b; out = out_after answer lent.out }) result left

-- `feasible`: refusals 9, 1 to 7, 15, 8.
abbrev pub FeasibleCall : Family → Settings → Origin → FeasibleBuffers → ℕ → FeasibleBuffers → Type 0
FeasibleCall family settings origin lent result left =
    let answer = feasibility_told (judgement family (policy_of lent.routes settings) lent.rule origin) in
    Returns answer (record { routes = lent.routes; rule = lent.rule }) result left

-- `actions`: refusal 13.
abbrev pub ActionsCall : ActionsBuffers → ℕ → ActionsBuffers → Type 0
ActionsCall lent result left =
    let answer = actions_told (actions_of lent.communities) in
    Returns answer (record { communities = lent.communities; out = out_after answer lent.out }) result left

-- `announce`: refusals 10, 9, 1 to 7, 15, 13, 8, 11; of these 8 alone changes the table, where the rule was held.
abbrev pub AnnounceCall : Family → Settings → Origin → AnnounceBuffers → ℕ → AnnounceBuffers → Type 0
AnnounceCall family settings origin lent result left =
    let announcement = announcement_of lent.rule origin lent.communities in
    let outcome = announcing family (policy_of lent.routes settings) announcement lent.table in
    let answer = announced_told outcome.answer in
    Returns answer
    (record {
      table = outcome.table;
      routes = lent.routes;
      rule = lent.rule;
      communities = lent.communities;
      out = out_after answer lent.out;
    })
    result left

-- `withdraw`: refusals 10, 1 to 7, 15, 14, none of which changes an octet.
abbrev pub WithdrawCall : Family → WithdrawBuffers → ℕ → WithdrawBuffers → Type 0
WithdrawCall family lent result left =
    let outcome = withdrawing family lent.rule lent.table in
    Returns (withdrawn_told outcome.answer) (record { table = outcome.table; rule = lent.rule }) result left

-- `reach`: refusals 10, 9, 19, 1 to 7 rule by rule, 13, 16, none of which changes an octet or a word.
abbrev pub ReachCall : Family → Settings → Origin → ReachBuffers → ℕ → ReachBuffers → Type 0
ReachCall family settings origin lent result left =
    let reach = reach_of lent.attribute origin lent.communities in
    let applied = reaching family (policy_of lent.routes settings) reach lent.table lent.answers in
    let answer = reached_told applied.answer in
    Returns answer
    (record {
      table = applied.table;
      routes = lent.routes;
      attribute = lent.attribute;
      communities = lent.communities;
      answers = applied.words;
      out = out_after answer lent.out;
    })
    result left

-- `unreach`: refusals 10, 19, 1 to 7 rule by rule, 16, none of which changes an octet or a word.
abbrev pub UnreachCall : Family → UnreachBuffers → ℕ → UnreachBuffers → Type 0
UnreachCall family lent result left =
    let applied = unreaching family lent.attribute lent.table lent.answers in
    let answer = unreached_told applied.answer in
    Returns answer
    (record { table = applied.table; attribute = lent.attribute; answers = applied.words; out = out_after answer lent.out })
    result left

-- `lookup`: refusals 10, 12.
abbrev pub LookupCall : Family → LookupBuffers → ℕ → LookupBuffers → Type 0
LookupCall family lent result left =
    let answer = lookup_told (looking_up family lent.table lent.packet) in
    Returns answer (record { table = lent.table; packet = lent.packet; out = out_after answer lent.out }) result left

-- `first_match`: refusals 10, 12.
abbrev pub FirstMatchCall : Family → LookupBuffers → ℕ → LookupBuffers → Type 0
FirstMatchCall family lent result left =
    let answer = match_place_told (match_place family lent.table lent.packet) in
    Returns answer (record { table = lent.table; packet = lent.packet; out = out_after answer lent.out }) result left
