-- **Which numbers the answer words list**: where a reach is done, 0, 8 or 11 for each of its rules, and where an unreach is, 0 or 14; every other
-- refusal of a single call would have refused the whole attribute. Assumes nothing.
use mathlib.Core.Path.{◌≡◌, refl, ap, ◌∙◌}
use mathlib.Core.Bool.{Bool, true, false}
use mathlib.Core.List.{List, []}
use mathlib.Core.Logic.{inl, inr}
use Prim.Native.Nat.{ℕ, ◌^◌, ◌<◌}
use lib.ListN.{length, take, drop}
use lib.Seq.{take_at}
use Rattle.std.proofs.Common.{Result, Ok, Err}
use Rattle.octets.specs.Test.{Each}
use Rattle.octets.proofs.Cases.{by-test, apart}
use Rattle.octets.proofs.Facts.{Octets}
use Rattle.sorted.specs.History.{announce}
use Rattle.rule.specs.declared.Family.{Family}
use Rattle.rule.specs.declared.Refusal.{Refusal}
use Rattle.rule.specs.Refusal.{told_number, refusal_with}
use Rattle.rule.specs.Reading.{value_in}
use Rattle.spelling.specs.Plain.{plain}
use Rattle.order.specs.Key.{keys_of}
use Rattle.action.specs.Actions.{actions_of}
use Rattle.route.specs.declared.Settings.{Settings}
use Rattle.entry.specs.declared.Head.{Head}
use Rattle.entry.specs.Entry.{Entry, entry_for}
use Rattle.table.specs.Change.{holds, has_room, outcome_of, changed}
use Rattle.table.proofs.CaseLaws.{changed-room, changed-no-room, changed-infeasible, changed-held, changed-not-held}
use Rattle.request.specs.Input.{Policy, policy_of}
use Rattle.request.specs.Judging.{is_feasible}
use Rattle.flowspec.specs.Checks.{Check, AllHold, actions_read}
use Rattle.attribute.specs.Head.{reach_head, unreach_head}
use Rattle.attribute.specs.Rules.{rules_from}
use Rattle.update.specs.declared.Reached.{Reached}
use Rattle.update.specs.declared.Task.TheVariants.{Announce, Withdraw}
use Rattle.update.specs.Singles.{Reach, Singles, announcing_each, withdrawing_each}
use Rattle.update.specs.Checks.{reach_notes, reach_checks, unreach_checks}
use Rattle.update.specs.Apply.{decided, Left, applied_all, refused_whole, reaching, unreaching, reached}
use Rattle.update.specs.Promise.{Reaches, Unreaches}
use Rattle.theorems.specs.AttributeNumbers.{AnnouncedNumber, WithdrawnNumber}
use Rattle.update.specs.Steps.{rule_asks, rule_call}
use Rattle.update.proofs.SinglesLaws.{each-listed, reach_task, announces-are, withdraws-are}
use Rattle.update.proofs.ApplyLaws.{was_granted, were-read}

announced-number : (family : Family) (routes : List ℕ) (head : Head) (settings : Settings) (rule t : List ℕ)
    → AnnouncedNumber (rule_call family routes (Announce head settings) rule t).answer
unfolding rule_asks
announced-number family routes head settings rule t =
    go (entry_for head (plain family (value_in rule))) (is_feasible family (policy_of routes settings) (value_in rule) head.origin)
  where
    go : (e : Entry) (feasible : Bool) → AnnouncedNumber (told_number (outcome_of (changed family t (announce e feasible)).number))
    go e true = by-test (has_room family t e) (λ h. rw (changed-room family t e h) (inl refl)) (λ h. rw (changed-no-room family t e h) (inr (inr refl)))
    go e false = rw (changed-infeasible family t e) (inr (inl refl))

withdrawn-number : (family : Family) (routes rule t : List ℕ) → WithdrawnNumber (rule_call family routes Withdraw rule t).answer
unfolding rule_asks
withdrawn-number family routes rule t =
    let k = keys_of family (plain family (value_in rule)) in
    by-test (holds family t k) (λ h. rw (changed-held family t k h) (inl refl)) (λ h. rw (changed-not-held family t k h) (inr refl))

-- an answer that is no refusal: all checks hold, and the words begin with what the single calls list
record Granted (cs : List Check) (singles : Singles) (count : ℕ) (words : List ℕ) : Type 0 where
  pub hold : AllHold cs
  pub front : take count words ≡ singles.numbers

granted : {A : Type 0} (answer_for : ℕ → Result A Refusal) (cs : List Check) (singles : Singles) (t answers : List ℕ) (left : Left (Result A Refusal)) (count : ℕ)
    → left ≡ decided cs (applied_all answer_for singles answers) (refused_whole t answers)
    → ((refusal : Refusal) → left.answer ≡ Err refusal → ⊥) → ((n : ℕ) → left.answer ≡ answer_for n → n ≡ count)
    → Granted cs singles count left.words
granted {A} answer_for cs singles t answers left count is never only =
    let came = was_granted cs (applied_all answer_for singles answers) (refused_whole t answers) left is
    (λ number place g. never (refusal_with number place) (ap (λ (l : Left (Result A Refusal)). l.answer) g)) in
    let counts = only (length singles.numbers) (ap (λ (l : Left (Result A Refusal)). l.answer) came.1) in
    let rest = drop (length singles.numbers) answers in
    record { hold = came.0; front = ap (λ (l : Left (Result A Refusal)). take count l.words) came.1 ∙ take_at singles.numbers rest count counts }

-- reaches that are answered alike have as many rules
one-count : (count n notes also : ℕ) → ◌≡◌ {A = Result Reached Refusal} (Ok (reached count notes)) (Ok (reached n also)) → n ≡ count
one-count count n notes also e =
    let same : reached n also ≡ reached count notes = cc in
    ap (λ (r : Reached). r.count) same

module _ (family : Family) (t : List ℕ) where
  -- **the numbers of a reach**
  pub announces-listed : (policy : Policy) (reach : Reach) (answers : List ℕ) → Octets reach.attribute → reach.origin.originator < 2 ^ 32
      → AllHold (reach_checks family policy reach t answers) → Each AnnouncedNumber (announcing_each family policy reach t).numbers
  announces-listed policy reach answers o small hold =
      rw (announces-are family t hold.0 policy reach (actions_read (actions_of reach.communities)) hold.1.0
      (were-read (actions_of reach.communities) hold.1.1.1.1.0) small o)
      (each-listed AnnouncedNumber (rule_call family policy.routes (reach_task policy reach (actions_read (actions_of reach.communities))))
      (announced-number family policy.routes _ policy.settings) (rules_from family reach.attribute reach_head).items t)

  -- **the numbers of an unreach**
  pub withdraws-listed : (attribute answers : List ℕ) → Octets attribute → AllHold (unreach_checks family attribute t answers)
      → Each WithdrawnNumber (withdrawing_each family attribute t).numbers
  withdraws-listed attribute answers o hold =
      rw (withdraws-are family t hold.0 [] attribute o)
      (each-listed WithdrawnNumber (rule_call family [] Withdraw) (withdrawn-number family []) (rules_from family attribute unreach_head).items t)

  module _ (answers exit words : List ℕ) (kept : List (List ℕ)) (count : ℕ) where
    -- the same of the words at the front of the buffer, by the promises
    pub reach-listed : (policy : Policy) (reach : Reach) (notes : ℕ) → Octets reach.attribute → reach.origin.originator < 2 ^ 32
        → Reaches family policy reach t answers (Ok (reached count notes)) exit words kept → Each AnnouncedNumber (take count words)
    unfolding reaching
    reach-listed policy reach notes o small p =
        let g = granted (λ n. Ok (reached n (reach_notes reach))) (reach_checks family policy reach t answers) (announcing_each family policy reach t) t answers
        (reaching family policy reach t answers) count refl
        (λ refusal e. let z : Ok (reached count notes) ≡ Err refusal = p.is ∙ e in apart (cc))
        (λ n e. one-count count n notes (reach_notes reach) (p.is ∙ e)) in
        rw (p.lists, g.front) (announces-listed policy reach answers o small g.hold)

    pub unreach-listed : (attribute : List ℕ) → Octets attribute → Unreaches family attribute t answers (Ok count) exit words kept
        → Each WithdrawnNumber (take count words)
    unfolding unreaching
    unreach-listed attribute o p =
        let g = granted (λ n. Ok n) (unreach_checks family attribute t answers) (withdrawing_each family attribute t) t answers
        (unreaching family attribute t answers) count refl
        (λ refusal e. let z : Ok count ≡ Err refusal = p.is ∙ e in apart (cc))
        (λ n e. let z : Ok count ≡ Ok n = p.is ∙ e in cc) in
        rw (p.lists, g.front) (withdraws-listed attribute answers o g.hold)
