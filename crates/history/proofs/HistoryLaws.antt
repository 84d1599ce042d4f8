-- **Demand 3** (`HoldsExactly`): from an all-zero buffer of at most 65,536 octets that only these calls write, after any history, by whatever
-- routes each call was judged, the table holds exactly the entries that each rule's last counted call left in force, once, in precedence
-- order; so that two histories which leave the same in force end in equal octets. A call that is answered 11 changes nothing and does not
-- count, so that nothing is asked of those.
use mathlib.Core.Path.{◌≡◌, refl, sym, ap₂, subst, ◌∙◌}
use mathlib.Core.Bool.{Bool, true, false}
use mathlib.Core.List.{List, [], ◌∷◌}
use Prim.Native.Nat.{ℕ, ◌^◌, ◌<◌, ◌≤◌}
use native.Mathlib.Nat.{sub-zero}
use native.Mathlib.Omega.{arith}
use lib.ListN.{length, length-replicate}
use Rattle.std.proofs.Common.{Result, Ok, Err}
use Rattle.octets.specs.Test.{every}
use Rattle.octets.proofs.Cases.{by-test}
use Rattle.octets.proofs.Facts.{Octets}
use Rattle.sorted.specs.History.{Op, announce, withdraw, apply, run, Ran}
use Rattle.sorted.specs.History as S
use Rattle.sorted.proofs.HistoryLaws.{Brings, run_holds, run_agree}
use Rattle.rule.specs.declared.Family.{Family}
use Rattle.rule.specs.declared.Refusal.{Refusal}
use Rattle.rule.specs.declared.Span.{Span}
use Rattle.spelling.specs.Plain.{plain}
use Rattle.rule.specs.Refusal.{told_number}
use Rattle.rule.specs.Reading.{value_of, one_rule}
use Rattle.rule.proofs.ReadingLaws.{one-read}
use Rattle.action.proofs.PossibleLaws.{read-possible}
use Rattle.order.specs.Key.{RuleKey, keys_of, key_order}
use Rattle.order.proofs.KeyLaws.{key-order}
use Rattle.entry.specs.Entry.{Entry, entry_key, possible}
use Rattle.entry.proofs.ValueLaws.{make-possible}
use Rattle.table.specs.Walk.{entries}
use Rattle.table.specs.Sound.{cost, table_of, records_of, Encodes, most_octets}
use Rattle.table.specs.Change.{holds, has_room, outcome_of, changed}
use Rattle.table.proofs.CaseLaws.{changed-room, changed-no-room, changed-infeasible, changed-held, changed-not-held}
use Rattle.table.proofs.LeaveLaws.{changed-number, changed-encodes, changed-long}
use Rattle.table.proofs.SoundLaws.{encodes-sound, encodes-entries}
use Rattle.table.proofs.CallLaws.{plain-held}
use Rattle.request.specs.declared.Request.{Request}
use Rattle.request.specs.Input.{Announcement, Policy}
use Rattle.request.specs.Request.{announced_entry, request_of}
use Rattle.flowspec.specs.Announce.{announce_operation, withdraw_operation, announced_by, announcing, withdrawn_by, withdrawing}
use Rattle.flowspec.proofs.TableLaws.{announced-told, withdrawn-told}
use Rattle.history.specs.History.{Call, announcement, withdrawal, AnswerTo, answer_told, Made, CanBe, EachCanBe, operation_of, Promised, Happened, operation_made, number_of, in_force_after, end_of, empty_table, FromEmpty, HoldsExactly}
use Rattle.flowspec.specs.Told.{announced_told, withdrawn_told}
use Rattle.request.proofs.RequestLaws.{octets-value, asked-from}

-- a number and octets are what a call leaves of entries: the same answer, and the entries' encoding in a buffer of the same length
record Same (family : Family) (n number : ℕ) (t : List ℕ) (a : S.Outcome Entry) : Type 0 where
  pub answers : number ≡ a.answer
  pub encodes : Encodes family t a.table
  pub long : length t ≡ n

-- what is asked of a table is done to its entries
same-changed : (family : Family) (t : List ℕ) (es : List Entry) → Encodes family t es → (op : Op RuleKey Entry) → Brings (possible family) op
    → (number : ℕ) → number ≡ (changed family t op).number
    → Same family (length t) number (changed family t op).table (apply key_order (entry_key family) cost (length t) op es)
same-changed family t es c op could number is =
    record {
      answers = is ∙ changed-number family t es c op;
      encodes = changed-encodes family t es c op could;
      long = changed-long family t es c op;
    }

-- an announcement's outcome tells the number of its change
announce-number : (family : Family) (t : List ℕ) (e : Entry) (feasible : Bool)
    → told_number (outcome_of (changed family t (announce e feasible)).number) ≡ (changed family t (announce e feasible)).number
announce-number family t e true = by-test (has_room family t e) (λ h. rw (changed-room family t e h)) (λ h. rw (changed-no-room family t e h))
announce-number family t e false = rw (changed-infeasible family t e)

-- and so does a withdrawal's
withdraw-number : (family : Family) (t : List ℕ) (k : RuleKey)
    → told_number (outcome_of (changed family t (withdraw k)).number) ≡ (changed family t (withdraw k)).number
withdraw-number family t k = by-test (holds family t k) (λ h. rw (changed-held family t k h)) (λ h. rw (changed-not-held family t k h))

-- what is asked to be announced could be
abbrev pub Could : Family → Announcement → Result Request Refusal → Type 0
Could family a (Err refusal) = Unit {0}
Could family a (Ok asked) = possible family (announced_entry family a asked.start asked.size asked.actions) ≡ true

pub asked-could : (family : Family) (policy : Policy) (a : Announcement) → Octets a.rule → a.origin.originator < 2 ^ 32 → Could family a (request_of family policy a)
asked-could family policy a o small =
    go (request_of family policy a) refl
  where
    go : (r : Result Request Refusal) → request_of family policy a ≡ r → Could family a r
    go (Err refusal) e = tt
    go (Ok asked) e =
        let from = asked-from family policy a asked.start asked.size asked.actions asked.feasible e in
        let octets = octets-value a.rule asked.start asked.size o in
        make-possible family (announced_entry family a asked.start asked.size asked.actions) small
        (read-possible a.communities asked.actions from.acts)
        (plain-held family (value_of a.rule asked.start asked.size) octets (one-read family a.rule asked.start asked.size from.read).accepted)

-- one call
module _ (family : Family) (t : List ℕ) (es : List Entry) (c : Encodes family t es) where
  same-announcing : (policy : Policy) (a : Announcement) → Octets a.rule → a.origin.originator < 2 ^ 32
      → Same family (length t) (announced_told (announcing family policy a t).answer).number (announcing family policy a t).table
      (apply key_order (entry_key family) cost (length t) (operation_of family (announcement policy a)) es)
  unfolding announcing
  same-announcing policy a o small =
      rw (encodes-sound family t es c) (go (request_of family policy a) (asked-could family policy a o small))
    where
      go : (r : Result Request Refusal) → Could family a r
          → Same family (length t) (announced_told (announced_by family a t r).answer).number (announced_by family a t r).table
          (apply key_order (entry_key family) cost (length t) (announce_operation family a r) es)
      go (Err refusal) ok = record { answers = refl; encodes = c; long = refl }
      go (Ok asked) ok =
          let e = announced_entry family a asked.start asked.size asked.actions in
          same-changed family t es c (announce e asked.feasible) ok _ (announced-told asked.actions _ ∙ announce-number family t e asked.feasible)

  same-withdrawing : (rule : List ℕ)
      → Same family (length t) (withdrawn_told (withdrawing family rule t).answer).number (withdrawing family rule t).table
      (apply key_order (entry_key family) cost (length t) (operation_of family (withdrawal rule)) es)
  unfolding withdrawing
  same-withdrawing rule = rw (encodes-sound family t es c) (go (one_rule family rule))
    where
      go : (r : Result Span Refusal)
          → Same family (length t) (withdrawn_told (withdrawn_by family t rule r).answer).number (withdrawn_by family t rule r).table
          (apply key_order (entry_key family) cost (length t) (withdraw_operation family rule r) es)
      go (Err refusal) = record { answers = refl; encodes = c; long = refl }
      go (Ok read) =
          let k = keys_of family (plain family (value_of rule read.start read.size)) in
          same-changed family t es c (withdraw k) tt _ (withdrawn-told _ ∙ withdraw-number family t k)

  same-made : (call : Call) (answer : AnswerTo call) (left : List ℕ) → CanBe call → Promised family call t answer left
      → Same family (length t) (answer_told call answer).number left (apply key_order (entry_key family) cost (length t) (operation_of family call) es)
  same-made (announcement policy a) answer left can p = rw (p.is, p.leaves) (same-announcing policy a can.0 can.1)
  same-made (withdrawal rule) answer left can p = rw (p.is, p.leaves) (same-withdrawing rule)

-- any history: the table at its end encodes the entries that the same calls leave on lists, and each call was answered as it is there
module _ (family : Family) where
  step : (n : ℕ) (m : Made) (t : List ℕ) (es : List Entry) → Encodes family t es → length t ≡ n → CanBe m.call
      → Promised family m.call t m.answer m.left
      → Same family n (number_of m) m.left (apply key_order (entry_key family) cost n (operation_made family m) es)
  step n m t es c long can made =
      subst
      (λ (size : ℕ). Same family size (number_of m) m.left (apply key_order (entry_key family) cost size (operation_made family m) es))
      long
      (same-made family t es c m.call m.answer m.left can made)

  record Follows (n : ℕ) (h : List Made) (t : List ℕ) (es : List Entry) : Type 0 where
    pub encodes : Encodes family (end_of t h) (run key_order (entry_key family) cost n (operation_made family) h es)
    pub long : length (end_of t h) ≡ n
    pub ran : Ran key_order (entry_key family) cost n (operation_made family) number_of h es

  follows : (n : ℕ) (h : List Made) (t : List ℕ) (es : List Entry) → Encodes family t es → length t ≡ n → EachCanBe h → Happened family t h
      → Follows n h t es
  follows n [] t es c long can made = record { encodes = c; long = long; ran = tt }
  follows n (m ∷ h) t es c long can made =
      let same = step n m t es c long can.0 made.0 in
      let rest = follows n h m.left (apply key_order (entry_key family) cost n (operation_made family m) es).table same.encodes same.long can.1 made.1 in
      record { encodes = rest.encodes; long = rest.long; ran = (same.answers, rest.ran) }

-- the empty table is the encoding of no entries
long-empty : (n : ℕ) → length (empty_table n) ≡ n
long-empty n = length-replicate {A = ℕ} n 0

empty-encodes : (family : Family) (n : ℕ) → n ≤ most_octets → Encodes family (empty_table n) []
unfolding table_of records_of every
empty-encodes family n h =
    let long = long-empty n in
    record { short = omega arith; room = omega arith; each = refl; rising = tt; is = rw (long, sub-zero n) }

module _ (family : Family) (n : ℕ) where
  -- the table after a history that began at an empty table
  abbrev pub after : List Made → List ℕ
  after h = end_of (empty_table n) h

  module _ (h : List Made) (made : FromEmpty family n h) where
    abbrev left : List Entry
    left = run key_order (entry_key family) cost n (operation_made family) h []

    followed : Follows family n h (empty_table n) []
    followed = follows family n h (empty_table n) [] (empty-encodes family n made.fits) (long-empty n) made.given made.happened

    entries-left : entries (after h) ≡ left
    entries-left = encodes-entries family (after h) left followed.encodes

    -- **the table holds exactly what is in force**
    pub history-holds : HoldsExactly family n h (after h)
    history-holds =
        record {
          exactly = λ e. rw entries-left (run_holds key_order (entry_key family) cost n (operation_made family) number_of key-order h followed.ran e);
          sound = rw entries-left followed.encodes;
          sized = followed.long;
        }

  -- **two histories** that leave the same in force for every rule end in equal octets
  pub histories-agree : (h g : List Made) → FromEmpty family n h → FromEmpty family n g
      → ((k : RuleKey) → in_force_after family h k ≡ in_force_after family g k) → after h ≡ after g
  histories-agree h g made also agree =
      let first = followed h made in
      let second = followed g also in
      let same = run_agree key_order (entry_key family) cost n (operation_made family) number_of key-order h g first.ran second.ran agree in
      first.encodes.is ∙ ap₂ table_of (first.long ∙ sym second.long) same ∙ sym second.encodes.is
