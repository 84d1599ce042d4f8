-- **The premises of demand 3 for a caller in C are met.** What each call ensures is what a history asks of it, whatever `out` and answer words
-- it was lent; every history at the door is one of calls in words; so whatever is asked of whatever table has one, of exactly this, with the
-- door's answers, and demand 3 holds of it. Assumes nothing.
use mathlib.Core.Path.{◌≡◌, refl, sym, ap, subst, ◌∙◌}
use mathlib.Core.List.{List, [], ◌∷◌, map}
use Prim.Native.Nat.{ℕ, ◌≤◌}
use Rattle.octets.specs.Test.{Each}
use Rattle.rule.specs.declared.Family.{Family}
use Rattle.rule.specs.declared.Refusal.{Refusal}
use Rattle.route.specs.declared.Origin.{Origin}
use Rattle.route.specs.declared.Settings.{Settings}
use Rattle.table.specs.Sound.{most_octets}
use Rattle.request.specs.Input.{announcement_of, policy_of}
use Rattle.flowspec.specs.Told.{Told, announced_told, withdrawn_told}
use Rattle.update.specs.Singles.{reach_of}
use Rattle.update.specs.Apply.{reached_told, unreached_told}
use Rattle.history.specs.History.{Call, announcement, withdrawal, AnswerTo, answer_told, Promised, empty_table, HoldsExactly}
use Rattle.history.specs.Attributes.{Attribute, reach, unreach, AnswerToAll, whole_told, Event, single, whole, Asked, asked_by, end_of_events, AskedCanBe, EventCanBe, WholePromised, EventsHappened, events_of, singles_of}
use Rattle.history.proofs.AttributesHappen.{events-happen, of-these-asks, events-happen-from-empty, events-happen-only}
use Rattle.calls.specs.Word.{word_of, out_after}
use Rattle.calls.specs.Buffers.{AnnounceBuffers, WithdrawBuffers, ReachBuffers, UnreachBuffers}
use Rattle.calls.specs.Promise.{AnnounceCall, WithdrawCall, ReachCall, UnreachCall}
use Rattle.calls.proofs.CallLaws.{Tells, with_out, reaches, unreaches, announces, withdraws}
use Rattle.called.specs.History.{answered, Returned, WholeReturned, AllReturned, out_lent, as_called, called_of}
use Rattle.called.proofs.HistoryLaws.{returned-happened, returned-holds}
use Rattle.std.proofs.Common.{Result, Ok, Err}

-- ---- what a call ensures is what a history asks of it ----

module _ (family : Family) (settings : Settings) (origin : Origin) where
  pub announce-returned : (lent : AnnounceBuffers) (result : ℕ) (left : AnnounceBuffers) → AnnounceCall family settings origin lent result left
      → let call = announcement (policy_of lent.routes settings) (announcement_of lent.rule origin lent.communities) in
      Returned family call lent.table (record { call = call; entry = lent.out; result = result; exit = left.out; left = left.table })
  announce-returned lent result left p =
      record { is = p.is; leaves = ap (λ (b : AnnounceBuffers). announces b.table lent.routes lent.rule lent.communities b.out) p.leaves }

  pub reach-returned : (lent : ReachBuffers) (result : ℕ) (left : ReachBuffers) → ReachCall family settings origin lent result left
      → let attribute = reach (policy_of lent.routes settings) (reach_of lent.attribute origin lent.communities) in
      WholeReturned family attribute lent.table
      (record {
        attribute = attribute;
        lent = lent.answers;
        entry = lent.out;
        result = result;
        exit = left.out;
        words = left.answers;
        left = left.table;
      })
  reach-returned lent result left p =
      record {
        is = p.is;
        leaves = ap (λ (b : ReachBuffers). reaches b.table lent.routes lent.attribute lent.communities b.answers b.out) p.leaves;
      }

module _ (family : Family) where
  pub withdraw-returned : (lent : WithdrawBuffers) (result : ℕ) (left : WithdrawBuffers) → WithdrawCall family lent result left
      → Returned family (withdrawal lent.rule) lent.table
      (record { call = withdrawal lent.rule; entry = []; result = result; exit = []; left = left.table })
  withdraw-returned lent result left p =
      (record { is = p.is; leaves = ap (λ (b : WithdrawBuffers). withdraws b.table lent.rule) p.leaves }, refl)

  pub unreach-returned : (lent : UnreachBuffers) (result : ℕ) (left : UnreachBuffers) → UnreachCall family lent result left
      → WholeReturned family (unreach lent.attribute) lent.table
      (record {
        attribute = unreach lent.attribute;
        lent = lent.answers;
        entry = lent.out;
        result = result;
        exit = left.out;
        words = left.answers;
        left = left.table;
      })
  unreach-returned lent result left p =
      record {
        is = p.is;
        leaves = ap (λ (b : UnreachBuffers). unreaches b.table lent.attribute b.answers b.out) p.leaves;
      }

-- ---- a history at the door is one of calls in words ----

-- the word of an answer and `out` after it are what is promised of this answer
told-tells : {A : Type 0} (tells : A → Told) (a b : A) → a ≡ b → (out : List ℕ) → Tells (tells b) out (word_of (tells a)) (out_after (tells a) out)
told-tells {A} tells a b e out = record { is = ap (λ (x : A). word_of (tells x)) e; out = ap (λ (x : A). out_after (tells x) out) e }

-- a withdrawal has no value
no-values : (answer : Result Unit Refusal) → out_after (withdrawn_told answer) [] ≡ []
no-values (Ok _) = refl
no-values (Err refusal) = refl

module _ (family : Family) where
  -- what is promised at the door is what a call in words returns, with the answer's word
  promised-returned : (out : List ℕ) (call : Call) (table : List ℕ) (answer : AnswerTo call) (left : List ℕ) → Promised family call table answer left
      → let told = answer_told call answer in
      let lent = out_lent call out in
      Returned family call table (record { call = call; entry = lent; result = word_of told; exit = out_after told lent; left = left })
  promised-returned out (announcement policy a) table answer left p =
      rw p.leaves (with_out (announces _ _ _ _) (told-tells announced_told answer _ p.is out))
  promised-returned out (withdrawal rule) table answer left p = (
    record {
      is = ap (λ (c : Result Unit Refusal). word_of (withdrawn_told c)) p.is;
      leaves = ap (λ (t : List ℕ). withdraws t rule) p.leaves;
    },
    no-values answer,
  )

  module _ (out : List ℕ) where
    whole-returned : (attribute : Attribute) (table lent : List ℕ) (answer : AnswerToAll attribute) (left words : List ℕ)
        → WholePromised family attribute table lent answer left words
        → WholeReturned family attribute table
        (record {
          attribute = attribute;
          lent = lent;
          entry = out;
          result = word_of (whole_told attribute answer);
          exit = out_after (whole_told attribute answer) out;
          words = words;
          left = left;
        })
    whole-returned (reach policy r) table lent answer left words p =
        rw (p.leaves, p.lists) (with_out (reaches _ _ _ _ _) (told-tells reached_told answer _ p.is out))
    whole-returned (unreach attribute) table lent answer left words p =
        rw (p.leaves, p.lists) (with_out (unreaches _ _ _) (told-tells unreached_told answer _ p.is out))

    -- **a history at the door is one of calls in words**
    pub happened-returned : (es : List Event) (table : List ℕ) → EventsHappened family table es → AllReturned family table (map (as_called out) es)
    happened-returned [] table p = tt
    happened-returned (single m ∷ es) table p =
        (promised-returned out m.call table m.answer m.left p.0, happened-returned es m.left p.1)
    happened-returned (whole w ∷ es) table p =
        (whole-returned w.attribute table w.lent w.answer w.left w.words p.0, happened-returned es w.left p.1)

    asked-alike : (es : List Event) → map asked_by (answered (map (as_called out) es)) ≡ map asked_by es
    asked-alike [] = refl
    asked-alike (single m ∷ es) = ap (λ (l : List Asked). asked_by (single m) ∷ l) (asked-alike es)
    asked-alike (whole w ∷ es) = ap (λ (l : List Asked). asked_by (whole w) ∷ l) (asked-alike es)

    -- **whatever is asked in words has a history**, of exactly this
    pub returned-happens : (asks : List Asked) (table : List ℕ) → AllReturned family table (called_of family out table asks)
    returned-happens asks table = happened-returned (events_of family table asks) table (events-happen family asks table)

    pub returned-asks : (asks : List Asked) (table : List ℕ) → map asked_by (answered (called_of family out table asks)) ≡ asks
    returned-asks asks table = asked-alike (events_of family table asks) ∙ of-these-asks family asks table

    -- with the answers that are given at the door
    pub returned-as-done : (asks : List Asked) (table : List ℕ) → answered (called_of family out table asks) ≡ events_of family table asks
    returned-as-done asks table =
        events-happen-only family (answered (called_of family out table asks)) table
        (returned-happened family (called_of family out table asks) table (returned-happens asks table))
        ∙ ap (λ (l : List Asked). events_of family table l) (returned-asks asks table)

    -- **from every empty table**, and demand 3 holds of it
    module _ (n : ℕ) (fits : n ≤ most_octets) (asks : List Asked) (can : Each AskedCanBe asks) where
      pub returned-given : Each EventCanBe (answered (called_of family out (empty_table n) asks))
      returned-given =
          subst (Each EventCanBe) (sym (returned-as-done asks (empty_table n))) (events-happen-from-empty family n asks fits can).given

      pub asked-holds : HoldsExactly family n (singles_of family (empty_table n) (answered (called_of family out (empty_table n) asks)))
          (end_of_events (empty_table n) (answered (called_of family out (empty_table n) asks)))
      asked-holds = returned-holds family n fits (called_of family out (empty_table n) asks) returned-given (returned-happens asks (empty_table n))
