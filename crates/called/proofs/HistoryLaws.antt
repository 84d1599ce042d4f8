-- **Demand 3 for a caller in C**: what calls in words did to a table, single ones and whole attributes, is a history at the door, with the
-- answers that their words say; so the table holds exactly what is in force by those words, and two such histories that agree on the single
-- calls that they stand for end alike. Assumes nothing.
use mathlib.Core.Path.{◌≡◌, refl, ap, ◌∙◌}
use mathlib.Core.Bool.{cond}
use mathlib.Core.List.{List, [], ◌∷◌}
use Prim.Native.Nat.{ℕ, ◌/◌, ◌%◌, ◌^◌, ◌≤◌}
use native.Mathlib.Omega.{arith}
use lib.Dec.{eqb}
use borrow.Author.Tests.{ne_eqb}
use Rattle.octets.specs.Test.{Each}
use Rattle.rule.specs.declared.Family.{Family}
use Rattle.rule.specs.Family.{Fits}
use Rattle.rule.specs.declared.Refusal.{Refusal}
use Rattle.rule.specs.Refusal.{number_of, place_of, refused_with}
use Rattle.rule.proofs.Near.{Near, number-given, number-listed, refusal-with}
use Rattle.table.specs.Sound.{most_octets}
use Rattle.request.specs.Input.{Announcement, Policy}
use Rattle.flowspec.specs.Announce.{announcing, withdrawing}
use Rattle.flowspec.specs.Told.{announced_told, withdrawn_told}
use Rattle.flowspec.proofs.TableLaws.{announce-kept, withdraw-kept}
use Rattle.update.specs.declared.Reached.{Reached}
use Rattle.update.specs.Singles.{Reach}
use Rattle.update.specs.Apply.{reaching, unreaching, reached_told, unreached_told}
use Rattle.update.proofs.ApplyLaws.{reach-tells, unreach-tells}
use Rattle.history.specs.History.{Call, announcement, withdrawal, Promised, empty_table, Agree, HoldsExactly, EndAlike}
use Rattle.history.specs.Attributes.{Attribute, reach, unreach, end_of_events, EventCanBe, WholePromised, EventPromised, EventsHappened, singles_of, EventsFromEmpty, SameThroughout}
use Rattle.history.proofs.AttributeLaws.{events-hold, events-alike}
use Rattle.calls.specs.Word.{word, word_of}
use Rattle.calls.specs.Buffers.{AnnounceBuffers, WithdrawBuffers, ReachBuffers, UnreachBuffers}
use Rattle.called.specs.History.{Called, WholeCalled, CalledEvent, one, all, answer_in, applied_in, answered_event, answered, Returned, WholeReturned, EventReturned, AllReturned}
use Rattle.calls.proofs.Halves.{low_half, high_half}
use Rattle.calls.proofs.CallLaws.{Tells}
use Rattle.calls.proofs.Places.{not-announced, not-withdrawn}
use Rattle.calls.proofs.AttributePlaces.{not-reached, not-unreached}
use Rattle.std.proofs.Common.{Result, Ok, Err}

-- what a word says that is a refusal's
refusal-said : {A : Type 0} (granted : Result A Refusal) (refusal : Refusal) → Near refusal → (result : ℕ) → result ≡ word (number_of refusal) (place_of refusal)
    → cond (eqb (result % 2 ^ 32) 0) granted (refused_with (result % 2 ^ 32) (result / 2 ^ 32)) ≡ Err refusal
refusal-said granted refusal h result e =
    let number = number_of refusal in
    let place = place_of refusal in
    let listed = number-listed refusal in
    let some : number ≡ 0 → ⊥ = λ z. omega (arith, number-given refusal) in
    rw (e, low_half number place listed h.near, high_half number place listed h.near, ne_eqb number 0 some) (ap (λ r. Err r) (refusal-with refusal))

-- a word and `out` say the answer that they are of
module _ (entry : List ℕ) (result : ℕ) (exit : List ℕ) where
  announced-says : (policy : Policy) (a : Announcement) (c : Result ℕ Refusal) → ((refusal : Refusal) → c ≡ Err refusal → Near refusal)
      → Tells (announced_told c) entry result exit → answer_in (announcement policy a) result exit ≡ c
  announced-says policy a (Ok notes) h p = rw (p.is, p.out)
  announced-says policy a (Err refusal) h p = refusal-said _ refusal (h refusal refl) result p.is

  withdrawn-says : (rule : List ℕ) (c : Result Unit Refusal) → ((refusal : Refusal) → c ≡ Err refusal → Near refusal)
      → result ≡ word_of (withdrawn_told c) → answer_in (withdrawal rule) result exit ≡ c
  withdrawn-says rule (Ok _) h p = rw p
  withdrawn-says rule (Err refusal) h p = refusal-said _ refusal (h refusal refl) result p

  reached-says : (policy : Policy) (r : Reach) (c : Result Reached Refusal) → ((refusal : Refusal) → c ≡ Err refusal → Near refusal)
      → Tells (reached_told c) entry result exit → applied_in (reach policy r) result exit ≡ c
  reached-says policy r (Ok done) h p = rw (p.is, p.out)
  reached-says policy r (Err refusal) h p = refusal-said _ refusal (h refusal refl) result p.is

  unreached-says : (attribute : List ℕ) (c : Result ℕ Refusal) → ((refusal : Refusal) → c ≡ Err refusal → Near refusal)
      → Tells (unreached_told c) entry result exit → applied_in (unreach attribute) result exit ≡ c
  unreached-says attribute (Ok count) h p = rw (p.is, p.out)
  unreached-says attribute (Err refusal) h p = refusal-said _ refusal (h refusal refl) result p.is

module _ (family : Family) where
  -- what a call in words promises is the door's promise, with the answer that its word says
  pub returned-promised : (call : Call) (table : List ℕ) (m : Called) → Returned family call table m
      → Promised family call table (answer_in call m.result m.exit) m.left
  returned-promised (announcement policy a) table m p =
      announce-kept family policy a table (announcing family policy a table) (answer_in (announcement policy a) m.result m.exit) m.left refl
      (announced-says m.entry m.result m.exit policy a (announcing family policy a table).answer (not-announced family policy a table)
      (record { is = p.is; out = ap (λ (b : AnnounceBuffers). b.out) p.leaves }))
      (ap (λ (b : AnnounceBuffers). b.table) p.leaves)
  returned-promised (withdrawal rule) table m p =
      withdraw-kept family rule table (withdrawing family rule table) (answer_in (withdrawal rule) m.result m.exit) m.left refl
      (withdrawn-says m.entry m.result m.exit rule (withdrawing family rule table).answer (not-withdrawn family rule table) p.0.is)
      (ap (λ (b : WithdrawBuffers). b.table) p.0.leaves)

  -- the same of a whole attribute
  pub whole-promised : (attribute : Attribute) (table : List ℕ) (w : WholeCalled) → WholeReturned family attribute table w
      → WholePromised family attribute table w.lent (applied_in attribute w.result w.exit) w.left w.words
  whole-promised (reach policy r) table w p =
      let is : applied_in (reach policy r) w.result w.exit ≡ (reaching family policy r table w.lent).answer
      = reached-says w.entry w.result w.exit policy r _ (not-reached family policy r table w.lent)
      (record { is = p.is; out = ap (λ (b : ReachBuffers). b.out) p.leaves }) in
      record {
        is = is;
        tells = ap reached_told is ∙ reach-tells family policy r table w.lent;
        leaves = ap (λ (b : ReachBuffers). b.table) p.leaves;
        lists = ap (λ (b : ReachBuffers). b.answers) p.leaves;
        keeps = refl;
      }
  whole-promised (unreach attribute) table w p =
      let is : applied_in (unreach attribute) w.result w.exit ≡ (unreaching family attribute table w.lent).answer
      = unreached-says w.entry w.result w.exit attribute _ (not-unreached family attribute table w.lent)
      (record { is = p.is; out = ap (λ (b : UnreachBuffers). b.out) p.leaves }) in
      record {
        is = is;
        tells = ap unreached_told is ∙ unreach-tells family attribute table w.lent;
        leaves = ap (λ (b : UnreachBuffers). b.table) p.leaves;
        lists = ap (λ (b : UnreachBuffers). b.answers) p.leaves;
        keeps = refl;
      }

  event-promised : (e : CalledEvent) (table : List ℕ) → EventReturned family table e → EventPromised family table (answered_event e)
  event-promised (one m) table p = returned-promised m.call table m p
  event-promised (all w) table p = whole-promised w.attribute table w p

  -- **calls in words are a history at the door**
  pub returned-happened : (h : List CalledEvent) (table : List ℕ) → AllReturned family table h → EventsHappened family table (answered h)
  returned-happened [] table p = tt
  returned-happened (one m ∷ h) table p = (event-promised (one m) table p.0, returned-happened h m.left p.1)
  returned-happened (all w ∷ h) table p = (event-promised (all w) table p.0, returned-happened h w.left p.1)

  module _ (n : ℕ) (fits : n ≤ most_octets) where
    from_empty : (h : List CalledEvent) → Each EventCanBe (answered h) → AllReturned family (empty_table n) h → EventsFromEmpty family n (answered h)
    from_empty h given p = record { fits = fits; given = given; happened = returned-happened h (empty_table n) p }

    -- **the table holds exactly what is in force**
    pub returned-holds : (h : List CalledEvent) → Each EventCanBe (answered h) → AllReturned family (empty_table n) h
        → HoldsExactly family n (singles_of family (empty_table n) (answered h)) (end_of_events (empty_table n) (answered h))
    returned-holds h given p = events-hold family n (answered h) (from_empty h given p)

    -- **two histories that agree, with the same routes and setting, end alike**
    pub returned-alike : Fits family → (policy : Policy) (h g : List CalledEvent) → SameThroughout policy (answered h) → SameThroughout policy (answered g) → Each EventCanBe (answered h) → Each EventCanBe (answered g) → AllReturned family (empty_table n) h
        → AllReturned family (empty_table n) g
        → Agree family (singles_of family (empty_table n) (answered h)) (singles_of family (empty_table n) (answered g))
        → EndAlike family (end_of_events (empty_table n) (answered h)) (end_of_events (empty_table n) (answered g))
    returned-alike whole policy h g lent other given also p q agree =
        events-alike family n whole policy (answered h) (answered g) (from_empty h given p) (from_empty g also q) lent other agree
