-- **The premises of demand 3 are met.** What each call promises is what a history asks of it, and what it is lent is what a history says it
-- is given; and whatever calls are made on whatever table, they have a history, which is the only one. Assumes nothing.
use mathlib.Core.Path.{◌≡◌, refl, ap, ap₂, subst, ◌∙◌}
use mathlib.Core.List.{List, [], ◌∷◌, ◌++◌, map}
use Prim.Native.Nat.{ℕ, ◌^◌, ◌<◌, ◌≤◌}
use Rattle.std.proofs.Common.{Result}
use Rattle.octets.specs.Test.{Each}
use Rattle.octets.proofs.Facts.{Octets}
use Rattle.rule.specs.declared.Family.{Family}
use Rattle.rule.specs.declared.Refusal.{Refusal}
use Rattle.table.specs.Sound.{most_octets}
use Rattle.request.specs.Input.{Announcement, Policy}
use Rattle.flowspec.specs.Announce.{announcing, withdrawing}
use Rattle.flowspec.specs.Promise.{Announces, Withdraws}
use Rattle.history.specs.History.{Call, announcement, withdrawal, AnswerTo, Made, CanBe, EachCanBe, end_of, Promised, Happened, outcome_of, made_on, history_of, empty_table, FromEmpty}
use Rattle.flowspec.proofs.TableLaws.{announce-kept, withdraw-kept}

-- what a call is lent by its types is what it can be given
pub announcement-given : (policy : Policy) (a : Announcement) → Octets a.rule → a.origin.originator < 2 ^ 32 → CanBe (announcement policy a)
announcement-given policy a o small = (o, small)

pub withdrawal-given : (rule : List ℕ) → Octets rule → CanBe (withdrawal rule)
withdrawal-given rule o = tt

-- one history behind another
pub end-append : (table : List ℕ) (h g : List Made) → end_of table (h ++ g) ≡ end_of (end_of table h) g
end-append table [] g = refl
end-append table (m ∷ h) g = end-append m.left h g

pub given-append : (h g : List Made) → EachCanBe h → EachCanBe g → EachCanBe (h ++ g)
given-append [] g can also = also
given-append (m ∷ h) g can also = (can.0, given-append h g can.1 also)

module _ (family : Family) where
  pub happened-append : (h g : List Made) (table : List ℕ) → Happened family table h → Happened family (end_of table h) g
      → Happened family table (h ++ g)
  happened-append [] g table made also = also
  happened-append (m ∷ h) g table made also = (made.0, happened-append h g m.left made.1 also)

  -- what a call promises is what a history asks of it
  pub announces-promised : (policy : Policy) (a : Announcement) (table : List ℕ) (answer : Result ℕ Refusal) (left : List ℕ) (kept : List (List ℕ))
      → Announces family policy a table answer left kept → Promised family (announcement policy a) table answer left
  announces-promised policy a table answer left kept p = subst (λ k. Announces family policy a table answer left k) p.keeps p

  pub withdraws-promised : (rule table : List ℕ) (answer : Result Unit Refusal) (left : List ℕ) (kept : List (List ℕ))
      → Withdraws family rule table answer left kept → Promised family (withdrawal rule) table answer left
  withdraws-promised rule table answer left kept p = subst (λ k. Withdraws family rule table answer left k) p.keeps p

  -- a call that was made keeps its promise
  pub made-promised : (call : Call) (table : List ℕ) → Promised family call table (outcome_of family call table).answer (outcome_of family call table).table
  made-promised (announcement policy a) table = announce-kept family policy a table (announcing family policy a table) _ _ refl refl refl
  made-promised (withdrawal rule) table = withdraw-kept family rule table (withdrawing family rule table) _ _ refl refl refl

  -- **every list of calls has a history**, of exactly these calls
  pub happens : (calls : List Call) (table : List ℕ) → Happened family table (history_of family table calls)
  happens [] table = tt
  happens (call ∷ calls) table = (made-promised call table, happens calls (outcome_of family call table).table)

  pub of-these-calls : (calls : List Call) (table : List ℕ) → map (λ (m : Made). m.call) (history_of family table calls) ≡ calls
  of-these-calls [] table = refl
  of-these-calls (call ∷ calls) table = ap (λ (l : List Call). call ∷ l) (of-these-calls calls (outcome_of family call table).table)

  pub each-given : (calls : List Call) (table : List ℕ) → Each CanBe calls → EachCanBe (history_of family table calls)
  each-given [] table can = tt
  each-given (call ∷ calls) table can = (can.0, each-given calls (outcome_of family call table).table can.1)

  -- **from every empty table**
  pub happens-from-empty : (n : ℕ) (calls : List Call) → n ≤ most_octets → Each CanBe calls → FromEmpty family n (history_of family (empty_table n) calls)
  happens-from-empty n calls fits can =
      record { fits = fits; given = each-given calls (empty_table n) can; happened = happens calls (empty_table n) }

  -- **and no other history has these calls**
  promised-only : (call : Call) (table : List ℕ) (answer : AnswerTo call) (left : List ℕ) → Promised family call table answer left
      → (answer ≡ (outcome_of family call table).answer) × (left ≡ (outcome_of family call table).table)
  promised-only (announcement policy a) table answer left p = (p.is, p.leaves)
  promised-only (withdrawal rule) table answer left p = (p.is, p.leaves)

  pub made-only : (m : Made) (table : List ℕ) → Promised family m.call table m.answer m.left → m ≡ made_on family m.call table
  made-only m table p =
      let one = promised-only m.call table m.answer m.left p in
      ap₂ (λ (a : AnswerTo m.call) (l : List ℕ). record { call = m.call; answer = a; left = l }) one.0 one.1

  pub happens-only : (h : List Made) (table : List ℕ) → Happened family table h → h ≡ history_of family table (map (λ (m : Made). m.call) h)
  happens-only [] table made = refl
  happens-only (m ∷ h) table made =
      let first = made-only m table made.0 in
      ap₂ (λ (x : Made) (l : List Made). x ∷ l) first
      (happens-only h m.left made.1 ∙ ap (λ (x : Made). history_of family x.left (map (λ (m : Made). m.call) h)) first)
