-- **The premises of demand 3 with attributes are met**, as Happens.antt shows it of single calls: what a call with a whole attribute promises
-- is what a history asks of it, and what it is lent is what a history says it is given; and whatever is asked of whatever table, single
-- calls and whole attributes, has a history, which is the only one. Assumes nothing.
use mathlib.Core.Path.{◌≡◌, refl, sym, ap, ap₂, subst, ◌∙◌}
use mathlib.Core.List.{List, [], ◌∷◌, map}
use Prim.Native.Nat.{ℕ, ◌^◌, ◌<◌, ◌≤◌}
use Rattle.std.proofs.Common.{Result}
use Rattle.octets.specs.Test.{Each}
use Rattle.octets.proofs.Facts.{Octets}
use Rattle.rule.specs.declared.Family.{Family}
use Rattle.rule.specs.declared.Refusal.{Refusal}
use Rattle.table.specs.Sound.{most_octets}
use Rattle.request.specs.Input.{Policy}
use Rattle.update.specs.declared.Reached.{Reached}
use Rattle.update.specs.Singles.{Reach}
use Rattle.update.specs.Apply.{Left}
use Rattle.update.specs.Promise.{Reaches, Unreaches}
use Rattle.update.proofs.ApplyLaws.{reach-tells, unreach-tells}
use Rattle.history.specs.History.{empty_table}
use Rattle.history.specs.Attributes.{Attribute, reach, unreach, AnswerToAll, Event, single, whole, Asked, ask_single, ask_whole, asked_by, left_by, AttributeCanBe, AskedCanBe, EventCanBe, WholePromised, EventPromised, EventsHappened, left_on, event_on, events_of, EventsFromEmpty}
use Rattle.history.proofs.Happens.{made-promised, made-only}

-- what a call is lent by its types is what it can be given
pub reach-given : (policy : Policy) (r : Reach) → Octets r.attribute → r.origin.originator < 2 ^ 32 → AttributeCanBe (reach policy r)
reach-given policy r o small = (o, small)

pub unreach-given : (attribute : List ℕ) → Octets attribute → AttributeCanBe (unreach attribute)
unreach-given attribute o = tt

module _ (family : Family) where
  -- what a call promises is what a history asks of it
  pub reaches-promised : (policy : Policy) (r : Reach) (table lent : List ℕ) (answer : Result Reached Refusal) (left words : List ℕ) (kept : List (List ℕ))
      → Reaches family policy r table lent answer left words kept → WholePromised family (reach policy r) table lent answer left words
  reaches-promised policy r table lent answer left words kept p = subst (λ k. Reaches family policy r table lent answer left words k) p.keeps p

  pub unreaches-promised : (attribute table lent : List ℕ) (answer : Result ℕ Refusal) (left words : List ℕ) (kept : List (List ℕ))
      → Unreaches family attribute table lent answer left words kept → WholePromised family (unreach attribute) table lent answer left words
  unreaches-promised attribute table lent answer left words kept p = subst (λ k. Unreaches family attribute table lent answer left words k) p.keeps p

  -- a call that left this keeps its promise
  pub left-promised : (attribute : Attribute) (table lent : List ℕ) (left : Left (AnswerToAll attribute)) → left_on family attribute table lent ≡ left
      → WholePromised family attribute table lent left.answer left.table left.words
  left-promised (reach policy r) table lent left e =
      rw (← e) (record { is = refl; tells = reach-tells family policy r table lent; leaves = refl; lists = refl; keeps = refl })
  left-promised (unreach attribute) table lent left e =
      rw (← e) (record { is = refl; tells = unreach-tells family attribute table lent; leaves = refl; lists = refl; keeps = refl })

  asked-promised : (ask : Asked) (table : List ℕ) → EventPromised family table (event_on family ask table)
  asked-promised (ask_single call) table = made-promised family call table
  asked-promised (ask_whole attribute lent) table = left-promised attribute table lent (left_on family attribute table lent) refl

  -- **whatever is asked has a history**, of exactly this
  pub events-happen : (asks : List Asked) (table : List ℕ) → EventsHappened family table (events_of family table asks)
  events-happen [] table = tt
  events-happen (ask ∷ asks) table = (asked-promised ask table, events-happen asks (left_by (event_on family ask table)))

  asked-back : (ask : Asked) (table : List ℕ) → asked_by (event_on family ask table) ≡ ask
  asked-back (ask_single call) table = refl
  asked-back (ask_whole attribute lent) table = refl

  pub of-these-asks : (asks : List Asked) (table : List ℕ) → map asked_by (events_of family table asks) ≡ asks
  of-these-asks [] table = refl
  of-these-asks (ask ∷ asks) table =
      ap₂ (λ (x : Asked) (l : List Asked). x ∷ l) (asked-back ask table) (of-these-asks asks (left_by (event_on family ask table)))

  each-asked : (asks : List Asked) (table : List ℕ) → Each AskedCanBe asks → Each EventCanBe (events_of family table asks)
  each-asked [] table can = tt
  each-asked (ask ∷ asks) table can =
      (subst AskedCanBe (sym (asked-back ask table)) can.0, each-asked asks (left_by (event_on family ask table)) can.1)

  -- **from every empty table**
  pub events-happen-from-empty : (n : ℕ) (asks : List Asked) → n ≤ most_octets → Each AskedCanBe asks
      → EventsFromEmpty family n (events_of family (empty_table n) asks)
  events-happen-from-empty n asks fits can =
      record { fits = fits; given = each-asked asks (empty_table n) can; happened = events-happen asks (empty_table n) }

  -- **and no other history asks this**
  whole-only : (attribute : Attribute) (table lent : List ℕ) (answer : AnswerToAll attribute) (left words : List ℕ)
      → WholePromised family attribute table lent answer left words
      → ◌≡◌ {A = Left (AnswerToAll attribute)} (record { answer = answer; table = left; words = words }) (left_on family attribute table lent)
  whole-only (reach policy r) table lent answer left words p = rw (p.is, p.leaves, p.lists)
  whole-only (unreach attribute) table lent answer left words p = rw (p.is, p.leaves, p.lists)

  event-only : (e : Event) (table : List ℕ) → EventPromised family table e → e ≡ event_on family (asked_by e) table
  event-only (single m) table p = ap single (made-only family m table p)
  event-only (whole w) table p =
      ap (λ (l : Left (AnswerToAll w.attribute)). whole (record { attribute = w.attribute; lent = w.lent; answer = l.answer; words = l.words; left = l.table }))
      (whole-only w.attribute table w.lent w.answer w.left w.words p)

  pub events-happen-only : (es : List Event) (table : List ℕ) → EventsHappened family table es
      → es ≡ events_of family table (map asked_by es)
  events-happen-only [] table made = refl
  events-happen-only (e ∷ es) table made =
      let first = event-only e table made.0 in
      ap₂ (λ (x : Event) (l : List Event). x ∷ l) first
      (events-happen-only es (left_by e) made.1 ∙ ap (λ (x : Event). events_of family (left_by x) (map asked_by es)) first)
