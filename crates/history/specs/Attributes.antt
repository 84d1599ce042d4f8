-- Histories that hold whole attributes beside single calls. 2026-01: "Demand 3's history then means the single calls an attribute stands
-- for." An attribute that is refused stands for none. Demand 3 itself (History.antt) is read on those single calls.
use Rattle.std.specs.Prelude.{ℕ, ◌^◌, ◌<◌, ◌≤◌, ◌≡◌, true, cond, List, [], ◌∷◌, ◌++◌, map, length, drop, get_or, Result}
use Rattle.octets.specs.Number.{Octets}
use Rattle.octets.specs.Test.{Each}
use Rattle.rule.specs.declared.Family.{Family}
use Rattle.rule.specs.declared.Refusal.{Refusal}
use Rattle.table.specs.Sound.{most_octets}
use Rattle.request.specs.Input.{Policy}
use Rattle.attribute.specs.Rules.{reach_rules, unreach_rules}
use Rattle.flowspec.specs.Told.{Told}
use Rattle.update.specs.declared.Reached.{Reached}
use Rattle.update.specs.Singles.{Reach, announcement_in}
use Rattle.update.specs.Apply.{Left, reaching, unreaching, reached_told, unreached_told}
use Rattle.update.specs.Promise.{Reaches, Unreaches}
use Rattle.history.specs.History.{Call, announcement, withdrawal, Made, CanBe, Promised, told_of, number_of, LentPolicy, end_of, made_on, history_of, empty_table}

-- A whole attribute, with whatever octets it came: a reach, with the routes and the setting that its rules are judged by, or an unreach.
pub data Attribute : Type 0 where
  reach : Policy → Reach → Attribute
  unreach : List ℕ → Attribute

-- What a call with a whole attribute is answered with, by its kind.
abbrev pub AnswerToAll : Attribute → Type 0
AnswerToAll (reach policy r) = Result Reached Refusal
AnswerToAll (unreach attribute) = Result ℕ Refusal

-- What that answer says.
abbrev pub whole_told : (attribute : Attribute) → AnswerToAll attribute → Told
whole_told (reach policy r) answer = reached_told answer
whole_told (unreach attribute) answer = unreached_told answer

-- A call with a whole attribute as it was made: what it was given, the answer words that it was lent, its answer, and the answer words and
-- the table's octets after it.
pub record Whole : Type 0 where
  pub attribute : Attribute
  pub lent : List ℕ
  pub answer : AnswerToAll attribute
  pub words : List ℕ
  pub left : List ℕ

-- What was done to a table: a single call, or a call with a whole attribute.
pub data Event : Type 0 where
  single : Made → Event
  whole : Whole → Event

-- What is asked of a table: a single call, or a call with a whole attribute that is lent answer words.
pub data Asked : Type 0 where
  ask_single : Call → Asked
  ask_whole : Attribute → List ℕ → Asked

-- What an event asked.
abbrev pub asked_by : Event → Asked
asked_by (single m) = ask_single m.call
asked_by (whole w) = ask_whole w.attribute w.lent

-- The table's octets after it.
abbrev pub left_by : Event → List ℕ
left_by (single m) = m.left
left_by (whole w) = w.left

-- The table at the end of events.
abbrev pub end_of_events : List ℕ → List Event → List ℕ
end_of_events table [] = table
end_of_events table (e ∷ es) = end_of_events (left_by e) es

-- One single call for each rule of an attribute, in order, lent the octets of that rule as they stand there.
abbrev pub calls_in : Family → Attribute → List Call
calls_in family (reach policy r) = map (λ rule. announcement policy (announcement_in r rule)) (reach_rules family r.attribute).items
calls_in family (unreach attribute) = map withdrawal (unreach_rules family attribute).items

-- The single calls that an attribute stands for, by its answer: none where it is refused.
abbrev pub stands_for : Family → (attribute : Attribute) → AnswerToAll attribute → List Call
stands_for family attribute answer = cond (whole_told attribute answer).grants (calls_in family attribute) []

-- What is asked of what a call is given, and holds by the types of what it is lent: a reach is octets, and its originator has 32 bits.
abbrev pub AttributeCanBe : Attribute → Type 0
AttributeCanBe (reach policy r) = Octets r.attribute × (r.origin.originator < 2 ^ 32)
AttributeCanBe (unreach attribute) = Unit {0}

-- The same of a single call or a whole attribute.
abbrev pub AskedCanBe : Asked → Type 0
AskedCanBe (ask_single call) = CanBe call
AskedCanBe (ask_whole attribute lent) = AttributeCanBe attribute

-- The same of an event.
abbrev pub EventCanBe : Event → Type 0
EventCanBe e = AskedCanBe (asked_by e)

-- Demand 3: "with the same routes and setting". An attribute was lent this policy; an unreach is lent none.
abbrev pub AttributeLent : Policy → Attribute → Type 0
AttributeLent policy (reach lent r) = lent ≡ policy
AttributeLent policy (unreach attribute) = Unit {0}

-- The same of an event.
abbrev pub EventLent : Policy → Event → Type 0
EventLent policy (single m) = LentPolicy policy m.call
EventLent policy (whole w) = AttributeLent policy w.attribute

-- The same of all events.
abbrev pub SameThroughout : Policy → List Event → Type 0
SameThroughout policy = Each (EventLent policy)

-- **Nobody can tell the difference**: a call with a whole attribute does what single calls do, one after the other, on its table. It leaves
-- the table that the last of them leaves (`leaves`); its answer words list the numbers that they are answered with, in order, and keep
-- the rest of what was lent (`lists`); its answer counts them (`counts`); and the values behind the count, of a reach the notes of its
-- rates, are those of each of them that is done (`notes`); a reach tells them also where none is. Of an attribute that is refused, whose
-- own number and place its promise has, there are none, so that nothing is changed.
pub record ActsAs (table lent : List ℕ) (told : Told) (left words : List ℕ) (singles : List Made) : Type 0 where
  pub leaves : left ≡ end_of table singles
  pub lists : words ≡ map number_of singles ++ drop (length singles) lent
  pub counts : get_or told.values 0 0 ≡ length singles
  pub notes : Each (λ m. (told_of m).grants ≡ true → (told_of m).values ≡ drop 1 told.values) singles

module _ (family : Family) where
  -- The promise of a call with a whole attribute, with a table at entry.
  abbrev pub WholePromised : (attribute : Attribute) → List ℕ → List ℕ → AnswerToAll attribute → List ℕ → List ℕ → Type 0
  WholePromised (reach policy r) table lent answer left words =
      Reaches family policy r table lent answer left words (policy.routes ∷ r.attribute ∷ r.communities ∷ [])
  WholePromised (unreach attribute) table lent answer left words = Unreaches family attribute table lent answer left words (attribute ∷ [])

  -- The promise of what was done to a table.
  abbrev pub EventPromised : List ℕ → Event → Type 0
  EventPromised table (single m) = Promised family m.call table m.answer m.left
  EventPromised table (whole w) = WholePromised w.attribute table w.lent w.answer w.left w.words

  -- A history of events from a table on, the oldest first: each keeps its promise on the table that the one before it left.
  abbrev pub EventsHappened : List ℕ → List Event → Type 0
  EventsHappened table [] = Unit {0}
  EventsHappened table (e ∷ es) = EventPromised table e × EventsHappened (left_by e) es

  -- What a call with a whole attribute leaves.
  abbrev pub left_on : (attribute : Attribute) → List ℕ → List ℕ → Left (AnswerToAll attribute)
  left_on (reach policy r) table lent = reaching family policy r table lent
  left_on (unreach attribute) table lent = unreaching family attribute table lent

  -- What is asked, as it is done to a table.
  abbrev pub event_on : Asked → List ℕ → Event
  event_on (ask_single call) table = single (made_on family call table)
  event_on (ask_whole attribute lent) table =
      let left = left_on attribute table lent in
      whole (record { attribute = attribute; lent = lent; answer = left.answer; words = left.words; left = left.table })

  -- The history of what is asked one after the other, from a table on.
  abbrev pub events_of : List ℕ → List Asked → List Event
  events_of table [] = []
  events_of table (ask ∷ asks) = event_on ask table ∷ events_of (left_by (event_on ask table)) asks

  -- The single calls that an event stands for, made on its table.
  abbrev pub singles_in : List ℕ → Event → List Made
  singles_in table (single m) = m ∷ []
  singles_in table (whole w) = history_of family table (stands_for family w.attribute w.answer)

  -- The history of single calls that events stand for.
  abbrev pub singles_of : List ℕ → List Event → List Made
  singles_of table [] = []
  singles_of table (e ∷ es) = singles_in table e ++ singles_of (left_by e) es

  -- Events that began at an empty table, in a buffer of n octets that only their calls wrote.
  pub record EventsFromEmpty (n : ℕ) (es : List Event) : Type 0 where
    pub fits : n ≤ most_octets
    pub given : Each EventCanBe es
    pub happened : EventsHappened (empty_table n) es
