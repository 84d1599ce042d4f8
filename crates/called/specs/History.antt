-- Histories of calls in words that change one table, as a caller in C sees them: each call with the word it returned, `out` and the octets
-- it left, and a call with a whole attribute also with the answer words. They are histories at the door (crate history), with the answers
-- that the words and `out` say; and what is done at the door is such a history.
use Rattle.std.specs.Prelude.{ℕ, ◌/◌, ◌%◌, ◌^◌, ◌≡◌, cond, List, [], ◌∷◌, map, eqb, get_or, Ok}
use Rattle.rule.specs.declared.Family.{Family}
use Rattle.rule.specs.Refusal.{refused_with}
use Rattle.update.specs.Apply.{reached}
use Rattle.history.specs.History.{Call, announcement, withdrawal, AnswerTo, answer_told, Made}
use Rattle.history.specs.Attributes.{Attribute, reach, unreach, AnswerToAll, whole_told, Event, single, whole, Asked, events_of}
use Rattle.calls.specs.Word.{word_of, out_after}
use Rattle.calls.specs.Promise.{AnnounceCall, WithdrawCall, ReachCall, UnreachCall}

-- A call as it was made: what it was given, the `out` that it was lent, the word that it returned, and `out` and the table's octets after it.
-- A withdrawal is lent no `out`.
pub record Called : Type 0 where
  pub call : Call
  pub entry : List ℕ
  pub result : ℕ
  pub exit : List ℕ
  pub left : List ℕ

-- The answer that a word says, by the kind of the call: held, with the notes that `out` has, or done; or the refusal whose number stands in
-- the low 32 bits and whose place in the high 32. A word of a number that stands in no row of 01's table, or with a place where its row has
-- none, says no refusal of its own, and no call returns one.
abbrev pub answer_in : (call : Call) → ℕ → List ℕ → AnswerTo call
answer_in (announcement policy a) result out =
    cond (eqb (result % 2 ^ 32) 0) (Ok (get_or out 0 0)) (refused_with (result % 2 ^ 32) (result / 2 ^ 32))
answer_in (withdrawal rule) result out = cond (eqb (result % 2 ^ 32) 0) (Ok tt) (refused_with (result % 2 ^ 32) (result / 2 ^ 32))

-- A call with a whole attribute as it was made: what it was given, the answer words and `out` that it was lent, the word that it returned,
-- and `out`, the answer words and the table's octets after it.
pub record WholeCalled : Type 0 where
  pub attribute : Attribute
  pub lent : List ℕ
  pub entry : List ℕ
  pub result : ℕ
  pub exit : List ℕ
  pub words : List ℕ
  pub left : List ℕ

-- The answer that its word says, and `out` where that is 0: so many rules, of a reach with the notes.
abbrev pub applied_in : (attribute : Attribute) → ℕ → List ℕ → AnswerToAll attribute
applied_in (reach policy r) result out =
    cond (eqb (result % 2 ^ 32) 0) (Ok (reached (get_or out 0 0) (get_or out 1 0))) (refused_with (result % 2 ^ 32) (result / 2 ^ 32))
applied_in (unreach attribute) result out =
    cond (eqb (result % 2 ^ 32) 0) (Ok (get_or out 0 0)) (refused_with (result % 2 ^ 32) (result / 2 ^ 32))

-- A call in words that changes a table.
pub data CalledEvent : Type 0 where
  one : Called → CalledEvent
  all : WholeCalled → CalledEvent

-- A call with the answer that its word says.
abbrev pub answered_one : Called → Made
answered_one m = record { call = m.call; answer = answer_in m.call m.result m.exit; left = m.left }

-- The same of a call with a whole attribute.
abbrev pub answered_event : CalledEvent → Event
answered_event (one m) = single (answered_one m)
answered_event (all w) =
    whole (record { attribute = w.attribute; lent = w.lent; answer = applied_in w.attribute w.result w.exit; words = w.words; left = w.left })

-- The calls with the answers that their words say.
abbrev pub answered : List CalledEvent → List Event
answered h = map answered_event h

-- The table's octets after a call.
abbrev pub left_in : CalledEvent → List ℕ
left_in (one m) = m.left
left_in (all w) = w.left

-- What is lent of an `out`, by the kind of the call.
abbrev pub out_lent : Call → List ℕ → List ℕ
out_lent (announcement policy a) out = out
out_lent (withdrawal rule) out = []

-- What was done at the door, as a call in words does it that is lent this `out`.
abbrev pub as_called : List ℕ → Event → CalledEvent
as_called out (single m) =
    let told = answer_told m.call m.answer in
    let lent = out_lent m.call out in
    one (record { call = m.call; entry = lent; result = word_of told; exit = out_after told lent; left = m.left })
as_called out (whole w) =
    let told = whole_told w.attribute w.answer in
    all (record { attribute = w.attribute; lent = w.lent; entry = out; result = word_of told; exit = out_after told out; words = w.words; left = w.left })

module _ (family : Family) where
  -- A call's promise, with a table at entry: what is lent to be read alone it leaves as it was.
  abbrev pub Returned : Call → List ℕ → Called → Type 0
  Returned (announcement policy a) table m =
      AnnounceCall family policy.settings a.origin
      (record { table = table; routes = policy.routes; rule = a.rule; communities = a.communities; out = m.entry })
      m.result
      (record { table = m.left; routes = policy.routes; rule = a.rule; communities = a.communities; out = m.exit })
  Returned (withdrawal rule) table m =
      WithdrawCall family (record { table = table; rule = rule }) m.result (record { table = m.left; rule = rule }) × (m.exit ≡ m.entry)

  -- The promise of a call with a whole attribute.
  abbrev pub WholeReturned : Attribute → List ℕ → WholeCalled → Type 0
  WholeReturned (reach policy r) table w =
      ReachCall family policy.settings r.origin
      (record {
        table = table;
        routes = policy.routes;
        attribute = r.attribute;
        communities = r.communities;
        answers = w.lent;
        out = w.entry;
      })
      w.result
      (record {
        table = w.left;
        routes = policy.routes;
        attribute = r.attribute;
        communities = r.communities;
        answers = w.words;
        out = w.exit;
      })
  WholeReturned (unreach attribute) table w =
      UnreachCall family
      (record { table = table; attribute = attribute; answers = w.lent; out = w.entry })
      w.result
      (record { table = w.left; attribute = attribute; answers = w.words; out = w.exit })

  -- The promise of either.
  abbrev pub EventReturned : List ℕ → CalledEvent → Type 0
  EventReturned table (one m) = Returned m.call table m
  EventReturned table (all w) = WholeReturned w.attribute table w

  -- A history from a table on, the oldest call first: each call keeps its promise on the table that the call before it left.
  abbrev pub AllReturned : List ℕ → List CalledEvent → Type 0
  AllReturned table [] = Unit {0}
  AllReturned table (e ∷ h) = EventReturned table e × AllReturned (left_in e) h

  -- The history of what is asked in words one after the other, from a table on, each call that has an `out` lent this one.
  abbrev pub called_of : List ℕ → List ℕ → List Asked → List CalledEvent
  called_of out table asks = map (as_called out) (events_of family table asks)
