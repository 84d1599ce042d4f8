-- **Demand 3, of histories with whole attributes.** Nobody can tell an attribute from the single calls it stands for (`whole-acts`), so that
-- events are a history of single calls (`singles-happened`) with the same end (`singles-end`), and what holds of those (HistoryLaws.antt,
-- AgreeLaws.antt) holds of the table that the events left. Of what the calls were given only what their types say is assumed.
use mathlib.Core.Path.{◌≡◌, refl, sym, ap, ap₂, subst, ◌∙◌}
use mathlib.Core.Bool.{true, false}
use mathlib.Core.List.{List, [], ◌∷◌, ◌++◌, map}
use Prim.Native.Nat.{ℕ, ◌^◌, ◌<◌}
use lib.ListN.{length, drop, length-map}
use Rattle.std.proofs.Common.{Ok}
use Rattle.octets.specs.Test.{Each}
use Rattle.octets.proofs.Cases.{by-test, apart}
use Rattle.octets.proofs.Facts.{Octets}
use Rattle.rule.specs.declared.Family.{Family}
use Rattle.rule.specs.Family.{Fits}
use Rattle.request.specs.Input.{Announcement, Policy}
use Rattle.flowspec.specs.Told.{done}
use Rattle.flowspec.specs.Checks.{Check, told, announce_checks, announce_values, withdraw_checks}
use Rattle.flowspec.proofs.ToldLaws.{announce-tells, withdraw-tells}
use Rattle.attribute.specs.Head.{reach_head}
use Rattle.attribute.specs.Rules.{reach_rules, unreach_rules}
use Rattle.attribute.proofs.RulesLaws.{each-octets}
use Rattle.update.specs.Singles.{Reach, Singles, numbered, each_rule, announcement_in, announcing_each, withdrawing_each}
use Rattle.update.specs.Checks.{reach_notes, reach_checks, unreach_checks}
use Rattle.update.specs.Apply.{Left, listed, applied_all, refused_whole, reaching, unreaching, reached}
use Rattle.update.proofs.ApplyLaws.{decided-either}
use Rattle.history.specs.History.{Call, announcement, withdrawal, answer_told, Made, CanBe, EachCanBe, told_of, number_of, LentPolicy, SamePolicy, end_of, Happened, outcome_of, made_on, history_of, empty_table, FromEmpty, Agree, HoldsExactly, EndAlike}
use Rattle.history.specs.Attributes.{Attribute, reach, unreach, AnswerToAll, whole_told, Whole, Event, single, whole, left_by, end_of_events, calls_in, stands_for, AttributeCanBe, EventCanBe, AttributeLent, EventLent, SameThroughout, ActsAs, WholePromised, EventPromised, EventsHappened, left_on, singles_in, singles_of, EventsFromEmpty}
use Rattle.history.proofs.HistoryLaws.{history-holds}
use Rattle.history.proofs.AgreeLaws.{histories-alike}
use Rattle.history.proofs.Happens.{happens, each-given, end-append, given-append, happened-append}

-- one history behind another
same-append : (policy : Policy) (h g : List Made) → SamePolicy policy h → SamePolicy policy g → SamePolicy policy (h ++ g)
same-append policy [] g same also = also
same-append policy (m ∷ h) g same also = (same.0, same-append policy h g same.1 also)

-- what the single calls of an attribute are given
announced-given : (policy : Policy) (r : Reach) (rules : List (List ℕ)) → r.origin.originator < 2 ^ 32 → Each Octets rules
    → Each CanBe (map (λ rule. announcement policy (announcement_in r rule)) rules)
announced-given policy r [] small o = tt
announced-given policy r (rule ∷ rules) small o = ((o.0, small), announced-given policy r rules small o.1)

withdrawn-given : (rules : List (List ℕ)) → Each CanBe (map withdrawal rules)
withdrawn-given [] = tt
withdrawn-given (rule ∷ rules) = (tt, withdrawn-given rules)

calls-given : (family : Family) (attribute : Attribute) → AttributeCanBe attribute → Each CanBe (calls_in family attribute)
calls-given family (reach policy r) can =
    announced-given policy r (reach_rules family r.attribute).items can.1 (each-octets family r.attribute reach_head can.0)
calls-given family (unreach attribute) can = withdrawn-given (unreach_rules family attribute).items

stands-given : (family : Family) (attribute : Attribute) (answer : AnswerToAll attribute) → AttributeCanBe attribute → Each CanBe (stands_for family attribute answer)
stands-given family attribute answer can =
    by-test (whole_told attribute answer).grants (λ g. rw g (calls-given family attribute can)) (λ g. rw g tt)

-- what the single calls of an attribute are lent
announced-lent : (policy lent : Policy) (r : Reach) (rules : List (List ℕ)) → lent ≡ policy
    → Each (LentPolicy policy) (map (λ rule. announcement lent (announcement_in r rule)) rules)
announced-lent policy lent r [] same = tt
announced-lent policy lent r (rule ∷ rules) same = (same, announced-lent policy lent r rules same)

withdrawn-lent : (policy : Policy) (rules : List (List ℕ)) → Each (LentPolicy policy) (map withdrawal rules)
withdrawn-lent policy [] = tt
withdrawn-lent policy (rule ∷ rules) = (tt, withdrawn-lent policy rules)

calls-lent : (family : Family) (policy : Policy) (attribute : Attribute) → AttributeLent policy attribute → Each (LentPolicy policy) (calls_in family attribute)
calls-lent family policy (reach lent r) same = announced-lent policy lent r (reach_rules family r.attribute).items same
calls-lent family policy (unreach attribute) same = withdrawn-lent policy (unreach_rules family attribute).items

stands-lent : (family : Family) (policy : Policy) (attribute : Attribute) (answer : AnswerToAll attribute) → AttributeLent policy attribute
    → Each (LentPolicy policy) (stands_for family attribute answer)
stands-lent family policy attribute answer same =
    by-test (whole_told attribute answer).grants (λ g. rw g (calls-lent family policy attribute same)) (λ g. rw g tt)

-- a call has these values where it is done
abbrev Tells : List ℕ → Made → Type 0
Tells values m = (told_of m).grants ≡ true → (told_of m).values ≡ values

-- an answer that grants something has the values of its call
granted-values : (cs : List Check) (values : List ℕ) → (told cs (done values)).grants ≡ true → (told cs (done values)).values ≡ values
granted-values [] values g = refl
granted-values (c ∷ cs) values g =
    by-test c.holds (λ h. let rest = granted-values cs values (rw h at g) in rw h rest)
    (λ h. let z : false ≡ true = rw h at g in apart (cc))

module _ (family : Family) where
  -- one call for each rule leaves what the history of these calls does
  module _ (call : List ℕ → Call) where
    abbrev each_of : List (List ℕ) → List ℕ → Singles
    each_of rules table = each_rule (λ rule t. numbered (answer_told (call rule)) (outcome_of family (call rule) t)) rules table

    abbrev history_each : List (List ℕ) → List ℕ → List Made
    history_each rules table = history_of family table (map call rules)

    each-leaves : (rules : List (List ℕ)) (table : List ℕ) → (each_of rules table).table ≡ end_of table (history_each rules table)
    each-leaves [] table = refl
    each-leaves (rule ∷ rules) table = each-leaves rules (outcome_of family (call rule) table).table

    each-numbers : (rules : List (List ℕ)) (table : List ℕ) → (each_of rules table).numbers ≡ map number_of (history_each rules table)
    each-numbers [] table = refl
    each-numbers (rule ∷ rules) table =
        ap (λ (rest : List ℕ). number_of (made_on family (call rule) table) ∷ rest)
        (each-numbers rules (outcome_of family (call rule) table).table)

    each-notes : (values : List ℕ) → ((rule table : List ℕ) → Tells values (made_on family (call rule) table)) → (rules : List (List ℕ)) (table : List ℕ)
        → Each (Tells values) (history_each rules table)
    each-notes values tells [] table = tt
    each-notes values tells (rule ∷ rules) table = (tells rule table, each-notes values tells rules (outcome_of family (call rule) table).table)

    each-acts : (values : List ℕ) → ((rule table : List ℕ) → Tells values (made_on family (call rule) table)) → (rules : List (List ℕ)) (table lent : List ℕ)
        → ActsAs table lent (done (length (each_of rules table).numbers ∷ values)) (each_of rules table).table
        (listed (each_of rules table) lent) (history_each rules table)
    each-acts values tells rules table lent =
        let numbers = each-numbers rules table in
        let many = ap length numbers ∙ length-map (history_each rules table) number_of in
        record {
          leaves = each-leaves rules table;
          lists = ap₂ (λ (front : List ℕ) (count : ℕ). front ++ drop count lent) numbers many;
          counts = many;
          notes = each-notes values tells rules table;
        }

  -- the values of a single announcement that is done, and of a withdrawal
  announced-values : (policy : Policy) (a : Announcement) (table : List ℕ) → Tells (announce_values a) (made_on family (announcement policy a) table)
  announced-values policy a table =
      rw (announce-tells family policy a table) (granted-values (announce_checks family policy a table) (announce_values a))

  withdrawn-values : (rule table : List ℕ) → Tells [] (made_on family (withdrawal rule) table)
  withdrawn-values rule table = rw (withdraw-tells family rule table) (granted-values (withdraw_checks family rule table) [])

  -- what an attribute leaves is what its single calls leave, and a refusal leaves what no call does
  abbrev LeftActs : (attribute : Attribute) → List ℕ → List ℕ → Left (AnswerToAll attribute) → Type 0
  LeftActs attribute table lent left =
      ActsAs table lent (whole_told attribute left.answer) left.table left.words
      (history_of family table (stands_for family attribute left.answer))

  left-acts : (attribute : Attribute) (table lent : List ℕ) → LeftActs attribute table lent (left_on family attribute table lent)
  unfolding reaching unreaching
  left-acts (reach policy r) table lent =
      decided-either (LeftActs (reach policy r) table lent) (reach_checks family policy r table lent)
      (applied_all (λ count. Ok (reached count (reach_notes r))) (announcing_each family policy r table) lent) (refused_whole table lent)
      (λ hold. each-acts (λ rule. announcement policy (announcement_in r rule)) (reach_notes r ∷ [])
      (λ rule t. announced-values policy (announcement_in r rule) t) (reach_rules family r.attribute).items table lent)
      (λ number place. record { leaves = refl; lists = refl; counts = refl; notes = tt })
  left-acts (unreach attribute) table lent =
      decided-either (LeftActs (unreach attribute) table lent) (unreach_checks family attribute table lent)
      (applied_all (λ count. Ok count) (withdrawing_each family attribute table) lent) (refused_whole table lent)
      (λ hold. each-acts withdrawal [] withdrawn-values (unreach_rules family attribute).items table lent)
      (λ number place. record { leaves = refl; lists = refl; counts = refl; notes = tt })

  promised-acts : (attribute : Attribute) (table lent : List ℕ) (answer : AnswerToAll attribute) (left words : List ℕ)
      → WholePromised family attribute table lent answer left words
      → ActsAs table lent (whole_told attribute answer) left words (history_of family table (stands_for family attribute answer))
  promised-acts (reach policy r) table lent answer left words p = rw (p.is, p.leaves, p.lists) (left-acts (reach policy r) table lent)
  promised-acts (unreach attribute) table lent answer left words p = rw (p.is, p.leaves, p.lists) (left-acts (unreach attribute) table lent)

  -- **nobody can tell the difference**: a call with a whole attribute, answered whatever, does on its table what the single calls do that it
  -- stands for: they leave one table, the answer words are the numbers of these calls, before the rest of what was lent, and the notes of a
  -- reach are those of each that is done
  pub whole-acts : (w : Whole) (table : List ℕ) → EventPromised family table (whole w)
      → ActsAs table w.lent (whole_told w.attribute w.answer) w.left w.words (singles_in family table (whole w))
  whole-acts w table p = promised-acts w.attribute table w.lent w.answer w.left w.words p

  -- so the notes that a reach tells are those that each of its announcements tells which is done
  pub reach-notes : (policy : Policy) (r : Reach) (table lent left words : List ℕ) (count notes : ℕ)
      → WholePromised family (reach policy r) table lent (Ok (reached count notes)) left words
      → Each (λ m. (told_of m).grants ≡ true → (told_of m).values ≡ notes ∷ []) (history_of family table (calls_in family (reach policy r)))
  reach-notes policy r table lent left words count notes p =
      (whole-acts (record { attribute = reach policy r; lent = lent; answer = Ok (reached count notes); words = words; left = left }) table p).notes

  -- one event
  event-happened : (e : Event) (table : List ℕ) → EventPromised family table e → Happened family table (singles_in family table e)
  event-happened (single m) table p = (p, tt)
  event-happened (whole w) table p = happens family (stands_for family w.attribute w.answer) table

  event-end : (e : Event) (table : List ℕ) → EventPromised family table e → end_of table (singles_in family table e) ≡ left_by e
  event-end (single m) table p = refl
  event-end (whole w) table p = sym (whole-acts w table p).leaves

  event-given : (e : Event) (table : List ℕ) → EventCanBe e → EachCanBe (singles_in family table e)
  event-given (single m) table can = (can, tt)
  event-given (whole w) table can =
      each-given family (stands_for family w.attribute w.answer) table (stands-given family w.attribute w.answer can)

  -- **events are a history of single calls**, with the same end
  pub singles-happened : (es : List Event) (table : List ℕ) → EventsHappened family table es
      → Happened family table (singles_of family table es)
  singles-happened [] table made = tt
  singles-happened (e ∷ es) table made =
      let rest = singles_of family (left_by e) es in
      happened-append family (singles_in family table e) rest table (event-happened e table made.0)
      (subst (λ t. Happened family t rest) (sym (event-end e table made.0)) (singles-happened es (left_by e) made.1))

  pub singles-end : (es : List Event) (table : List ℕ) → EventsHappened family table es
      → end_of table (singles_of family table es) ≡ end_of_events table es
  singles-end [] table made = refl
  singles-end (e ∷ es) table made =
      let rest = singles_of family (left_by e) es in
      end-append table (singles_in family table e) rest
      ∙ ap (λ (t : List ℕ). end_of t rest) (event-end e table made.0)
      ∙ singles-end es (left_by e) made.1

  singles-given : (es : List Event) (table : List ℕ) → Each EventCanBe es → EachCanBe (singles_of family table es)
  singles-given [] table can = tt
  singles-given (e ∷ es) table can =
      given-append (singles_in family table e) (singles_of family (left_by e) es) (event-given e table can.0)
      (singles-given es (left_by e) can.1)

  -- single calls are lent what the events were
  each_lent : (policy : Policy) (calls : List Call) (table : List ℕ) → Each (LentPolicy policy) calls → SamePolicy policy (history_of family table calls)
  each_lent policy [] table same = tt
  each_lent policy (call ∷ calls) table same = (same.0, each_lent policy calls (outcome_of family call table).table same.1)

  event-lent : (policy : Policy) (e : Event) (table : List ℕ) → EventLent policy e → SamePolicy policy (singles_in family table e)
  event-lent policy (single m) table same = (same, tt)
  event-lent policy (whole w) table same =
      each_lent policy (stands_for family w.attribute w.answer) table (stands-lent family policy w.attribute w.answer same)

  pub singles-lent : (policy : Policy) (es : List Event) (table : List ℕ) → SameThroughout policy es → SamePolicy policy (singles_of family table es)
  singles-lent policy [] table same = tt
  singles-lent policy (e ∷ es) table same =
      same-append policy (singles_in family table e) (singles_of family (left_by e) es) (event-lent policy e table same.0)
      (singles-lent policy es (left_by e) same.1)

  -- single calls alone are events, which stand for themselves
  singles-events : (h : List Made) (table : List ℕ) → Happened family table h → EventsHappened family table (map single h)
  singles-events [] table made = tt
  singles-events (m ∷ h) table made = (made.0, singles-events h m.left made.1)

  given-events : (h : List Made) → EachCanBe h → Each EventCanBe (map single h)
  given-events [] can = tt
  given-events (m ∷ h) can = (can.0, given-events h can.1)

  pub lent-events : (policy : Policy) (h : List Made) → SamePolicy policy h → SameThroughout policy (map single h)
  lent-events policy [] same = tt
  lent-events policy (m ∷ h) same = (same.0, lent-events policy h same.1)

  pub singles-back : (h : List Made) (table : List ℕ) → singles_of family table (map single h) ≡ h
  singles-back [] table = refl
  singles-back (m ∷ h) table = ap (λ (rest : List Made). m ∷ rest) (singles-back h m.left)

  module _ (n : ℕ) where
    pub singles-from-empty : (h : List Made) → FromEmpty family n h → EventsFromEmpty family n (map single h)
    singles-from-empty h made =
        record { fits = made.fits; given = given-events h made.given; happened = singles-events h (empty_table n) made.happened }

    pub events-from-empty : (es : List Event) → EventsFromEmpty family n es → FromEmpty family n (singles_of family (empty_table n) es)
    events-from-empty es made =
        record {
          fits = made.fits;
          given = singles-given es (empty_table n) made.given;
          happened = singles-happened es (empty_table n) made.happened;
        }

    -- **the table holds exactly what is in force** after the single calls that the events stand for
    pub events-hold : (es : List Event) → EventsFromEmpty family n es
        → HoldsExactly family n (singles_of family (empty_table n) es) (end_of_events (empty_table n) es)
    events-hold es made =
        subst (λ table. HoldsExactly family n (singles_of family (empty_table n) es) table)
        (singles-end es (empty_table n) made.happened)
        (history-holds family n (singles_of family (empty_table n) es) (events-from-empty es made))

    -- **two histories of events** whose single calls agree on each rule's last counted call end alike
    pub events-alike : Fits family → (policy : Policy) (es fs : List Event) → EventsFromEmpty family n es → EventsFromEmpty family n fs
        → SameThroughout policy es → SameThroughout policy fs
        → Agree family (singles_of family (empty_table n) es) (singles_of family (empty_table n) fs)
        → EndAlike family (end_of_events (empty_table n) es) (end_of_events (empty_table n) fs)
    events-alike fits policy es fs made also same one agree =
        let alike = histories-alike family policy fits n (singles_of family (empty_table n) es) (singles_of family (empty_table n) fs)
        (events-from-empty es made) (events-from-empty fs also) (singles-lent policy es (empty_table n) same) (singles-lent policy fs (empty_table n) one) agree in
        subst (λ table. EndAlike family table (end_of_events (empty_table n) fs)) (singles-end es (empty_table n) made.happened)
        (subst (λ other. EndAlike family (end_of (empty_table n) (singles_of family (empty_table n) es)) other)
        (singles-end fs (empty_table n) also.happened) alike)
