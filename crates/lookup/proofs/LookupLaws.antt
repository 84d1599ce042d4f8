-- Going down a table with a packet: what is left of the table and what was collected give the verdict. Assumes nothing.
use mathlib.Core.Path.{◌≡◌, refl, sym, ap, ap₂, ◌∙◌}
use mathlib.Core.Bool.{Bool, true, false, not, cond, ◌&&◌}
use mathlib.Core.List.{List, [], ◌∷◌}
use Prim.Native.Nat.{ℕ, suc, ◌+◌, ◌-◌, ◌<◌, ◌≤◌}
use native.Mathlib.Omega.{arith}
use native.Mathlib.Nat.{add-zero}
use lib.ListN.{length, take, drop, length-drop}
use lib.Seq.{take_all}
use borrow.Author.Tests.{eq-eqb, ne_eqb, not-true, not-false}
use Rattle.octets.specs.Test.{same_list}
use Rattle.octets.proofs.Cases.{by-test, apart}
use Rattle.octets.proofs.Facts.{Octets}
use Rattle.rule.specs.declared.Family.{Family}
use Rattle.rule.specs.Family.{Fits}
use Rattle.rule.specs.Value.{between, head_of}
use Rattle.spelling.specs.Plain.{plain}
use Rattle.spelling.proofs.SpellingLaws.{head-kept}
use Rattle.action.specs.declared.Actions.{Actions}
use Rattle.action.specs.Actions.{no_actions}
use Rattle.action.specs.Merging.{merged}
use Rattle.packet.specs.declared.Packet.{Packet}
use Rattle.matching.specs.Match.{matches}
use Rattle.matching.proofs.PlainLaws.{plain-alone}
use Rattle.lookup.specs.declared.Hit.{Hit}
use Rattle.lookup.specs.declared.Hit.TheVariants.{Missed, GoesOn, Stops}
use Rattle.entry.specs.Entry.{Entry}
use Rattle.entry.specs.Record.{head_cost, entry_of}
use Rattle.table.specs.Walk.{record_at, records, entries}
use Rattle.lookup.specs.Lookup.{under_head, components_match, hit, collected, merged_onto, verdict_of, verdict_for, hit_of, first_place}
use Rattle.table.proofs.WalkLaws.{was-found}
use Rattle.table.proofs.EntryLaws.{entries_from, cost-there}
use Rattle.table.proofs.FindLaws.{left-more, left_end, left-unsound}
use Rattle.std.proofs.Common.{Result, Ok, Err, Option, Some, None}
use Rattle.rule.specs.declared.Refusal.{Refusal}
use Rattle.lookup.specs.declared.Matched.{Matched}
use Rattle.lookup.specs.Lookup.{matched}

-- how `verdict_of` comes to its answers
module _ (actions : Actions) (count : ℕ) where
  pub verdict-none : count ≡ 0 → None ≡ verdict_of actions count
  unfolding verdict_of
  verdict-none h = rw (eq-eqb count 0 h)

  pub verdict-some : (count ≡ 0 → ⊥) → Some (matched actions count) ≡ verdict_of actions count
  unfolding verdict_of
  verdict-some h = rw (ne_eqb count 0 h)

-- how `has_head` comes to its answer of a value that is shorter than the family's head
pub head-whole : (family : Family) (head v : List ℕ) (says : Bool) → says ≡ same_list v head → length v < family.head
    → says ≡ same_list (head_of family v) head
head-whole family head v says is h = is ∙ ap (λ (l : List ℕ). same_list l head) (sym (take_all family.head v (omega arith)))

-- how `hits_record` comes to its answers
module _ (family : Family) (head r : List ℕ) (packet : Packet) (same : Bool)
    (is : same ≡ same_list (head_of family (take (length r - head_cost) (drop head_cost r))) head) where
  whole : take (length r - head_cost) (drop head_cost r) ≡ drop head_cost r
  whole = take_all (length r - head_cost) (drop head_cost r) (simp length-drop (omega arith))

  pub record-other : not same ≡ true → false ≡ hit family head packet (entry_of r)
  unfolding entry_of
  record-other h = let e = rw whole at is in rw (← e, not-true same h)

  pub record-hit : not same ≡ false → (says : Bool) → says ≡ matches family (take (length r - head_cost) (drop head_cost r)) packet
      → says ≡ hit family head packet (entry_of r)
  unfolding entry_of
  record-hit h says told = let e = rw whole at is in rw (← e, not-false same h) (rw whole at told)

-- a family that has no head: every rule stands under none, so that a packet looked up under none hits where the components match
pub under_none : (family : Family) → family.head ≡ 0 → (e : Entry) → under_head family [] e ≡ true
unfolding same_list
under_none family none e = ap (λ n. same_list (take n e.value) []) none

pub no-head : (family : Family) → family.head ≡ 0 → (packet : Packet) (e : Entry) → hit family [] packet e ≡ components_match family packet e
no-head family none packet e = ap (λ (b : Bool). b && components_match family packet e) (under_none family none e)

-- rules of one plain spelling stand under the same heads, and are hit alike, whatever head is asked for
pub under-plain : (family : Family) (head : List ℕ) (e f : Entry) → plain family e.value ≡ plain family f.value
    → under_head family head e ≡ under_head family head f
under-plain family head e f same =
    ap (λ (l : List ℕ). same_list l head) (sym (head-kept family e.value) ∙ ap (head_of family) same ∙ head-kept family f.value)

pub hit-plain : (family : Family) → Fits family → (head : List ℕ) (packet : Packet) (e f : Entry) → Octets e.value → Octets f.value
    → plain family e.value ≡ plain family f.value → hit family head packet e ≡ hit family head packet f
hit-plain family fits head packet e f o p same =
    ap₂ (λ (a b : Bool). a && b) (under-plain family head e f same) (plain-alone family fits packet e.value f.value o p same)

-- how `hit_of_record` comes to its answers
module _ (family : Family) (head r : List ℕ) (packet : Packet) (says : Bool) (is : says ≡ hit family head packet (entry_of r)) where
  pub judge-missed : not says ≡ true → Missed ≡ hit_of (hit family head packet (entry_of r)) (entry_of r).actions
  judge-missed h = rw (← is, not-true says h)

  module _ (ok : not says ≡ false) (actions : Actions) (acts : actions ≡ (entry_of r).actions) where
    pub judge-goes-on : actions.onward ≡ true → GoesOn actions ≡ hit_of (hit family head packet (entry_of r)) (entry_of r).actions
    judge-goes-on h = rw (← is, not-false says ok, ← acts, h)

    pub judge-stops : actions.onward ≡ false → Stops actions ≡ hit_of (hit family head packet (entry_of r)) (entry_of r).actions
    judge-stops h = rw (← is, not-false says ok, ← acts, h)

-- the verdict where some entries are left and some were collected
abbrev pub verdict_with : (Entry → Bool) → Actions → ℕ → List Entry → Option Matched
verdict_with test actions count es = verdict_of (merged_onto actions (collected test es)) (count + length (collected test es))

-- what an entry's hit means for the entries collected from it on
module _ (test : Entry → Bool) (e : Entry) (es : List Entry) where
  collected-on : test e ≡ true → e.actions.onward ≡ true → collected test (e ∷ es) ≡ e ∷ collected test es
  unfolding collected
  collected-on t o = rw (t, o)

  collected-last : test e ≡ true → e.actions.onward ≡ false → collected test (e ∷ es) ≡ e ∷ []
  unfolding collected
  collected-last t o = rw (t, o)

  collected-not : test e ≡ false → collected test (e ∷ es) ≡ collected test es
  unfolding collected
  collected-not t = rw t

  module _ (actions : Actions) (count : ℕ) where
    one-missed : hit_of (test e) e.actions ≡ Missed → verdict_with test actions count (e ∷ es) ≡ verdict_with test actions count es
    one-missed h =
        by-test (test e) (λ t. by-test e.actions.onward (λ o. apart (cc)) (λ o. apart (cc)))
        (λ t. ap (λ (l : List Entry). verdict_of (merged_onto actions l) (count + length l)) (collected-not t))

    one-goes-on : (more : Actions) → hit_of (test e) e.actions ≡ GoesOn more
        → verdict_with test actions count (e ∷ es) ≡ verdict_with test (merged actions more) (count + 1) es
    unfolding merged_onto
    one-goes-on more h =
        by-test (test e)
        (λ t. by-test e.actions.onward
        (λ o.
        let s : e.actions ≡ more = cc in
        let n : count + suc (length (collected test es)) ≡ count + 1 + length (collected test es) = omega arith in
        ap (λ (l : List Entry). verdict_of (merged_onto actions l) (count + length l)) (collected-on t o)
        ∙ ap₂ verdict_of (ap (λ m. merged_onto (merged actions m) (collected test es)) s) n)
        (λ o. apart (cc)))
        (λ t. apart (cc))

    one-stops : (more : Actions) → hit_of (test e) e.actions ≡ Stops more
        → verdict_with test actions count (e ∷ es) ≡ verdict_of (merged actions more) (count + 1)
    unfolding merged_onto
    one-stops more h =
        by-test (test e)
        (λ t. by-test e.actions.onward (λ o. apart (cc))
        (λ o.
        let s : e.actions ≡ more = cc in
        ap (λ (l : List Entry). verdict_of (merged_onto actions l) (count + length l)) (collected-last t o)
        ∙ ap (λ m. verdict_of (merged actions m) (count + 1)) s))
        (λ t. apart (cc))

module _ (family : Family) (head : List ℕ) where
  -- the walk has come to a place with merged actions and a count
  pub record Looking (t : List ℕ) (packet : Packet) (at count : ℕ) (actions : Actions) : Type 0 where
    pub within : at ≤ length t
    pub few : count ≤ at
    pub so_far : verdict_for family head packet (entries t) ≡ verdict_with (hit family head packet) actions count (entries_from t at)

  pub look-starts : (t : List ℕ) (packet : Packet) (actions : Actions) → actions ≡ no_actions → Looking t packet 0 0 actions
  unfolding verdict_for entries records
  look-starts t packet actions e =
      record {
        within = omega arith;
        few = omega arith;
        so_far = rw e (ap (verdict_of (merged_onto no_actions (collected (hit family head packet) (entries_from t 0)))) (omega arith));
      }

  module _ (t : List ℕ) (packet : Packet) (at count : ℕ) (actions : Actions) (l : Looking t packet at count actions) where
    nothing_left : entries_from t at ≡ [] → verdict_of actions count ≡ verdict_for family head packet (entries t)
    unfolding collected merged_onto
    nothing_left e = sym (l.so_far ∙ rw (e, add-zero count))

    pub look-end : (next : Result (Option ℕ) Refusal) (r : Option Matched) → next ≡ record_at t at → next ≡ Ok None
        → r ≡ verdict_of actions count → r ≡ verdict_for family head packet (entries t)
    look-end next r is e v = v ∙ nothing_left (left_end t at (sym is ∙ e))

    pub look-unsound : (next : Result (Option ℕ) Refusal) (r : Option Matched) → next ≡ record_at t at → (refusal : Refusal)
        → next ≡ Err refusal → r ≡ verdict_of actions count → r ≡ verdict_for family head packet (entries t)
    look-unsound next r is refusal e v = v ∙ nothing_left (left-unsound t at refusal (sym is ∙ e))

    module _ (next : ℕ) (found : record_at t at ≡ Ok (Some next)) (h : Hit)
        (is : h ≡ hit_of (hit family head packet (entry_of (between t at next))) (entry_of (between t at next)).actions) where
      here : verdict_for family head packet (entries t) ≡ verdict_with (hit family head packet) actions count (entry_of (between t at next) ∷ entries_from t next)
      here = l.so_far ∙ rw (left-more t at next found)

      bounds : (next ≤ length t) × (count + 1 ≤ next)
      bounds =
          let f = was-found t at next found in
          let size = f.size in
          let within = f.within in
          let some = f.some in
          let few = l.few in
          (omega arith, omega arith)

      pub look-missed : h ≡ Missed → Looking t packet next count actions
      look-missed e =
          let few = bounds.1 in
          record {
            within = bounds.0;
            few = omega arith;
            so_far = here ∙ one-missed (hit family head packet) (entry_of (between t at next)) (entries_from t next) actions count (sym is ∙ e);
          }

      pub look-goes-on : (more after : Actions) → h ≡ GoesOn more → after ≡ merged actions more → Looking t packet next (count + 1) after
      look-goes-on more after e m =
          record {
            within = bounds.0;
            few = bounds.1;
            so_far = rw m (here ∙ one-goes-on (hit family head packet) (entry_of (between t at next)) (entries_from t next) actions count more (sym is ∙ e));
          }

      pub look-stops : (more after : Actions) (r : Option Matched) → h ≡ Stops more → after ≡ merged actions more
          → r ≡ verdict_of after (count + 1)
          → r ≡ verdict_for family head packet (entries t)
      look-stops more after r e m v =
          v ∙ rw m (sym (here ∙ one-stops (hit family head packet) (entry_of (between t at next)) (entries_from t next) actions count more (sym is ∙ e)))

  -- the first match: the walk has come to a place and has met no match
  pub record Missing (t : List ℕ) (packet : Packet) (at : ℕ) : Type 0 where
    pub within : at ≤ length t
    pub so_far : first_place (hit family head packet) 0 (entries t) ≡ first_place (hit family head packet) at (entries_from t at)

  pub miss-starts : (t : List ℕ) (packet : Packet) → Missing t packet 0
  unfolding entries records
  miss-starts t packet = record { within = omega arith; so_far = refl }

  module _ (t : List ℕ) (packet : Packet) (at : ℕ) (m : Missing t packet at) where
    none-met : entries_from t at ≡ [] → record { start = 0; end = 0 } ≡ first_place (hit family head packet) 0 (entries t)
    unfolding first_place
    none-met e = sym (m.so_far ∙ rw e)

    pub first-end : (next : Result (Option ℕ) Refusal) → next ≡ record_at t at → next ≡ Ok None
        → record { start = 0; end = 0 } ≡ first_place (hit family head packet) 0 (entries t)
    first-end next is e = none-met (left_end t at (sym is ∙ e))

    pub first-unsound : (next : Result (Option ℕ) Refusal) → next ≡ record_at t at → (refusal : Refusal) → next ≡ Err refusal
        → record { start = 0; end = 0 } ≡ first_place (hit family head packet) 0 (entries t)
    first-unsound next is refusal e = none-met (left-unsound t at refusal (sym is ∙ e))

    module _ (next : ℕ) (found : record_at t at ≡ Ok (Some next)) (says : Bool) (is : says ≡ hit family head packet (entry_of (between t at next))) where
      there : first_place (hit family head packet) 0 (entries t)
          ≡ cond says (record { start = at; end = next }) (first_place (hit family head packet) next (entries_from t next))
      unfolding first_place
      there = m.so_far ∙ rw (left-more t at next found, ← is, cost-there t at next found)

      pub first-met : says ≡ true → record { start = at; end = next } ≡ first_place (hit family head packet) 0 (entries t)
      first-met h = sym (there ∙ rw h)

      pub first-missed : says ≡ false → Missing t packet next
      first-missed h =
          let f = was-found t at next found in
          let size = f.size in
          let within = f.within in
          let some = f.some in
          record { within = omega arith; so_far = there ∙ rw h }
