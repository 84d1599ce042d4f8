-- Values and entries that the table may hold: the test for a plain value component by component, and what follows where an entry could be.
-- Assumes nothing.
use mathlib.Core.Path.{◌≡◌, refl, sym, ap, ap₂, ◌∙◌}
use mathlib.Core.Bool.{Bool, true, false, ◌&&◌, ◌||◌, and-false}
use mathlib.Core.List.{List}
use Prim.Native.Nat.{ℕ, ◌+◌, ◌-◌, ◌^◌, ◌<◌, ◌≤◌}
use native.Mathlib.Omega.{arith}
use lib.Dec.{leb, ltb}
use lib.ListN.{length}
use borrow.Author.Tests.{ltb-true, ltb-false, leb-false, lt-ltb, le-ltb, lt-leb, ne_eqb}
use Rattle.std.proofs.Common.{Result, Ok, Err, Option, Some, None}
use Rattle.octets.specs.Test.{every, same_list}
use Rattle.octets.specs.Walk.{Walk}
use Rattle.octets.proofs.Cases.{by-test, apart, both, neither}
use Rattle.octets.proofs.Facts.{Octets}
use Rattle.octets.proofs.TestLaws.{same-list, list_same}
use Rattle.rule.specs.declared.Family.{Family}
use Rattle.rule.specs.declared.Refusal.{Refusal}
use Rattle.rule.specs.declared.Located.{Located}
use Rattle.rule.specs.Component.{body_end, component_at, located}
use Rattle.rule.specs.Value.{most_value, between, Component, component, components_from, components, check_value}
use Rattle.spelling.specs.Plain.{plain}
use Rattle.rule.proofs.ValueLaws.{was-found, components-more, components-none, components-refused, check-walk, accepted-small, accepted-head, accepted-some}
use Rattle.spelling.proofs.PlainWalkLaws.{plain_body, plain-each, body-alone}
use Rattle.action.specs.Possible.{could_be}
use Rattle.entry.specs.Entry.{Entry, is_accepted, plain_value, possible}

-- whether a walk over a value is accepted, and each body that it finds plain
abbrev pub plain_walk : Family → Walk Component (Result Unit Refusal) → Bool
plain_walk family w = is_accepted w.ending && every (plain_body family) w.items

-- and the walk from a place on
abbrev pub plain_on : Family → List ℕ → ℕ → ℕ → Bool
plain_on family v at previous = plain_walk family (components_from family v (record { at = at; previous = previous }))

accepts-only : (c : Result Unit Refusal) → is_accepted c ≡ true → c ≡ Ok tt
accepts-only (Ok tt) e = refl
accepts-only (Err refusal) e = apart (cc)

-- how `is_plain_value` goes on and comes to each of its answers
module _ (family : Family) (v : List ℕ) where
  abbrev outside : Bool
  outside = ltb most_value (length v) || leb (length v) family.head

  pub value-outside : outside ≡ true → false ≡ plain_value family v
  unfolding plain_value
  value-outside h = never (check_value family v) refl
    where
      never : (c : Result Unit Refusal) → check_value family v ≡ c → false ≡ (is_accepted c && same_list (plain family v) v)
      never (Err refusal) e = refl
      never (Ok tt) e =
          let small = accepted-small family v e in
          let some = accepted-head family v e in
          let z : outside ≡ false = rw (le-ltb most_value (length v) small, lt-leb (length v) family.head some) in
          apart (cc)

  pub value-starts : Octets v → outside ≡ false → plain_value family v ≡ plain_on family v family.head 0
  unfolding plain_value components
  value-starts o h =
      let n = neither (ltb most_value (length v)) (leb (length v) family.head) h in
      let small = ltb-false most_value (length v) n.0 in
      let some = leb-false (length v) family.head n.1 in
      let walk = check-walk family v small (rw (ne_eqb (length v) 0 (λ z. omega arith), ne_eqb (length v) family.head (λ z. omega arith))) (omega arith) in
      by-test (is_accepted (check_value family v))
      (λ t. ap₂ (λ (a b : Bool). a && b) (ap is_accepted walk) (plain-each family v o (accepts-only (check_value family v) t)))
      (λ t. rw (← walk, t))

  module _ (at previous : ℕ) (next : Result (Option Located) Refusal) (is : next ≡ component_at family v at previous) (so_far : plain_value family v ≡ plain_on family v at previous) where
    module _ (kind behind : ℕ) (found : next ≡ Ok (Some (located kind behind))) where
      pub body-found : (body : List ℕ) → body ≡ between v (at + 1) behind → body_end family kind body 0 ≡ Ok (length body)
      body-found body handed = rw handed (body-alone family kind v (at + 1) behind (was-found family v at previous kind behind (sym is ∙ found)).ends)

      pub value-nearer : length v - behind < length v - at
      value-nearer = let w = (was-found family v at previous kind behind (sym is ∙ found)).within in omega arith

      module _ (body : List ℕ) (r : Bool) (handed : body ≡ between v (at + 1) behind) (says : r ≡ plain_body family (component kind body)) where
        one_more : plain_value family v ≡ (is_accepted (components_from family v (record { at = behind; previous = kind })).ending
            && (r && every (plain_body family) (components_from family v (record { at = behind; previous = kind })).items))
        unfolding every
        one_more = so_far ∙ ap (plain_walk family) (components-more family v at previous kind behind (sym is ∙ found)) ∙ rw (says, handed)

        pub value_on : r ≡ true → plain_value family v ≡ plain_on family v behind kind
        value_on h = one_more ∙ rw h

        pub value_out : r ≡ false → false ≡ plain_value family v
        value_out h =
            sym (one_more ∙ rw h (and-false (is_accepted (components_from family v (record { at = behind; previous = kind })).ending)))

    pub value-end : next ≡ Ok None → true ≡ plain_value family v
    unfolding every
    value-end e = sym (so_far ∙ ap (plain_walk family) (components-none family v at previous (sym is ∙ e)))

    pub value-cut : (refusal : Refusal) → next ≡ Err refusal → false ≡ plain_value family v
    value-cut refusal e = sym (so_far ∙ ap (plain_walk family) (components-refused family v at previous refusal (sym is ∙ e)))

-- what a value that the table may hold is
pub record Held (family : Family) (v : List ℕ) : Type 0 where
  pub accepted : check_value family v ≡ Ok tt
  pub spelled : plain family v ≡ v
  pub some : 1 ≤ length v
  pub small : length v ≤ most_value

pub held : (family : Family) (v : List ℕ) → plain_value family v ≡ true → Held family v
unfolding plain_value
held family v e =
    let t = both (is_accepted (check_value family v)) (same_list (plain family v) v) e in
    let ok = accepts-only (check_value family v) t.0 in
    let some = accepted-some family v ok in
    record { accepted = ok; spelled = same-list (plain family v) v t.1; some = omega arith; small = accepted-small family v ok }

pub holds : (family : Family) (v : List ℕ) → check_value family v ≡ Ok tt → plain family v ≡ v → plain_value family v ≡ true
unfolding plain_value
holds family v ok same = rw (ok, same) (list_same v)

-- what an entry that could be is
pub record Possible (family : Family) (e : Entry) : Type 0 where
  pub originates : e.origin.originator < 2 ^ 32
  pub acts : could_be e.actions ≡ true
  pub value : Held family e.value

pub is-possible : (family : Family) (e : Entry) → possible family e ≡ true → Possible family e
unfolding possible
is-possible family e h =
    let o = both (ltb e.origin.originator (2 ^ 32)) (could_be e.actions && plain_value family e.value) h in
    let a = both (could_be e.actions) (plain_value family e.value) o.1 in
    record { originates = ltb-true _ _ o.0; acts = a.0; value = held family e.value a.1 }

pub make-possible : (family : Family) (e : Entry) → e.origin.originator < 2 ^ 32 → could_be e.actions ≡ true → plain_value family e.value ≡ true
    → possible family e ≡ true
unfolding possible
make-possible family e o a v = rw (lt-ltb _ _ o, a, v)
