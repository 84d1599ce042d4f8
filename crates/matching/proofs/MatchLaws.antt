-- Components and rules against a packet: one law for each return of the code and each turn of its loop. Assumes nothing.
use mathlib.Core.Path.{◌≡◌, refl, sym, ap, ◌∙◌}
use mathlib.Core.Bool.{Bool, true, false, cond, not, ◌&&◌, ◌||◌, or-false}
use mathlib.Core.List.{List, [], ◌∷◌}
use Prim.Native.Nat.{ℕ, ◌+◌, ◌-◌, ◌<◌}
use native.Mathlib.Omega.{arith}
use lib.Dec.{ltb, eqb}
use lib.ListN.{length}
use borrow.Author.Tests.{ltb-true, ne_eqb, not-true, not-false}
use Rattle.std.proofs.Common.{Option, Some}
use Rattle.octets.specs.Test.{every, one_holds}
use Rattle.octets.specs.Walk.{Walk}
use Rattle.octets.proofs.Cases.{by-test}
use Rattle.prefix.specs.Prefix.{Pattern, address_of, covers_address, pattern_in}
use Rattle.rule.specs.declared.Family.{Family}
use Rattle.rule.specs.declared.Shape.{Shape}
use Rattle.rule.specs.Shape.{shape_of}
use Rattle.rule.specs.Component.{component_at}
use Rattle.rule.specs.Value.{Component, between, components_from, components, component}
use Rattle.rule.proofs.ValueLaws.{was-found, components-more, components-none, components-refused}
use Rattle.packet.specs.declared.Packet.{Packet}
use Rattle.matching.specs.Match.{body_holds, field_matches, fields_for, body_covers, address_for, component_matches, matches}
use Rattle.std.proofs.Common.{Result, Ok, Err, Option, Some, None}
use Rattle.rule.specs.declared.Refusal.{Refusal}
use Rattle.rule.specs.declared.Located.{Located}
use Rattle.rule.specs.Component.{located}

-- how `body_covers` comes to its answer
pub covered : (family : Family) (body : List ℕ) (address : ℕ) (pattern : Pattern) (r : Bool) → pattern ≡ pattern_in family.width family.offsets body
    → r ≡ covers_address family.width pattern address → r ≡ body_covers family body address
unfolding body_covers
covered family body address pattern r e f = rw (← e) f

-- the prefixes are the types 1 and 2
pub prefix-types : (family : Family) (kind : ℕ) → (shape_of family kind).prefix ≡ eqb kind 1 || eqb kind 2
unfolding shape_of
prefix-types family kind =
    by-test (eqb kind 1) (λ t. rw t)
    (λ t. by-test (eqb kind 2) (λ u. rw (t, u))
    (λ u. by-test (eqb kind 9) (λ a. rw (t, u, a))
    (λ a. by-test (eqb kind 11) (λ b. rw (t, u, a, b)) (λ b. by-test (eqb kind 12) (λ c. rw (t, u, a, b, c)) (λ c. rw (t, u, a, b, c))))))

-- how `matches_component` comes to each of its answers
module _ (family : Family) (kind : ℕ) (body : List ℕ) (packet : Packet) where
  pub on-destination : (r : Bool) → kind ≡ 1 → r ≡ body_covers family body (address_of packet.destination) → r ≡ component_matches family packet (component kind body)
  unfolding component_matches
  on-destination r is e = rw (prefix-types family kind, is) e

  pub on-source : (r : Bool) → kind ≡ 2 → r ≡ body_covers family body (address_of packet.source) → r ≡ component_matches family packet (component kind body)
  unfolding component_matches
  on-source r is e = rw (prefix-types family kind, is) e

  -- n is the type of a row of the fields, at which that definition computes
  module _ (n : ℕ) (is : kind ≡ n) (list : ltb 2 n ≡ true) (shape : Shape) (has : shape ≡ shape_of family kind) where
    row_holds : (fields : List (Option ℕ)) → fields_for n packet ≡ fields
        → component_matches family packet (component kind body) ≡ one_holds (field_matches shape body) fields
    unfolding component_matches
    row_holds fields row =
        let above = ltb-true 2 n list in
        let none : (shape_of family kind).prefix ≡ false = prefix-types family kind ∙ rw (ne_eqb kind 1 (λ e. omega arith), ne_eqb kind 2 (λ e. omega arith)) in
        ap (λ (prefix : Bool). cond prefix (body_covers family body (address_of (address_for kind packet))) (one_holds (field_matches (shape_of family kind) body) (fields_for kind packet))) none
        ∙ rw (← has, is, row)

    pub on-field : (field : Option ℕ) (r : Bool) → fields_for n packet ≡ field ∷ [] → r ≡ field_matches shape body field
        → r ≡ component_matches family packet (component kind body)
    unfolding one_holds
    on-field field r row e = e ∙ sym (row_holds (field ∷ []) row ∙ or-false (field_matches shape body field))

    pub on-either : (one other : Option ℕ) (a b : Bool) → fields_for n packet ≡ one ∷ other ∷ [] → a ≡ field_matches shape body one
        → b ≡ field_matches shape body other → a || b ≡ component_matches family packet (component kind body)
    unfolding one_holds
    on-either one other a b row e f = rw (e, f) (sym (row_holds (one ∷ other ∷ []) row ∙ rw (or-false (field_matches shape body other))))

    pub on-number : («data» : ℕ) (r : Bool) → fields_for n packet ≡ Some «data» ∷ [] → r ≡ body_holds shape body «data»
        → r ≡ component_matches family packet (component kind body)
    unfolding field_matches
    on-number «data» r row e = on-field (Some «data») r row e

-- a type that has no row matches nothing
pub on-nothing : (family : Family) (kind : ℕ) (body : List ℕ) (packet : Packet) → (kind ≡ 1 → ⊥) → (kind ≡ 2 → ⊥) → (kind ≡ 3 → ⊥) → (kind ≡ 4 → ⊥) → (kind ≡ 5 → ⊥)
    → (kind ≡ 6 → ⊥) → (kind ≡ 7 → ⊥) → (kind ≡ 8 → ⊥) → (kind ≡ 9 → ⊥) → (kind ≡ 10 → ⊥) → (kind ≡ 11 → ⊥) → (kind ≡ 12 → ⊥) → (kind ≡ 13 → ⊥)
    → false ≡ component_matches family packet (component kind body)
unfolding component_matches fields_for one_holds
on-nothing family kind body packet a b c d e f g h i j k l m =
    rw (
      prefix-types family kind,
      ne_eqb kind 1 a,
      ne_eqb kind 2 b,
      ne_eqb kind 3 c,
      ne_eqb kind 4 d,
      ne_eqb kind 5 e,
      ne_eqb kind 6 f,
      ne_eqb kind 7 g,
      ne_eqb kind 8 h,
      ne_eqb kind 9 i,
      ne_eqb kind 10 j,
      ne_eqb kind 11 k,
      ne_eqb kind 12 l,
      ne_eqb kind 13 m,
    )

-- how `matches_rule` goes on and comes to each of its answers
abbrev pub matches_from : Family → List ℕ → Packet → ℕ → ℕ → Bool
matches_from family v packet at previous =
    every (component_matches family packet) (components_from family v (record { at = at; previous = previous })).items

pub from_start : (family : Family) (v : List ℕ) (packet : Packet) → matches family v packet ≡ matches_from family v packet family.head 0
unfolding matches components
from_start family v packet = refl

module _ (family : Family) (v : List ℕ) (packet : Packet) (at previous : ℕ) (next : Result (Option Located) Refusal) (is : next ≡ component_at family v at previous)
    (so_far : matches family v packet ≡ matches_from family v packet at previous) where
  abbrev rest : Walk Component (Result Unit Refusal) → Bool
  rest w = every (component_matches family packet) w.items

  module _ (kind behind : ℕ) (body : List ℕ) (r : Bool) (found : next ≡ Ok (Some (located kind behind))) (handed : body ≡ between v (at + 1) behind)
      (says : r ≡ component_matches family packet (component kind body)) where
    one_more : matches family v packet ≡ r && matches_from family v packet behind kind
    unfolding every
    one_more = so_far ∙ ap rest (components-more family v at previous kind behind (sym is ∙ found)) ∙ rw (says, handed)

    pub rule-on : not r ≡ false → matches family v packet ≡ matches_from family v packet behind kind
    rule-on h = one_more ∙ rw (not-false r h)

    pub rule-out : not r ≡ true → false ≡ matches family v packet
    rule-out h = sym (one_more ∙ rw (not-true r h))

    pub rule-nearer : length v - behind < length v - at
    rule-nearer = let w = (was-found family v at previous kind behind (sym is ∙ found)).within in omega arith

  pub rule_end : next ≡ Ok None → true ≡ matches family v packet
  unfolding every
  rule_end e = sym (so_far ∙ ap rest (components-none family v at previous (sym is ∙ e)))

  pub rule-cut : (refusal : Refusal) → next ≡ Err refusal → true ≡ matches family v packet
  unfolding every
  rule-cut refusal e = sym (so_far ∙ ap rest (components-refused family v at previous refusal (sym is ∙ e)))
