-- The destination of a value: types rise strictly, so only the first component can be of type 1. Assumes nothing.
use mathlib.Core.Path.{◌≡◌, refl, sym, ap, ◌∙◌}
use mathlib.Core.List.{List}
use Prim.Native.Nat.{ℕ, ◌+◌, ◌≤◌}
use native.Mathlib.Omega.{arith}
use borrow.Author.Tests.{eq-eqb, ne_eqb}
use Rattle.std.proofs.Common.{Option, Some, None}
use Rattle.octets.specs.Walk.{Walk}
use Rattle.prefix.specs.declared.Prefix.{Prefix}
use Rattle.prefix.specs.Prefix.{Pattern, pattern_of, pattern_in}
use Rattle.rule.specs.declared.Family.{Family}
use Rattle.rule.specs.Component.{component_at}
use Rattle.rule.specs.Value.{Component, between, components_from, components}
use Rattle.rule.proofs.ValueLaws.{was-found, components-more, components-none, components-refused, components-ind}
use Rattle.route.specs.Destination.{destination_for, destination_among, destination_of}
use Rattle.std.proofs.Common.{Result, Ok, Err}
use Rattle.rule.specs.declared.Refusal.{Refusal}
use Rattle.rule.specs.declared.Located.{Located}
use Rattle.rule.specs.Component.{located}

-- how `destination_for` comes to its answers
module _ (family : Family) (kind : ℕ) (body : List ℕ) where
  pub one-prefix : (p : Prefix) → kind ≡ 1 → pattern_of p ≡ pattern_in family.width family.offsets body
      → Some (pattern_of p) ≡ destination_for family (record { kind = kind; body = body }) None
  unfolding destination_for
  one-prefix p h e = rw (eq-eqb kind 1 h, e)

  pub other-kind : (kind ≡ 1 → ⊥) → None ≡ destination_for family (record { kind = kind; body = body }) None
  unfolding destination_for
  other-kind h = rw (ne_eqb kind 1 h)

module _ (family : Family) (v : List ℕ) where
  -- behind a component there is no destination
  Later : ℕ → ℕ → Walk Component (Result Unit Refusal) → Type 0
  Later at previous w = 1 ≤ previous → destination_among family w.items ≡ None

  later : (at previous : ℕ) → Later at previous (components_from family v (record { at = at; previous = previous }))
  unfolding Later destination_among destination_for
  later =
      components-ind family v Later (λ at previous e h. refl) (λ at previous refusal e h. refl)
      (λ at previous kind next w e rest h.
      let f = was-found family v at previous kind next e in
      let rises = f.rises in
      rw (ne_eqb kind 1 (omega arith)) (rest (omega arith)))

  parts : Walk Component (Result Unit Refusal) → List Component
  parts w = w.items

  -- how `destination_of` comes to its answers
  module _ (next : Result (Option Located) Refusal) (is : next ≡ component_at family v family.head 0) where
    pub by_first : (kind behind : ℕ) (body : List ℕ) (r : Option Pattern) → next ≡ Ok (Some (located kind behind)) → body ≡ between v (family.head + 1) behind
        → r ≡ destination_for family (record { kind = kind; body = body }) None → r ≡ destination_of family v
    unfolding destination_of components destination_among parts Later
    by_first kind behind body r e handed s =
        let f = was-found family v family.head 0 kind behind (sym is ∙ e) in
        let given = f.given in
        let c = ap parts (components-more family v family.head 0 kind behind (sym is ∙ e)) in
        s ∙ ap (λ (x : List ℕ). destination_for family (record { kind = kind; body = x }) None) handed ∙ rw (c, later behind kind (omega arith))

    pub by-none : next ≡ Ok None → None ≡ destination_of family v
    unfolding destination_of components destination_among parts
    by-none e = rw (ap parts (components-none family v family.head 0 (sym is ∙ e)))

    pub by-refused : (refusal : Refusal) → next ≡ Err refusal → None ≡ destination_of family v
    unfolding destination_of components destination_among parts
    by-refused refusal e = rw (ap parts (components-refused family v family.head 0 refusal (sym is ∙ e)))
