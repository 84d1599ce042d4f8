-- Comparing component by component: one law for each way in which the code comes to an answer. Assumes nothing.
use mathlib.Core.Path.{◌≡◌, refl, sym, ap, ap₂, ◌∙◌}
use mathlib.Core.Bool.{true, false}
use mathlib.Core.List.{List, [], ◌∷◌}
use Prim.Native.Nat.{ℕ, ◌+◌, ◌<◌, ◌≤◌, min, compare, Ordering}
use native.Mathlib.Omega.{arith}
use native.Mathlib.Decide.{dec_lt}
use lib.ListN.{length, take}
use lib.Seq.{take_all}
use Rattle.std.proofs.Common.{Result, Ok, Err, Option, Some, None}
use Rattle.std.specs.declared.cmp.Ordering.{Ordering as Order}
use Rattle.std.specs.declared.cmp.Ordering.TheVariants.{Less, Equal, Greater}
use Rattle.octets.specs.Order.{then, lex, ordered}
use Rattle.octets.specs.Walk.{Walk}
use Rattle.octets.proofs.Cases.{apart}
use Rattle.octets.proofs.OrderLaws.{lt-cmp, gt-cmp, eq-cmp, nat-order, then-eq}
use Rattle.prefix.specs.declared.Prefix.{Prefix}
use Rattle.prefix.specs.Prefix.{pattern_of, prefix_order, pattern_in}
use Rattle.rule.specs.declared.Family.{Family}
use Rattle.rule.specs.declared.Shape.{Shape}
use Rattle.rule.specs.declared.Refusal.{Refusal}
use Rattle.rule.specs.declared.Located.{Located}
use Rattle.rule.specs.Shape.{shape_of}
use Rattle.rule.specs.Component.{component_at, located}
use Rattle.rule.specs.Value.{Component, component, between, components}
use Rattle.spelling.specs.Plain.{plain}
use Rattle.rule.proofs.ValueLaws.{was-found, components-more, components-none, components-refused}
use Rattle.order.specs.declared.Turn.{Turn}
use Rattle.order.specs.declared.Turn.TheVariants.{Decided, Tied}
use Rattle.order.specs.Precedence.{body_order, component_order, components_order, heads_order, plain_order, precedence}
use Rattle.order.specs.Turn.{components_left, runs_out, turn_for, Turned}

-- two bodies
module _ (family : Family) (kind : ℕ) (a b : List ℕ) (shape : Shape) (is : shape ≡ shape_of family kind) (r : Order) where
  pub order-prefixes : (here there : Prefix) → shape.prefix ≡ true → pattern_of here ≡ pattern_in family.width family.offsets a
      → pattern_of there ≡ pattern_in family.width family.offsets b → r ≡ ordered (prefix_order family.width (pattern_of here) (pattern_of there))
      → r ≡ ordered (body_order family kind a b)
  unfolding body_order
  order-prefixes here there h f g e = e ∙ rw (← is, h, f, g)

  pub order-octets : shape.prefix ≡ false → r ≡ ordered (lex compare a b) → r ≡ ordered (body_order family kind a b)
  unfolding body_order
  order-octets h e = rw (← is, h) e

-- two components
module _ (family : Family) (kind other : ℕ) (a b : List ℕ) where
  pub order-lower : kind < other → Less ≡ ordered (component_order family (record { kind = kind; body = a }) (record { kind = other; body = b }))
  unfolding component_order
  order-lower h = rw (lt-cmp kind other h)

  pub order-higher : other < kind → Greater ≡ ordered (component_order family (record { kind = kind; body = a }) (record { kind = other; body = b }))
  unfolding component_order
  order-higher h = rw (gt-cmp kind other h)

  pub order-bodies : (r : Order) → other ≤ kind → kind ≤ other → r ≡ ordered (body_order family kind a b)
      → r ≡ ordered (component_order family (record { kind = kind; body = a }) (record { kind = other; body = b }))
  unfolding component_order
  order-bodies r h k e = rw (eq-cmp kind other (omega arith)) e

-- components that tie have one type
same_kind : (family : Family) (kind other : ℕ) (a b : List ℕ) → component_order family (record { kind = kind; body = a }) (record { kind = other; body = b }) ≡ Ordering.eq → kind ≡ other
unfolding component_order
same_kind family kind other a b e = nat-order.only kind other (then-eq (compare kind other) (body_order family kind a b) e).0

parts : Walk Component (Result Unit Refusal) → List Component
parts w = w.items

-- what is left of a value, by what the cursor found
module _ (family : Family) (v : List ℕ) (at previous : ℕ) where
  left-none : component_at family v at previous ≡ Ok None → components_left family v at previous ≡ []
  unfolding parts
  left-none e = ap parts (components-none family v at previous e)

  left-refused : (refusal : Refusal) → component_at family v at previous ≡ Err refusal → components_left family v at previous ≡ []
  unfolding parts
  left-refused refusal e = ap parts (components-refused family v at previous refusal e)

  left-more : (kind next : ℕ) → component_at family v at previous ≡ Ok (Some (located kind next))
      → components_left family v at previous ≡ record { kind = kind; body = between v (at + 1) next } ∷ components_left family v next kind
  unfolding parts
  left-more kind next e = ap parts (components-more family v at previous kind next e)

-- one turn, by what the cursor found in each value
module _ (family : Family) (v : List ℕ) (here : ℕ) (w : List ℕ) (there previous : ℕ) (left right : Result (Option Located) Refusal)
    (is : left ≡ component_at family v here previous) (other-is : right ≡ component_at family w there previous) where
  at_left : component_at family v here previous ≡ left
  at_left = sym is

  at_right : component_at family w there previous ≡ right
  at_right = sym other-is

  right-out : (r : Order) → components_left family v here previous ≡ [] → r ≡ runs_out right → Turned family v here w there previous (Decided r)
  unfolding components_order
  right-out r none e = record { says = e ∙ go right at_right; ahead = tt }
    where
      go : (x : Result (Option Located) Refusal) → component_at family w there previous ≡ x → runs_out x ≡ ordered (components_order family (components_left family v here previous) (components_left family w there previous))
      go (Ok None) q = rw (none, left-none family w there previous q)
      go (Ok (Some found)) q = rw (none, left-more family w there previous found.kind found.next q)
      go (Err refusal) q = rw (none, left-refused family w there previous refusal q)

  pub turn-none : (r : Order) → left ≡ Ok None → r ≡ runs_out right → Turned family v here w there previous (Decided r)
  turn-none r e = right-out r (left-none family v here previous (at_left ∙ e))

  pub turn-refused : (r : Order) (refusal : Refusal) → left ≡ Err refusal → r ≡ runs_out right → Turned family v here w there previous (Decided r)
  turn-refused r refusal e = right-out r (left-refused family v here previous refusal (at_left ∙ e))

  module _ (kind next : ℕ) (found : left ≡ Ok (Some (located kind next))) where
    pub turn-second-none : right ≡ Ok None → Turned family v here w there previous (Decided Less)
    unfolding components_order
    turn-second-none e = record { says = rw (left-more family v here previous kind next (at_left ∙ found), left-none family w there previous (at_right ∙ e)); ahead = tt }

    pub turn-second-refused : (refusal : Refusal) → right ≡ Err refusal → Turned family v here w there previous (Decided Less)
    unfolding components_order
    turn-second-refused refusal e =
        record { says = rw (left-more family v here previous kind next (at_left ∙ found), left-refused family w there previous refusal (at_right ∙ e)); ahead = tt }

    module _ (other behind : ℕ) (also : right ≡ Ok (Some (located other behind))) where
      pub turn-both : (body against : List ℕ) → body ≡ between v (here + 1) next → against ≡ between w (there + 1) behind → (order : Order) (turn : Turn)
          → order ≡ ordered (component_order family (component kind body) (component other against)) → turn ≡ turn_for order kind next behind → Turned family v here w there previous turn
      unfolding components_order
      turn-both body against b a order turn e f =
          let same = ap₂ (λ (x y : List ℕ). ordered (component_order family (component kind x) (component other y))) b a in
          rw (f, e, same) (go (component_order family (record { kind = kind; body = between v (here + 1) next }) (record { kind = other; body = between w (there + 1) behind })) refl)
        where
          both : ordered (components_order family (components_left family v here previous) (components_left family w there previous))
              ≡ ordered (then (component_order family (record { kind = kind; body = between v (here + 1) next }) (record { kind = other; body = between w (there + 1) behind }))
              (components_order family (components_left family v next kind) (components_left family w behind other)))
          both = rw (left-more family v here previous kind next (at_left ∙ found), left-more family w there previous other behind (at_right ∙ also))

          go : (o : Ordering) → component_order family (record { kind = kind; body = between v (here + 1) next }) (record { kind = other; body = between w (there + 1) behind }) ≡ o
              → Turned family v here w there previous (turn_for (ordered o) kind next behind)
          go Ordering.lt q = record { says = sym (both ∙ rw q); ahead = tt }
          go Ordering.eq q =
              let inside = (was-found family v here previous kind next (at_left ∙ found)).within in
              let tied : ordered (components_order family (components_left family v here previous) (components_left family w there previous))
              ≡ ordered (components_order family (components_left family v next kind) (components_left family w behind other)) = both ∙ rw q in
              let e = ap (λ k. ordered (components_order family (components_left family v next kind) (components_left family w behind k))) (same_kind family kind other _ _ q) in
              record { says = e ∙ sym tied; ahead = (omega arith, omega arith) }
          go Ordering.gt q = record { says = sym (both ∙ rw q); ahead = tt }

-- how `compare_lists` goes on and comes to its answer
module _ (family : Family) (v : List ℕ) (here : ℕ) (w : List ℕ) (there previous : ℕ) (turn : Turn) (turned : Turned family v here w there previous turn) (whole : Order)
    (so_far : whole ≡ ordered (components_order family (components_left family v here previous) (components_left family w there previous))) where
  pub lists-decided : (order : Order) → turn ≡ Decided order → order ≡ whole
  lists-decided order e = rw e at turned.says ∙ sym so_far

  pub lists-tied : (kind next behind : ℕ) → turn ≡ Tied kind next behind → whole ≡ ordered (components_order family (components_left family v next kind) (components_left family w behind kind))
  lists-tied kind next behind e = so_far ∙ sym (rw e at turned.says)

  pub lists-ahead : (kind next behind : ℕ) → turn ≡ Tied kind next behind → (here < next) × (next ≤ length v)
  lists-ahead kind next behind e = rw e at turned.ahead

-- an earlier comparison decides, and where it ties the later one does
first_then : (o p : Ordering) (r : Order) → r ≡ ordered o → r ≡ Less → Less ≡ ordered (then o p)
first_then Ordering.lt p r is e = refl
first_then Ordering.eq p r is e = apart (cc)
first_then Ordering.gt p r is e = apart (cc)

second-then : (o p : Ordering) (r : Order) → r ≡ ordered o → r ≡ Greater → Greater ≡ ordered (then o p)
second-then Ordering.lt p r is e = apart (cc)
second-then Ordering.eq p r is e = apart (cc)
second-then Ordering.gt p r is e = refl

same_then : (o p : Ordering) (r : Order) → r ≡ ordered o → r ≡ Equal → (s : Order) → s ≡ ordered p → s ≡ ordered (then o p)
same_then Ordering.lt p r is e s h = apart (cc)
same_then Ordering.eq p r is e s h = h
same_then Ordering.gt p r is e s h = apart (cc)

-- how `compare_heads` comes to its answer
pub heads-taken : (family : Family) (v w : List ℕ) (here there : ℕ) (r : Order) → here ≡ min family.head (length v) → there ≡ min family.head (length w)
    → r ≡ ordered (lex compare (take here v) (take there w)) → r ≡ ordered (heads_order family v w)
heads-taken family v w here there r h k e = e ∙ ap₂ (λ a b. ordered (lex compare a b)) (front v here h) (front w there k)
  where
    front : (v : List ℕ) (n : ℕ) → n ≡ min family.head (length v) → take n v ≡ take family.head v
    front v n e =
        elim (dec_lt family.head (length v)) [
          | yes h ↦ let s : n ≡ family.head = omega arith in rw s
          | no h ↦ take_all n v (omega arith) ∙ sym (take_all family.head v (omega arith))
        ]

-- how `compare_plain` comes to its answers
module _ (family : Family) (v w : List ℕ) (heads : Order) (is : heads ≡ ordered (heads_order family v w)) where
  pub plain-first : heads ≡ Less → Less ≡ ordered (plain_order family v w)
  unfolding plain_order
  plain-first = first_then (heads_order family v w) _ heads is

  pub plain_second : heads ≡ Greater → Greater ≡ ordered (plain_order family v w)
  unfolding plain_order
  plain_second = second-then (heads_order family v w) _ heads is

  pub plain-same : heads ≡ Equal → (r : Order) → r ≡ ordered (components_order family (components family v) (components family w))
      → r ≡ ordered (plain_order family v w)
  unfolding plain_order
  plain-same = same_then (heads_order family v w) _ heads is

-- how `compare_values` comes to its answer
pub spelled-order : (family : Family) (v w first second : List ℕ) (r : Order) → first ≡ plain family v → second ≡ plain family w → r ≡ ordered (plain_order family first second)
    → r ≡ ordered (precedence family v w)
unfolding precedence
spelled-order family v w first second r e f h = h ∙ ap₂ (λ a b. ordered (plain_order family a b)) e f
