-- One turn of a comparison, as the code makes it: what it finds, and how that stands to what is left of both values.
-- No promise to a caller names these words.
use Rattle.std.specs.Prelude.{ℕ, ◌<◌, ◌≤◌, ◌≡◌, List, length, Result, Ok, Err, Option, Some, None}
use Rattle.std.specs.declared.cmp.Ordering.{Ordering as Order}
use Rattle.std.specs.declared.cmp.Ordering.TheVariants.{Less, Equal, Greater}
use Rattle.octets.specs.Order.{ordered}
use Rattle.rule.specs.declared.Family.{Family}
use Rattle.rule.specs.declared.Refusal.{Refusal}
use Rattle.rule.specs.declared.Located.{Located}
use Rattle.rule.specs.Value.{Component, components_from}
use Rattle.order.specs.declared.Turn.{Turn}
use Rattle.order.specs.declared.Turn.TheVariants.{Decided, Tied}
use Rattle.order.specs.Precedence.{components_order}

-- The components from a place on, behind one of the type `previous`.
abbrev pub components_left : Family → List ℕ → ℕ → ℕ → List Component
components_left family v at previous = (components_from family v (record { at = at; previous = previous })).items

-- The answer where the first value has no further component: it comes later, unless the second has none either; a refusal counts as none.
abbrev pub runs_out : Result (Option Located) Refusal → Order
runs_out (Ok None) = Equal
runs_out (Ok (Some found)) = Greater
runs_out (Err refusal) = Equal

-- What the order of two components means for the turn.
abbrev pub turn_for : Order → ℕ → ℕ → ℕ → Turn
turn_for Less kind here there = Decided Less
turn_for Greater kind here there = Decided Greater
turn_for Equal kind here there = Tied kind here there

-- The answer for both values, where a turn decided it or what is left decides it.
abbrev pub settled : Family → List ℕ → List ℕ → Turn → Order
settled family v w (Decided order) = order
settled family v w (Tied kind here there) =
    ordered (components_order family (components_left family v here kind) (components_left family w there kind))

-- A turn that ties goes on in the first value.
abbrev pub Ahead : List ℕ → ℕ → Turn → Type 0
Ahead v at (Decided order) = Unit {0}
Ahead v at (Tied kind here there) = (at < here) × (here ≤ length v)

-- What a turn must say.
pub record Turned (family : Family) (v : List ℕ) (here : ℕ) (w : List ℕ) (there previous : ℕ) (turn : Turn) : Type 0 where
  pub says : settled family v w turn
      ≡ ordered (components_order family (components_left family v here previous) (components_left family w there previous))
  pub ahead : Ahead v here turn
