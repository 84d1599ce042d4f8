-- A value is one or more components of strictly rising types (RFC 8955 section 4.2), behind the octets that a family puts before them, its
-- head. Reading goes left to right, and places count from the value's first octet.
use Rattle.std.specs.Prelude.{ℕ, ◌+◌, ◌-◌, cond, ◌||◌, List, [], ◌∷◌, ◌++◌, ltb, eqb, length, take, drop}
use Rattle.octets.specs.Walk.{Step, more, stop, Walk, through}
use Rattle.rule.specs.declared.Family.{Family}
use Rattle.rule.specs.Component.{component_at}
use Rattle.std.specs.Prelude.{Result, Ok, Err, Option, Some, None}
use Rattle.rule.specs.declared.Refusal.{Refusal}
use Rattle.rule.specs.declared.Refusal.TheVariants.{Overlong, Empty, CutShort}
use Rattle.rule.specs.declared.Located.{Located}

-- The octets a value has at most.
abbrev pub most_value : ℕ
most_value = 4095

-- A component, as the RFC has it: its type and its body.
pub record Component : Type 0 where
  pub kind : ℕ
  pub body : List ℕ

-- A component of the given type and body.
abbrev pub component : ℕ → List ℕ → Component
component kind body = record { kind = kind; body = body }

-- The octets that a list of components spells.
unfoldable pub spelled : List Component → List ℕ
spelled [] = []
spelled (p ∷ ps) = p.kind ∷ p.body ++ spelled ps

-- The octets from one place up to another.
abbrev pub between : List ℕ → ℕ → ℕ → List ℕ
between v from to = take (to - from) (drop from v)

-- How far a reader has come: the place, and the type of the component before it.
pub record Progress : Type 0 where
  pub at : ℕ
  pub previous : ℕ

-- The octets before the first component.
abbrev pub head_of : Family → List ℕ → List ℕ
head_of family v = take family.head v

-- How far a reader has come that has read the head and no component.
abbrev pub at_start : Family → Progress
at_start family = record { at = family.head; previous = 0 }

-- A step along a value.
abbrev pub component_step : List ℕ → ℕ → Result (Option Located) Refusal → Step Progress Component (Result Unit Refusal)
component_step v at (Ok None) = stop (Ok tt)
component_step v at (Ok (Some found)) = more (component found.kind (between v (at + 1) found.next)) (record { at = found.next; previous = found.kind })
component_step v at (Err refusal) = stop (Err refusal)

-- The components of a value from a place on, and whether all of it is accepted.
unfoldable pub components_from : Family → List ℕ → Progress → Walk Component (Result Unit Refusal)
components_from family v p =
    through v (Err (CutShort (length v))) (λ (q : Progress). component_step v q.at (component_at family v q.at q.previous)) p

-- The components of a value, in the order in which they stand.
unfoldable pub components : Family → List ℕ → List Component
components family v = (components_from family v (at_start family)).items

-- Refusals 1 to 7 of a value: over 4,095 octets is 1, no octet, or exactly those of the head, 2, fewer than those of the head 6 at the
-- value's end, then 3 to 7 as met.
unfoldable pub check_value : Family → List ℕ → Result Unit Refusal
check_value family v =
    cond (ltb most_value (length v)) (Err Overlong)
    (cond (eqb (length v) 0 || eqb (length v) family.head) (Err Empty)
    (cond (ltb (length v) family.head) (Err (CutShort (length v)))
    (components_from family v (at_start family)).ending))
