-- The plain spelling of a component, of a list's pairs and of one pair, as a reader has them: a component keeps its type, and a pair its
-- size. That the plain spelling of an accepted value is its head and just these components, and a plain list just these pairs, are the
-- laws `plain-whole` and `pairs-plain`.
use Rattle.std.specs.Prelude.{Bool, false, List, [], ◌∷◌}
use Rattle.rule.specs.declared.Family.{Family}
use Rattle.rule.specs.declared.Shape.{Shape}
use Rattle.rule.specs.Component.{Pair}
use Rattle.rule.specs.Value.{Component, component}
use Rattle.spelling.specs.Plain.{body_of, plain_operator, plain_operand, plain_from}

-- The plain spelling of a pair, the list's first or a later one.
abbrev pub plain_pair : Shape → Bool → Pair → Pair
plain_pair shape first p =
    record { operator = plain_operator shape.bitmask first p.operator; value = plain_operand shape.ignored p.value }

-- The plain spelling of pairs, from the list's first on (`first`) or from a later one on; only the list's first loses its AND.
abbrev pub plain_pairs : Shape → Bool → List Pair → List Pair
plain_pairs shape first [] = []
plain_pairs shape first (p ∷ ps) = plain_pair shape first p ∷ plain_pairs shape false ps

-- The plain spelling of a component.
abbrev pub plain_component : Family → Component → Component
plain_component family p = component p.kind (plain_from family (body_of family p.kind) p.body)
