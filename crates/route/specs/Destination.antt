-- The destination of a rule: the prefix of its component of type 1, if it has one (RFC 8955 section 4.2.2.1).
use Rattle.std.specs.Prelude.{ℕ, cond, List, [], ◌∷◌, eqb, Option, Some, None}
use Rattle.prefix.specs.Prefix.{Pattern, pattern_in}
use Rattle.rule.specs.declared.Family.{Family}
use Rattle.rule.specs.Value.{Component, components}

-- The destination if this component is of type 1, else what the rest gives.
unfoldable pub destination_for : Family → Component → Option Pattern → Option Pattern
destination_for family p rest = cond (eqb p.kind 1) (Some (pattern_in family.width family.offsets p.body)) rest

-- The destination among components.
unfoldable pub destination_among : Family → List Component → Option Pattern
destination_among family [] = None
destination_among family (p ∷ parts) = destination_for family p (destination_among family parts)

-- The destination of a value.
unfoldable pub destination_of : Family → List ℕ → Option Pattern
destination_of family v = destination_among family (components family v)
