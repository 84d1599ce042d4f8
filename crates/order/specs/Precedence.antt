-- Which of two rules comes first (RFC 8955 section 5.1). `lt` means the first of the two, `gt` the second, `eq`, of accepted
-- values, that they are the same rule. Rules are compared in their plain spelling, component by component.
use Prim.Native.Nat.{ℕ, compare, Ordering}
use Rattle.std.specs.Prelude.{cond, List}
use Rattle.octets.specs.Order.{then, lex}
use Rattle.prefix.specs.Prefix.{prefix_order, pattern_in}
use Rattle.rule.specs.declared.Family.{Family}
use Rattle.rule.specs.Shape.{shape_of}
use Rattle.rule.specs.Value.{Component, head_of, components}
use Rattle.spelling.specs.Plain.{plain}

-- Two bodies of one type: prefixes as prefixes, "other bodies: octet order, the lower first".
unfoldable pub body_order : Family → ℕ → List ℕ → List ℕ → Ordering
body_order family kind a b =
    cond (shape_of family kind).prefix
    (prefix_order family.width (pattern_in family.width family.offsets a) (pattern_in family.width family.offsets b))
    (lex compare a b)

-- Two components: "of two types the lower comes first", and within a type the bodies decide.
unfoldable pub component_order : Family → Component → Component → Ordering
component_order family a b = then (compare a.kind b.kind) (body_order family a.kind a.body b.body)

-- Two lists of components: "component by component"; "a rule that runs out first comes later".
unfoldable pub components_order : Family → List Component → List Component → Ordering
components_order family = lex (component_order family)

-- The octets before the first component of two values, of which IPv4 and IPv6 have none.
abbrev pub heads_order : Family → List ℕ → List ℕ → Ordering
heads_order family v w = lex compare (head_of family v) (head_of family w)

-- Two values in their plain spelling: the octets before the components decide, and then the components.
unfoldable pub plain_order : Family → List ℕ → List ℕ → Ordering
plain_order family v w = then (heads_order family v w) (components_order family (components family v) (components family w))

-- Two values.
unfoldable pub precedence : Family → List ℕ → List ℕ → Ordering
precedence family v w = plain_order family (plain family v) (plain family w)
