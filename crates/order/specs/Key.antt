-- The key of a rule: RFC 8955 section 5.1 is one lexicographic order of these keys, in which elements are compared one after the other
-- and what runs out first comes later.
use Prim.Native.Nat.{ℕ, compare, Ordering}
use Rattle.std.specs.Prelude.{cond, List, ◌∷◌, map}
use Rattle.octets.specs.Order.{lex}
use Rattle.prefix.specs.Prefix.{Pattern, pattern_bits, pattern_in}
use Rattle.rule.specs.declared.Family.{Family}
use Rattle.rule.specs.Shape.{shape_of}
use Rattle.rule.specs.Value.{Component, head_of, components}
use Rattle.spelling.specs.Plain.{plain}

-- A key: one list of numbers for what stands before the first component, and one for each component.
abbrev pub RuleKey : Type 0
RuleKey = List (List ℕ)

-- The key of a prefix: its offset, as "the lowest offset has precedence" (RFC 8956 section 4), and then its bits, of an address of w
-- bits: a more specific prefix goes on where the other runs out.
abbrev pub pattern_key : ℕ → Pattern → List ℕ
pattern_key w p = p.offset ∷ pattern_bits w p

-- The key of a body: that of a prefix, and of "other bodies: octet order" the octets.
unfoldable pub body_key : Family → ℕ → List ℕ → List ℕ
body_key family kind body =
    cond (shape_of family kind).prefix (pattern_key family.width (pattern_in family.width family.offsets body)) body

-- The key of a component: its type, as "of two types the lower comes first", then the key of its body.
unfoldable pub key_of : Family → Component → List ℕ
key_of family p = p.kind ∷ body_key family p.kind p.body

-- The key of a value: of its plain spelling, the octets before the first component, and the keys of the components.
unfoldable pub keys_of : Family → List ℕ → RuleKey
keys_of family v = head_of family (plain family v) ∷ map (key_of family) (components family (plain family v))

-- The order of keys: list by list, and within a list number by number.
abbrev pub key_order : RuleKey → RuleKey → Ordering
key_order = lex (lex compare)
