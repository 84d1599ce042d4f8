-- What the body of each component type is, as one table: a prefix or a list of pairs (`prefix`) and, of a list, whether its operators are
-- bitmask or numeric ones (`bitmask`), the largest size of a value in octets (`largest`), and the bits of a value that are to be ignored
-- (`ignored`). Reading, plain spelling, order and matching go by it.
use Rattle.std.specs.Prelude.{ℕ, ◌-◌, true, false, cond, ◌||◌, eqb}
use Rattle.rule.specs.declared.Family.{Family}
use Rattle.rule.specs.declared.Shape.{Shape}

-- A prefix, which has no pairs.
abbrev pub a_prefix : Shape
a_prefix = record { prefix = true; bitmask = false; largest = 0; ignored = 0 }

-- Pairs of numeric operator and value, of the given largest size and ignored bits.
abbrev pub numeric_pairs : ℕ → ℕ → Shape
numeric_pairs largest ignored = record { prefix = false; bitmask = false; largest = largest; ignored = ignored }

-- Pairs of bitmask operator and value.
abbrev pub bitmask_pairs : ℕ → ℕ → Shape
bitmask_pairs largest ignored = record { prefix = false; bitmask = true; largest = largest; ignored = ignored }

-- 01: "Types 1 (destination) and 2 (source)" are prefixes, "Types 9 TCP flags and 12 fragment: pairs of bitmask operator and value", and
-- every other type has numeric ones. "Sizes: type 9 one or two octets; types 11 and 12 one octet; others any." Ignored are "the top two
-- bits of a DSCP value", which is type 11, and of a fragment value the bits that do not count in the family (in IPv4 "the top four").
unfoldable pub shape_of : Family → ℕ → Shape
shape_of family kind =
    cond (eqb kind 1 || eqb kind 2) a_prefix
    (cond (eqb kind 9) (bitmask_pairs 2 0)
    (cond (eqb kind 11) (numeric_pairs 1 0xc0)
    (cond (eqb kind 12) (bitmask_pairs 1 (0xff - family.fragment))
    (numeric_pairs 8 0))))
