-- A list of pairs of operator and value, evaluated by a test of single pairs (RFC 8955 section 4.2.1.1, "AND bit"): "The AND operator has
-- higher priority than OR". So a list is groups of pairs; it holds where one of its groups does, and a group where all its pairs do.
use Rattle.std.specs.Prelude.{Bool, cond, List, [], ◌∷◌, ◌++◌}
use Rattle.octets.specs.Test.{every, one_holds}
use Rattle.rule.specs.Component.{Pair}
use Rattle.octets.specs.Bit.{has}

-- 0x40 joins a pair to the one before it by AND.
abbrev pub joins : Pair → Bool
joins pair = has pair.operator 0x40

-- The groups of a list whose first group has begun: a pair that AND joins goes into the group, any other begins a new one.
unfoldable pub groups_from : List Pair → List Pair → List (List Pair)
groups_from group [] = group ∷ []
groups_from group (p ∷ ps) = cond (joins p) (groups_from (group ++ p ∷ []) ps) (group ∷ groups_from (p ∷ []) ps)

-- The groups of a list. The first pair begins one; its AND bit is "treated as always unset".
unfoldable pub groups : List Pair → List (List Pair)
groups [] = []
groups (p ∷ ps) = groups_from (p ∷ []) ps

-- An OR of ANDs: some group all of whose pairs hold.
unfoldable pub list_holds : (Pair → Bool) → List Pair → Bool
list_holds test pairs = one_holds (every test) (groups pairs)
