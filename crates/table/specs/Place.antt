-- Where a rule stands in a table: the place where its record begins and the place behind it; where it is not held, the place where it
-- would stand, twice.
use Rattle.std.specs.Prelude.{ℕ, ◌+◌, List, [], ◌∷◌}
use Rattle.sorted.specs.Table.{by_order}
use Rattle.rule.specs.declared.Family.{Family}
use Rattle.order.specs.Key.{RuleKey, key_order}
use Rattle.table.specs.declared.Place.{Place}
use Rattle.entry.specs.Entry.{Entry, entry_key}
use Rattle.table.specs.Sound.{cost}

-- The place of a key among entries whose records begin at a place.
unfoldable pub place_in : Family → RuleKey → ℕ → List Entry → Place
place_in family k at [] = record { start = at; end = at }
place_in family k at (e ∷ es) =
    by_order (key_order k (entry_key family e)) (record { start = at; end = at }) (record { start = at; end = at + cost e })
    (place_in family k (at + cost e) es)
