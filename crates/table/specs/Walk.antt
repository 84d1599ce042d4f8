-- Going through a table's octets record by record. 01: "Records stand from octet 0 in precedence order; all after is zero." A value has
-- at least one octet, so a value length of 0 stands behind the last record; octets past the buffer's end count as 0.
use Rattle.std.specs.Prelude.{ℕ, ◌+◌, ◌-◌, Bool, true, false, cond, List, map, ltb, eqb, length, drop}
use Rattle.octets.specs.Number.{number_at}
use Rattle.octets.specs.Test.{all_zero}
use Rattle.octets.specs.Walk.{Step, more, stop, Walk, walk}
use Rattle.rule.specs.Value.{between}
use Rattle.entry.specs.Entry.{Entry}
use Rattle.entry.specs.Record.{length_width, head_cost, entry_of}
use Rattle.std.specs.Prelude.{Result, Ok, Err, Option, Some, None}
use Rattle.rule.specs.declared.Refusal.{Refusal}
use Rattle.rule.specs.declared.Refusal.TheVariants.{UnsoundTable}

-- What stands at a place: nothing more, where all octets from there on are zero; a record, with the place behind it; or octets that are
-- neither a record nor all zero.
unfoldable pub record_at : List ℕ → ℕ → Result (Option ℕ) Refusal
record_at t at =
    let size = number_at length_width t at in
    cond (eqb size 0) (cond (all_zero (drop at t)) (Ok None) (Err UnsoundTable))
    (cond (ltb (length t - at) (head_cost + size)) (Err UnsoundTable) (Ok (Some (at + (head_cost + size)))))

-- A step along a table.
abbrev pub record_step : List ℕ → ℕ → Result (Option ℕ) Refusal → Step ℕ (List ℕ) Bool
record_step t at (Ok None) = stop true
record_step t at (Ok (Some next)) = more (between t at next) next
record_step t at (Err refusal) = stop false

-- The records from a place on, each as its octets, and whether nothing but records and zeros stands there.
unfoldable pub records_from : List ℕ → ℕ → Walk (List ℕ) Bool
records_from t at = walk (length t + 1) false (λ i. record_step t i (record_at t i)) at

-- The records of a table.
unfoldable pub records : List ℕ → List (List ℕ)
records t = (records_from t 0).items

-- The entries of a table.
unfoldable pub entries : List ℕ → List Entry
entries t = map entry_of (records t)
