-- How the code tests that records stand in precedence order: each against the one before it. No promise names these words.
use Rattle.std.specs.Prelude.{ℕ, ◌+◌, ◌≤◌, ◌≡◌, Bool, true, false, cond, List, eqb, length}
use Rattle.sorted.specs.Table.{by_order}
use Rattle.rule.specs.declared.Family.{Family}
use Rattle.rule.specs.Value.{between}
use Rattle.order.specs.Precedence.{plain_order}
use Rattle.entry.specs.Record.{head_cost}

-- A record ends at a place, unless that is octet 0, and another stands from there up to the next place.
pub record Adjacent (t : List ℕ) (previous at next : ℕ) : Type 0 where
  pub before : (at ≡ 0 → ⊥) → previous + head_cost ≤ at
  pub here : at + head_cost ≤ next
  pub within : next ≤ length t

-- The record at `at` comes after the record at `previous` in precedence order; a record at octet 0 has none before it.
unfoldable pub follows_at : Family → List ℕ → ℕ → ℕ → ℕ → Bool
follows_at family t previous at next =
    cond (eqb at 0) true
    (by_order (plain_order family (between t (previous + head_cost) at) (between t (at + head_cost) next)) true false false)
