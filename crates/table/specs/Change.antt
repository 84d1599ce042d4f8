-- What a call does to a sound table. That is said once, of lists of records (`apply` in sorted/specs/History.antt): on octets it is decode,
-- apply, encode.
use Rattle.std.specs.Prelude.{ℕ, ◌≡◌, Bool, true, cond, List, leb, eqb, length, Result, Ok}
use Rattle.sorted.specs.Table.{lookup, insert}
use Rattle.sorted.specs.History.{Op, costs, is_held, apply}
use Rattle.rule.specs.declared.Family.{Family}
use Rattle.rule.specs.Family.{Fits}
use Rattle.rule.specs.declared.Refusal.{Refusal}
use Rattle.rule.specs.Refusal.{refused_with}
use Rattle.order.specs.Key.{RuleKey, key_order}
use Rattle.entry.specs.Entry.{Entry, entry_key}
use Rattle.table.specs.declared.Answer.{Answer}
use Rattle.table.specs.Walk.{entries}
use Rattle.table.specs.Sound.{cost, table_of, sound_table}

-- Whether a rule is held, by its key.
unfoldable pub holds : Family → List ℕ → RuleKey → Bool
holds family t k = is_held (lookup key_order (entry_key family) k (entries t))

-- 01: "No room means exactly that the costs after the call would pass the buffer's length."
unfoldable pub has_room : Family → List ℕ → Entry → Bool
has_room family t e = leb (costs cost (insert key_order (entry_key family) e (entries t))) (length t)

-- What a call on a sound table leaves: the refusal's number, 0 where it is done, how many octets the records take, and the octets.
pub record Changed : Type 0 where
  pub number : ℕ
  pub used : ℕ
  pub table : List ℕ

-- What is asked of a table is done to its entries, and what that leaves is encoded in as many octets. Its numbers: 0 done, 8 infeasible, 11 no
-- room, 14 not held.
unfoldable pub changed : Family → List ℕ → Op RuleKey Entry → Changed
changed family t op =
    let left = apply key_order (entry_key family) cost (length t) op (entries t) in
    record { number = left.answer; used = costs cost left.table; table = table_of (length t) left.table }

-- What the code asks of a table that it changes: that the family fits, that the table is sound, and that its records take as many octets
-- as it is told.
pub record Ready (family : Family) (t : List ℕ) (used : ℕ) : Type 0 where
  pub fits : Fits family
  pub sound : sound_table family t ≡ true
  pub all : used ≡ costs cost (entries t)

-- The outcome of a change, by its number; the refusals 8, 11 and 14 carry place 0.
abbrev pub outcome_of : ℕ → Result Unit Refusal
outcome_of number = cond (eqb number 0) (Ok tt) (refused_with number 0)

-- What the code answers of a change, and the table that it leaves.
pub record Leaves (changed : Changed) (answer : Answer) (exit : List ℕ) : Type 0 where
  pub outcome : answer.outcome ≡ outcome_of changed.number
  pub used : answer.used ≡ changed.used
  pub table : exit ≡ changed.table
