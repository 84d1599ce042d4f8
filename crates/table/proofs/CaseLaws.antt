-- What a change of a table comes to, case by case: an announcement that is feasible, with room and without, or infeasible, and a withdrawal
-- of a rule that is held, or not. Where the table stays as it was it is decoded and encoded again, which gives a sound table back
-- (SoundLaws.antt). Assumes nothing.
use mathlib.Core.Path.{◌≡◌, refl}
use mathlib.Core.Bool.{true, false}
use mathlib.Core.List.{List}
use Prim.Native.Nat.{ℕ}
use lib.ListN.{length}
use Rattle.sorted.specs.Table.{insert, remove}
use Rattle.sorted.specs.History.{announce, withdraw, costs}
use Rattle.sorted.proofs.HistoryLaws.{withdraw-removes}
use Rattle.rule.specs.declared.Family.{Family}
use Rattle.order.specs.Key.{RuleKey, key_order}
use Rattle.entry.specs.Entry.{Entry, entry_key}
use Rattle.table.specs.Walk.{entries}
use Rattle.table.specs.Sound.{cost, table_of}
use Rattle.table.specs.Change.{holds, has_room, Changed, changed}

module _ (family : Family) (t : List ℕ) where
  -- a table's entries with one, in the place of the one it held for the same rule, and without a rule
  abbrev pub entries_with : Entry → List Entry
  entries_with e = insert key_order (entry_key family) e (entries t)

  abbrev pub entries_without : RuleKey → List Entry
  entries_without k = remove key_order (entry_key family) k (entries t)

  -- the tables of these
  abbrev pub inserted : Entry → List ℕ
  inserted e = table_of (length t) (entries_with e)

  abbrev pub removed : RuleKey → List ℕ
  removed k = table_of (length t) (entries_without k)

module _ (family : Family) (t : List ℕ) where
  -- a change that keeps the entries
  abbrev kept : ℕ → Changed
  kept number = record { number = number; used = costs cost (entries t); table = table_of (length t) (entries t) }

  -- announcing
  module _ (e : Entry) where
    pub changed-room : has_room family t e ≡ true
        → changed family t (announce e true) ≡ record { number = 0; used = costs cost (entries_with family t e); table = inserted family t e }
    unfolding changed has_room
    changed-room h = rw h

    pub changed-no-room : has_room family t e ≡ false → changed family t (announce e true) ≡ kept 11
    unfolding changed has_room
    changed-no-room h = rw h

    pub changed-infeasible : changed family t (announce e false)
        ≡ record { number = 8; used = costs cost (entries_without family t (entry_key family e)); table = removed family t (entry_key family e) }
    unfolding changed
    changed-infeasible = refl

  -- withdrawing
  module _ (k : RuleKey) where
    pub changed-held : holds family t k ≡ true
        → changed family t (withdraw k) ≡ record { number = 0; used = costs cost (entries_without family t k); table = removed family t k }
    unfolding changed holds
    changed-held h = rw h

    pub changed-not-held : holds family t k ≡ false → changed family t (withdraw k) ≡ kept 14
    unfolding changed holds
    changed-not-held h = rw h

    -- either way the table is left without the rule
    pub changed-without : ((changed family t (withdraw k)).used ≡ costs cost (entries_without family t k)) × ((changed family t (withdraw k)).table ≡ removed family t k)
    unfolding changed
    changed-without = let out = withdraw-removes key_order (entry_key family) cost (length t) k (entries t) in (rw out, rw out)
