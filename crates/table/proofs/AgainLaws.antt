-- Putting an entry in again, and taking it out again: the first changes nothing, the second leaves the table without its rule; and two
-- entries may be put in in either order. Assumes nothing.
use mathlib.Core.Path.{◌≡◌, refl, sym, ap}
use mathlib.Core.Bool.{true}
use mathlib.Core.List.{List}
use Prim.Native.Nat.{ℕ}
use lib.ListN.{length}
use Rattle.sorted.specs.Table.{insert}
use Rattle.sorted.specs.History.{announce}
use Rattle.sorted.proofs.TableLaws.{insert-again, remove-insert, lookup-insert, insert-swap}
use Rattle.rule.specs.declared.Family.{Family}
use Rattle.order.specs.Key.{key_order}
use Rattle.order.proofs.KeyLaws.{key-order}
use Rattle.entry.specs.Entry.{Entry, entry_key, possible}
use Rattle.table.specs.Walk.{entries}
use Rattle.table.specs.Sound.{table_of, sound_table, Encodes}
use Rattle.table.specs.Change.{holds, has_room}
use Rattle.table.proofs.CaseLaws.{inserted, removed, changed-room}
use Rattle.table.proofs.LeaveLaws.{changed-encodes, changed-long}
use Rattle.table.proofs.SoundLaws.{encodes-sound, encodes-entries}

module _ (family : Family) (t : List ℕ) (c : Encodes family t (entries t)) where
  -- the table with an entry encodes its entries with that one, in a buffer of the same length
  with-entry : (e : Entry) → possible family e ≡ true → has_room family t e ≡ true
      → Encodes family (inserted family t e) (insert key_order (entry_key family) e (entries t)) × (length (inserted family t e) ≡ length t)
  unfolding has_room
  with-entry e ok room = (
    rw (changed-room family t e room, room) at (changed-encodes family t (entries t) c (announce e true) ok),
    rw (changed-room family t e room) at (changed-long family t (entries t) c (announce e true)),
  )

  module _ (e : Entry) (ok : possible family e ≡ true) (room : has_room family t e ≡ true) where
    entries_with : entries (inserted family t e) ≡ insert key_order (entry_key family) e (entries t)
    entries_with = encodes-entries family (inserted family t e) (insert key_order (entry_key family) e (entries t)) (with-entry e ok room).0

    pub sound-with : sound_table family (inserted family t e) ≡ true
    sound-with = encodes-sound family (inserted family t e) (insert key_order (entry_key family) e (entries t)) (with-entry e ok room).0

    -- putting an entry in again finds room and changes nothing
    pub room-again : has_room family (inserted family t e) e ≡ true
    unfolding has_room
    room-again =
        rw (entries_with, (with-entry e ok room).1, insert-again key_order (entry_key family) key-order e e (entries t) refl) room

    pub inserted-again : inserted family (inserted family t e) e ≡ inserted family t e
    inserted-again = rw (entries_with, (with-entry e ok room).1, insert-again key_order (entry_key family) key-order e e (entries t) refl)

    -- what was put in is held, and taken out again leaves the table without its rule
    pub holds-with : holds family (inserted family t e) (entry_key family e) ≡ true
    unfolding holds
    holds-with = rw (entries_with, lookup-insert key_order (entry_key family) key-order (entry_key family e) e (entries t), key-order.same (entry_key family e))

    pub removed-again : removed family (inserted family t e) (entry_key family e) ≡ removed family t (entry_key family e)
    removed-again = rw (entries_with, (with-entry e ok room).1, remove-insert key_order (entry_key family) key-order e (entries t))

  -- two entries of different rules may be put in in either order
  pub inserted-either : (e : Entry) → possible family e ≡ true → has_room family t e ≡ true → (x : Entry) → possible family x ≡ true → has_room family t x ≡ true
      → (entry_key family e ≡ entry_key family x → ⊥) → inserted family (inserted family t e) x ≡ inserted family (inserted family t x) e
  inserted-either e ok room x fine space differ =
      rw (entries_with e ok room, (with-entry e ok room).1, entries_with x fine space, (with-entry x fine space).1)
      (ap (table_of (length t)) (sym (insert-swap key_order (entry_key family) key-order e x (entries t) c.rising differ)))
