-- What a change leaves is a table again: the encoding of the changed entries, in a buffer of the same length. So it is sound, and several
-- changes may follow one check. Assumes nothing.
use mathlib.Core.Path.{◌≡◌, sym, ap, ◌∙◌}
use mathlib.Core.Bool.{true, false}
use mathlib.Core.List.{List}
use Prim.Native.Nat.{ℕ, ◌≤◌}
use native.Mathlib.Omega.{arith}
use lib.ListN.{length}
use Rattle.octets.proofs.Cases.{by-test, apart}
use Rattle.sorted.specs.History.{Op, Outcome, costs, apply}
use Rattle.sorted.proofs.HistoryLaws.{Brings, apply-room, apply-every, apply-sorted}
use Rattle.rule.specs.declared.Family.{Family}
use Rattle.rule.specs.Family.{Fits}
use Rattle.order.specs.Key.{RuleKey, key_order}
use Rattle.order.proofs.KeyLaws.{key-order}
use Rattle.entry.specs.Entry.{Entry, entry_key, possible}
use Rattle.table.specs.declared.Answer.{Answer}
use Rattle.table.specs.Walk.{entries}
use Rattle.table.specs.Sound.{cost, table_of, Encodes, sound_table, soundness}
use Rattle.table.specs.Change.{Changed, changed, Ready, Leaves}
use Rattle.table.proofs.SpliceLaws.{length-table}
use Rattle.table.proofs.SoundLaws.{sound-encodes, encodes-sound, encodes-entries}
use Rattle.std.proofs.Common.{Result, Ok, Err}
use Rattle.rule.specs.declared.Refusal.{Refusal}
use Rattle.rule.specs.declared.Refusal.TheVariants.{UnsoundTable}

-- what the answer on soundness says of a table
module _ (family : Family) (t : List ℕ) (s : Result ℕ Refusal) (is : s ≡ soundness family t) where
  pub was-sound : (used : ℕ) → s ≡ Ok used → (sound_table family t ≡ true) × (used ≡ costs cost (entries t))
  unfolding soundness
  was-sound used e =
      by-test (sound_table family t)
      (λ h. let z : Ok used ≡ Ok (costs cost (entries t)) = sym e ∙ is ∙ rw h in (h, cc))
      (λ h. let z : Ok used ≡ (Err UnsoundTable) = sym e ∙ is ∙ rw h in apart (cc))

  pub was-ready : Fits family → (used : ℕ) → s ≡ Ok used → Ready family t used
  was-ready fits used e = let h = was-sound used e in record { fits = fits; sound = h.0; all = h.1 }

  pub was-unsound : (refusal : Refusal) → s ≡ Err refusal → (sound_table family t ≡ false) × (refusal ≡ UnsoundTable)
  unfolding soundness
  was-unsound refusal e =
      by-test (sound_table family t) (λ h. let z : Err refusal ≡ Ok (costs cost (entries t)) = sym e ∙ is ∙ rw h in apart (cc))
      (λ h. let z : Err refusal ≡ Err UnsoundTable = sym e ∙ is ∙ rw h in (h, cc))

module _ (family : Family) (t : List ℕ) (es : List Entry) (c : Encodes family t es) (op : Op RuleKey Entry) where
  -- what the call leaves of the entries, for which there is room
  abbrev left : Outcome Entry
  left = apply key_order (entry_key family) cost (length t) op es

  fits : costs cost left.table ≤ length t
  fits = apply-room key_order (entry_key family) cost (length t) op es c.room

  long : length (table_of (length t) left.table) ≡ length t
  long = length-table (length t) left.table fits

  -- a change is answered as the list's is
  pub changed-number : (changed family t op).number ≡ left.answer
  unfolding changed
  changed-number = rw (encodes-entries family t es c)

  -- **a change leaves the encoding of the changed list**, where what is announced could be
  pub changed-encodes : Brings (possible family) op → Encodes family (changed family t op).table left.table
  unfolding changed
  changed-encodes could =
      rw (encodes-entries family t es c) (record {
        short = omega (arith, long, c.short);
        room = omega (arith, long, fits);
        each = apply-every key_order (entry_key family) cost (length t) (possible family) op es could c.each;
        rising = apply-sorted key_order (entry_key family) cost (length t) key-order op es c.rising;
        is = ap (λ n. table_of n left.table) (sym long);
      })

  -- in as many octets
  pub changed-long : length (changed family t op).table ≡ length t
  unfolding changed
  changed-long = rw (encodes-entries family t es c) long

-- **One check serves several calls**: what is asked of a table before a change holds of the table after it, with the octets answered.
pub changed-ready : (family : Family) (t : List ℕ) (used : ℕ) → Ready family t used → (op : Op RuleKey Entry) → Brings (possible family) op
    → Ready family (changed family t op).table (changed family t op).used
unfolding changed
changed-ready family t used ready op could =
    let after = changed-encodes family t (entries t) (sound-encodes family t ready.sound) op could in
    record { fits = ready.fits; sound = encodes-sound family _ _ after; all = ap (costs cost) (sym (encodes-entries family _ _ after)) }

-- the same of what the code leaves
pub leaves-ready : (family : Family) (changed : Changed) (answer : Answer) (exit : List ℕ) → Ready family changed.table changed.used
    → Leaves changed answer exit → Ready family exit answer.used
leaves-ready family changed answer exit ready left = rw (left.table, left.used) ready
