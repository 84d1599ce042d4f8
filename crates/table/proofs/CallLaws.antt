-- Announcing and withdrawing a value: its plain spelling stands at the front of the working array, and the changes are those of the
-- table's entries. Assumes nothing.
use mathlib.Core.Path.{◌≡◌, refl, ◌∙◌}
use mathlib.Core.Bool.{Bool, true, false}
use mathlib.Core.List.{List, ◌++◌}
use Prim.Native.Nat.{ℕ}
use lib.ListN.{length, take, drop}
use Rattle.octets.proofs.Facts.{Octets}
use Rattle.sorted.specs.History.{announce, withdraw}
use Rattle.rule.specs.declared.Family.{Family}
use Rattle.rule.specs.Value.{check_value}
use Rattle.spelling.specs.Plain.{plain}
use Rattle.spelling.proofs.ClearedLaws.{plain-again}
use Rattle.spelling.proofs.SpellingLaws.{check-plain}
use Rattle.spelling.proofs.WritingLaws.{front-plain}
use Rattle.order.specs.Key.{keys_of}
use Rattle.entry.specs.declared.Head.{Head}
use Rattle.entry.specs.Entry.{entry_for, plain_value}
use Rattle.entry.proofs.ValueLaws.{holds as value-holds}
use Rattle.table.specs.declared.Answer.{Answer}
use Rattle.table.specs.Change.{changed, Leaves}
use Rattle.table.proofs.CaseLaws.{changed-infeasible, changed-without}
use Rattle.std.proofs.Common.{Ok, Err}
use Rattle.rule.specs.declared.Refusal.TheVariants.{Infeasible}

-- the table may hold the plain spelling of an accepted value
pub plain-held : (family : Family) (v : List ℕ) → Octets v → check_value family v ≡ Ok tt → plain_value family (plain family v) ≡ true
plain-held family v o ok = value-holds family (plain family v) (check-plain family v o ∙ ok) (plain-again family v o)

-- what the front of the working array is
module _ (family : Family) (v zeros work : List ℕ) (filled : work ≡ plain family v ++ drop (length v) zeros) where
  front-is : take (length v) work ≡ plain family v
  front-is = front-plain family v zeros work filled

  pub front-held : Octets v → check_value family v ≡ Ok tt → plain_value family (take (length v) work) ≡ true
  front-held o ok = rw front-is (plain-held family v o ok)

  module _ (t exit : List ℕ) (answer : Answer) where
    pub withdrew : Leaves (changed family t (withdraw (keys_of family (take (length v) work)))) answer exit
        → Leaves (changed family t (withdraw (keys_of family (plain family v)))) answer exit
    withdrew h = rw front-is at h

    module _ (head : Head) (feasible : Bool) where
      pub put_in : feasible ≡ true → Leaves (changed family t (announce (entry_for head (take (length v) work)) true)) answer exit
          → Leaves (changed family t (announce (entry_for head (plain family v)) feasible)) answer exit
      put_in e h = rw e (rw front-is at h)

      pub infeasible : feasible ≡ false → Leaves (changed family t (withdraw (keys_of family (take (length v) work)))) answer exit
          → Leaves (changed family t (announce (entry_for head (plain family v)) feasible)) (record { outcome = Err Infeasible; used = answer.used }) exit
      infeasible e h =
          let left = rw front-is at h in
          let out = changed-without family t (keys_of family (plain family v)) in
          rw (e, changed-infeasible family t (entry_for head (plain family v))) (record { outcome = refl; used = left.used ∙ out.0; table = left.table ∙ out.1 })
