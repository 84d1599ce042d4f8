-- A task done for one rule: what it has announced could be, and what the code does for it is the change that it asks for. Assumes nothing.
use mathlib.Core.Path.{◌≡◌}
use mathlib.Core.Bool.{Bool}
use mathlib.Core.List.{List}
use Prim.Native.Nat.{ℕ}
use Rattle.std.proofs.Common.{Ok}
use Rattle.octets.proofs.Facts.{Octets}
use Rattle.sorted.specs.History.{announce, withdraw}
use Rattle.sorted.proofs.HistoryLaws.{Brings}
use Rattle.rule.specs.declared.Family.{Family}
use Rattle.rule.specs.Value.{check_value}
use Rattle.spelling.specs.Plain.{plain}
use Rattle.order.specs.Key.{keys_of}
use Rattle.route.specs.declared.Settings.{Settings}
use Rattle.entry.specs.declared.Head.{Head}
use Rattle.entry.specs.Entry.{entry_for, possible}
use Rattle.entry.proofs.ValueLaws.{make-possible}
use Rattle.table.specs.declared.Answer.{Answer}
use Rattle.table.specs.Change.{changed, Ready, Leaves}
use Rattle.table.proofs.CallLaws.{plain-held}
use Rattle.request.specs.Input.{policy_of}
use Rattle.request.specs.Judging.{is_feasible}
use Rattle.update.specs.declared.Task.{Task}
use Rattle.update.specs.declared.Task.TheVariants.{Announce, Withdraw}
use Rattle.update.specs.Steps.{rule_asks, rule_change, TaskCouldBe}

-- what a task has announced could be
pub task-brings : (family : Family) (routes : List ℕ) (task : Task) (value : List ℕ) → TaskCouldBe task → Octets value
    → check_value family value ≡ Ok tt → Brings (possible family) (rule_asks family routes task value)
unfolding rule_asks
task-brings family routes (Announce head settings) value could o ok =
    make-possible family (entry_for head (plain family value)) could.0 could.1 (plain-held family value o ok)
task-brings family routes Withdraw value could o ok = tt

-- how `apply_rule` does a task, with the family as it is chosen
module _ (family chosen : Family) (chose : chosen ≡ family) (t value : List ℕ) where
  pub step-asks : (used : ℕ) → Ready family t used × (check_value family value ≡ Ok tt) → Ready chosen t used × (check_value chosen value ≡ Ok tt)
  step-asks used h = rw chose h

  module _ (routes : List ℕ) (task : Task) (answer : Answer) (exit : List ℕ) where
    pub step-withdrawn : task ≡ Withdraw → Leaves (changed chosen t (withdraw (keys_of chosen (plain chosen value)))) answer exit
        → Leaves (rule_change family routes task value t) answer exit
    unfolding rule_asks
    step-withdrawn e h = rw (e, ← chose) h

    pub step-announced : (head : Head) (settings : Settings) (feasible : Bool) → task ≡ Announce head settings
        → feasible ≡ is_feasible family (policy_of routes settings) value head.origin
        → Leaves (changed chosen t (announce (entry_for head (plain chosen value)) feasible)) answer exit → Leaves (rule_change family routes task value t) answer exit
    unfolding rule_asks
    step-announced head settings feasible e judged h = rw (e, ← judged, ← chose) h
