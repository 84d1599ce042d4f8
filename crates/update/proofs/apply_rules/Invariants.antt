use Prim.Native.Nat.{◌-◌}
use lib.ListN.{length}
use Rattle.rule.specs.Family.{family_of}
use Rattle.update.proofs.LoopLaws.{Applying}
use Rattle.update.proofs.apply_rules.Given as goal

abbrev pub invariant-loop-rule : goal.invariant-loop-rule
invariant-loop-rule l =
    Applying (family_of l.family) l.routes l.task l.attribute l.from l.initial.table l.initial.answers l.table l.answers l.at l.taken l.count

abbrev pub decreases-loop-rule : goal.decreases-loop-rule
decreases-loop-rule l = length l.attribute - l.at
