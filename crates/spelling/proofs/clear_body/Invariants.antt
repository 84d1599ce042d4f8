use Prim.Native.Nat.{◌-◌}
use lib.ListN.{length}
use Rattle.spelling.proofs.FillLaws.{Clearing}
use Rattle.spelling.proofs.clear_body.Given as goal

abbrev pub invariant-loop-at : goal.invariant-loop-at
invariant-loop-at l = Clearing l.kind l.shape l.initial.body l.body l.first l.at

abbrev pub decreases-loop-at : goal.decreases-loop-at
decreases-loop-at l = length l.body - l.at
