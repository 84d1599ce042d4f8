use Prim.Native.Nat.{◌-◌}
use lib.ListN.{length}
use Rattle.spelling.proofs.FillLaws.{Filling}
use Rattle.spelling.proofs.fill_plain.Given as goal

abbrev pub invariant-loop-component : goal.invariant-loop-component
invariant-loop-component l = Filling l.family l.value l.initial.work l.work l.at l.previous

abbrev pub decreases-loop-component : goal.decreases-loop-component
decreases-loop-component l = length l.value - l.at
