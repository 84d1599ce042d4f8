use Prim.Native.Nat.{◌-◌}
use lib.ListN.{length}
use Rattle.entry.proofs.BodyLaws.{ListLeft}
use Rattle.entry.proofs.is_plain_list.Given as goal

abbrev pub invariant-loop-at : goal.invariant-loop-at
invariant-loop-at l = ListLeft l.family l.kind l.body l.first l.at

abbrev pub decreases-loop-at : goal.decreases-loop-at
decreases-loop-at l = length l.body - l.at
