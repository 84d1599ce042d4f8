use Prim.Native.Nat.{◌-◌}
use mathlib.Core.Path.{◌≡◌}
use lib.ListN.{length}
use Rattle.matching.specs.Match.{body_holds}
use Rattle.matching.proofs.ListLaws.{body_to}
use Rattle.matching.proofs.list_holds.Given as goal

abbrev pub invariant-loop-next : goal.invariant-loop-next
invariant-loop-next l = body_holds l.shape l.body l.«data» ≡ body_to l.shape l.body l.«data» l.at l.evaluated

abbrev pub decreases-loop-next : goal.decreases-loop-next
decreases-loop-next l = length l.body - l.at
