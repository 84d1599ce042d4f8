use Prim.Native.Nat.{◌-◌}
use mathlib.Core.Path.{◌≡◌}
use lib.ListN.{length}
use Rattle.matching.specs.Match.{matches}
use Rattle.matching.proofs.MatchLaws.{matches_from}
use Rattle.matching.proofs.matches_rule.Given as goal

abbrev pub invariant-loop-component : goal.invariant-loop-component
invariant-loop-component l = matches l.family l.value l.packet ≡ matches_from l.family l.value l.packet l.at l.previous

abbrev pub decreases-loop-component : goal.decreases-loop-component
decreases-loop-component l = length l.value - l.at
