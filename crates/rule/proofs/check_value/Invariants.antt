use Prim.Native.Nat.{◌-◌}
use mathlib.Core.Path.{◌≡◌}
use lib.ListN.{length}
use Rattle.rule.specs.Value.{check_value}
use Rattle.rule.proofs.ValueLaws.{accepts}
use Rattle.rule.proofs.check_value.Given as goal

abbrev pub invariant-loop-component : goal.invariant-loop-component
invariant-loop-component l = check_value l.family l.value ≡ accepts l.family l.value l.at l.previous

abbrev pub decreases-loop-component : goal.decreases-loop-component
decreases-loop-component l = length l.value - l.at
