use Prim.Native.Nat.{◌-◌}
use mathlib.Core.Path.{◌≡◌}
use lib.ListN.{length}
use Rattle.entry.specs.Entry.{plain_value}
use Rattle.entry.proofs.ValueLaws.{plain_on}
use Rattle.entry.proofs.is_plain_value.Given as goal

abbrev pub invariant-loop-component : goal.invariant-loop-component
invariant-loop-component l = plain_value l.family l.value ≡ plain_on l.family l.value l.at l.previous

abbrev pub decreases-loop-component : goal.decreases-loop-component
decreases-loop-component l = length l.value - l.at
