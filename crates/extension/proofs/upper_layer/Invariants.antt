use Prim.Native.Nat.{◌-◌}
use mathlib.Core.Path.{◌≡◌}
use lib.ListN.{length}
use Rattle.extension.specs.Extension.{headers_from, upper_layer}
use Rattle.extension.proofs.upper_layer.Given as goal

abbrev pub invariant-loop-behind : goal.invariant-loop-behind
invariant-loop-behind l = upper_layer l.octets ≡ (headers_from l.octets l.progress).ending

abbrev pub decreases-loop-behind : goal.decreases-loop-behind
decreases-loop-behind l = length l.octets - l.progress.at
