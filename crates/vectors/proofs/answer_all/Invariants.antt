-- Each turn begins behind the line that it answers, and leaves what is lent at its length and the table within its buffer.
use Prim.Native.Nat.{◌≤◌, ◌-◌, ◌+◌}
use mathlib.Core.Path.{◌≡◌}
use lib.ListN.{length}
use Rattle.io.specs.Counts.{IsPrefixLen}
use Rattle.vectors.proofs.answer_all.Given as goal

abbrev pub invariant-loop-at : goal.invariant-loop-at
invariant-loop-at l = (l.at ≤ length l.input + 1) × IsPrefixLen l.size l.buffer × (length l.octets ≡ length l.initial.octets) × (length l.words ≡ length l.initial.words) × (length l.buffer ≡ length l.initial.buffer)

abbrev pub decreases-loop-at : goal.decreases-loop-at
decreases-loop-at l = length l.input + 1 - l.at
