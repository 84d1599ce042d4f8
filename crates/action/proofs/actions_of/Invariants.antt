use mathlib.Core.Path.{◌≡◌}
use Rattle.std.specs.Slice.Iter.{chunks_exact_rest, chunks_exact_size}
use Rattle.action.proofs.Communities.{Reached}
use Rattle.action.proofs.actions_of.Given as goal

abbrev pub invariant-loop-eight : goal.invariant-loop-eight
invariant-loop-eight l = (chunks_exact_size l.eight-iterator ≡ 8) × Reached l.communities l.actions (chunks_exact_rest l.eight-iterator)
