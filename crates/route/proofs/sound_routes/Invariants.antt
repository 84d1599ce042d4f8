use mathlib.Core.Path.{◌≡◌}
use Rattle.std.specs.Slice.Iter.{chunks_exact_rest, chunks_exact_size}
use Rattle.prefix.specs.Prefix.{pattern_of}
use Rattle.route.proofs.RouteLaws.{Checked}
use Rattle.route.proofs.sound_routes.Given as goal

abbrev pub invariant-loop-own : goal.invariant-loop-own
invariant-loop-own l = (chunks_exact_size l.own-iterator ≡ l.family.words) × Checked l.family l.words (pattern_of l.previous) (chunks_exact_rest l.own-iterator)
