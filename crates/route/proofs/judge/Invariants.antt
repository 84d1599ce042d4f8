use mathlib.Core.Path.{◌≡◌}
use Rattle.std.specs.Slice.Iter.{chunks_exact_rest, chunks_exact_size}
use Rattle.std.proofs.Common.{option_map}
use Rattle.prefix.specs.Prefix.{pattern_of}
use Rattle.route.specs.Route.{route_of}
use Rattle.route.proofs.PassLaws.{Passed}
use Rattle.route.proofs.judge.Given as goal

abbrev pub invariant-loop-own : goal.invariant-loop-own
invariant-loop-own l =
    (chunks_exact_size l.own-iterator ≡ l.family.words)
    × Passed l.family (pattern_of l.destination) l.words (option_map route_of l.best) l.seen (chunks_exact_rest l.own-iterator)
