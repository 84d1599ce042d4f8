use Prim.Native.Nat.{◌+◌}
use mathlib.Core.Path.{◌≡◌}
use lib.ListN.{length}
use Rattle.std.specs.Slice.Iter.{chunks_exact_rest, chunks_exact_size}
use Rattle.text.specs.Hex.{octets_in}
use Rattle.text.specs.Print.{laid}
use Rattle.text.proofs.read_octets.Given as goal

abbrev pub invariant-loop-pair : goal.invariant-loop-pair
invariant-loop-pair l =
    (chunks_exact_size l.pair-iterator ≡ 2)
    × (l.count + length (octets_in (chunks_exact_rest l.pair-iterator)) ≡ length (octets_in l.text))
    × (laid l.initial.room 0 (octets_in l.text) ≡ laid l.room l.count (octets_in (chunks_exact_rest l.pair-iterator)))
