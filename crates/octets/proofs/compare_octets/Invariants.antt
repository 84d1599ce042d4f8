use Prim.Native.Nat.{◌+◌, compare}
use mathlib.Core.Path.{◌≡◌}
use lib.ListN.{length}
use Rattle.octets.specs.Order.{lex}
use Rattle.octets.proofs.compare_octets.Given as goal

abbrev pub invariant-loop-x : goal.invariant-loop-x
invariant-loop-x l =
    (lex compare l.a l.b ≡ lex compare l.x-iterator.a.rest.now l.x-iterator.b.rest.now)
    × (length l.a + length l.x-iterator.b.rest.now ≡ length l.b + length l.x-iterator.a.rest.now)
