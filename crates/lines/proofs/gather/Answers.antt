-- What is laid is the part of the line's buffer and of the block that the definition names, whether or not an LF follows.
use mathlib.Core.Path.{sym}
use native.Mathlib.Omega.{arith}
use lib.ListN.{length-take}
use lib.Seq.{length-take-le}
use Rattle.lines.proofs.GatherLaws.{gathers}
use Rattle.lines.proofs.gather.Goals as goal

pub slice_bounds-store-end : goal.slice_bounds-store-end
slice_bounds-store-end c = sym (length-take-le _ _ (omega arith))

pub store-requires : goal.store-requires
store-requires c = simp length-take (omega arith)

pub returns : goal.returns
returns c =
    gathers _ _ _ _ _ _ _ c.place_of-size.ensures.0 c.min-start.ensures c.min-count.ensures c.store.ensures _ c.min-taken.ensures
