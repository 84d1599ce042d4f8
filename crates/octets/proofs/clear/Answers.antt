-- The part from the place on holds zeros.
use Prim.Native.Nat.{◌-◌}
use mathlib.Core.Path.{◌≡◌, refl}
use native.Mathlib.Omega.{arith}
use lib.ListN.{length, take, drop, length-take, length-drop}
use Rattle.octets.proofs.StoreLaws.{put-cleared}
use Rattle.octets.proofs.clear.Goals as goal

pub returns : goal.returns
returns c =
    let b = c.args.buffer.now in
    let start = c.min-start.result in
    let size : length (take (length b - start) (drop start b)) ≡ length b - start = simp (length-take, length-drop) (omega arith) in
    put-cleared _ _ _ _ _ c.min-start.ensures refl (rw size at (c.fill.ensures.after (λ y e. e)))
