-- The number of the octets read so far, which one more octet takes to the next.
use borrow.Author.Rules.{rules}
use Prim.Native.Nat.{◌<◌, ◌+◌, ◌*◌, ◌^◌}
use mathlib.Core.Path.{◌≡◌, sym, ◌∙◌}
use native.Mathlib.Omega.{arith}
use native.Mathlib.Nat.{zero-add}
use lib.ListN.{length, get_or}
use Rattle.octets.specs.Number.{number_at}
use Rattle.octets.proofs.NumberLaws.{number_more, grows, fits}
use Rattle.octets.proofs.number_of.Goals.{In-loop-octet}
use Rattle.octets.proofs.number_of.Goals as goal

-- the octet that is read
small : (c : In-loop-octet) → get_or c.args.s.now c.loop-octet.octet-index 0 < 256
small c = (c.type_inv.s c.loop-octet.octet-index).fits

room : (c : In-loop-octet) → c.loop-octet.number * 256 + 255 < 2 ^ 64
room c = fits c.loop-octet.octet-index c.loop-octet.number (omega arith) c.loop-octet.invariant.2

pub loop-octet-init : goal.loop-octet-init
unfolding number_at
loop-octet-init c = search rules

pub overflow_mul-number : goal.overflow_mul-number
overflow_mul-number c = omega (arith, room (goal.at.overflow_mul-number c).In-loop-octet)

pub overflow_cast-number : goal.overflow_cast-number
overflow_cast-number c = omega (arith, small (goal.at.overflow_cast-number c).In-loop-octet)

pub overflow_add-number : goal.overflow_add-number
overflow_add-number c = let k = (goal.at.overflow_add-number c).In-loop-octet in omega (arith, room k, small k)

pub loop-octet-preserved : goal.loop-octet-preserved
loop-octet-preserved c = let l = c.loop-octet in
    let s = c.args.s.now in (
      omega arith,
      rw l.invariant.1 (sym (simp zero-add at (number_more l.octet-index s 0))),
      grows l.octet-index l.number (get_or s l.octet-index 0) l.invariant.2 (small (goal.at.loop-octet-preserved c).In-loop-octet),
    )

pub returns : goal.returns
returns c = let l = c.loop-octet in
    let e : l.octet-index ≡ length c.args.s.now = omega arith in
    (l.invariant.1 ∙ rw e, rw e at l.invariant.2)
