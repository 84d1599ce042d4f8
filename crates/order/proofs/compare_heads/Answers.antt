-- No more octets are taken than there are.
use native.Mathlib.Omega.{arith}
use lib.ListN.{length-take}
use Rattle.order.proofs.TurnLaws.{heads-taken}
use borrow.Author.Rules.{rules}
use Rattle.order.proofs.compare_heads.Goals as goal

pub slice_bounds-compare_octets-end : goal.slice_bounds-compare_octets-end
slice_bounds-compare_octets-end c = simp length-take (omega arith)

pub slice_bounds-compare_octets-end-2 : goal.slice_bounds-compare_octets-end-2
slice_bounds-compare_octets-end-2 c = simp length-take (omega arith)

pub returns : goal.returns
returns c = search (heads-taken, rules)
