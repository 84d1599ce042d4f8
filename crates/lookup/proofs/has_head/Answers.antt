-- A value that is shorter than the head is taken whole.
use native.Mathlib.Omega.{arith}
use lib.ListN.{length-take}
use Rattle.lookup.proofs.LookupLaws.{head-whole}
use borrow.Author.Rules.{rules}
use Rattle.lookup.proofs.has_head.Goals as goal

pub returns-then-value-size : goal.returns-then-value-size
returns-then-value-size c = search (head-whole, rules)

pub slice_bounds-same_octets-end : goal.slice_bounds-same_octets-end
slice_bounds-same_octets-end c = simp length-take (omega arith)
