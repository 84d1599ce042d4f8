-- The record found is cut out of the records; where none is, the table is as it was.
use mathlib.Core.Path.{sym}
use native.Mathlib.Omega.{arith}
use Prim.Native.Nat.{◌+◌, ◌-◌, ◌≤◌}
use lib.ListN.{length}
use lib.Seq.{length-take-le}
use Rattle.octets.proofs.Facts.{Octets}
use Rattle.order.specs.Key.{keys_of}
use Rattle.table.specs.Walk.{entries}
use Rattle.table.proofs.ChangeLaws.{Placed, encoded, place_is, ends-inside, cut-records, removes-none, removes-held}
use borrow.Author.Rules.{rules}
use Rattle.table.proofs.remove_rule.Goals.{After-find-place}
use Rattle.table.proofs.remove_rule.Goals as goal

-- where the rule's place was found: the function's start, and what is known
table-octets : (c : After-find-place) → Octets c.args.table.now
table-octets c = search rules

there : (c : After-find-place) → Placed c.args.family c.args.table.now (entries c.args.table.now) (encoded _ c.args.table.now (table-octets c) c.requires.0.sound)
    (keys_of c.args.family c.args.value.now) c.find-place.result
there c = place_is _ _ (table-octets c) c.requires.0.sound _ _ c.find-place.ensures

inside : (c : After-find-place) → (c.find-place.result.start + (c.find-place.result.end - c.find-place.result.start) ≤ c.args.used) × (c.args.used ≤ length c.args.table.now)
inside c = ends-inside _ _ (table-octets c) c.requires.0.sound _ _ c.find-place.ensures _ c.requires.0.all

pub overflow_sub-size : goal.overflow_sub-size
overflow_sub-size c = omega (arith, there (goal.at.overflow_sub-size c).After-find-place)

pub returns-then-size-eq0 : goal.returns-then-size-eq0
returns-then-size-eq0 c = removes-none _ _ (table-octets (goal.at.returns-then-size-eq0 c).After-find-place) c.requires.0.sound _ _ c.find-place.ensures _ c.requires.0.all c.if-size-eq0.true

pub slice_bounds-cut_out-end : goal.slice_bounds-cut_out-end
slice_bounds-cut_out-end c = (inside (goal.at.slice_bounds-cut_out-end c).After-find-place).1

pub slice_bounds-cut_out-end-2 : goal.slice_bounds-cut_out-end-2
slice_bounds-cut_out-end-2 c = sym (length-take-le _ _ (inside (goal.at.slice_bounds-cut_out-end-2 c).After-find-place).1)

pub cut_out-requires : goal.cut_out-requires
cut_out-requires c = omega (arith, inside (goal.at.cut_out-requires c).After-find-place, length-take-le _ c.args.table.now (inside (goal.at.cut_out-requires c).After-find-place).1)

pub overflow_sub-result : goal.overflow_sub-result
overflow_sub-result c = omega (arith, inside (goal.at.overflow_sub-result c).After-find-place)

pub returns : goal.returns
returns c = removes-held _ _ (table-octets (goal.at.returns c).After-find-place) c.requires.0.sound _ _ c.find-place.ensures _ c.requires.0.all _ c.if-size-eq0.false
    (cut-records _ _ (table-octets (goal.at.returns c).After-find-place) c.requires.0.sound _ _ c.find-place.ensures _ c.requires.0.all _ c.cut_out.ensures)
