-- Each working array begins with the plain spelling of its value.
use native.Mathlib.Omega.{arith}
use Rattle.rule.proofs.ValueLaws.{accepted-small}
use Rattle.spelling.proofs.WritingLaws.{front-plain, front_length}
use Rattle.order.proofs.TurnLaws.{spelled-order}
use borrow.Author.Rules.{rules}
use Rattle.order.proofs.compare_values.Goals as goal

pub fill_plain-requires : goal.fill_plain-requires
fill_plain-requires c = (search rules, omega (arith, accepted-small))

pub fill_plain-requires-2 : goal.fill_plain-requires-2
fill_plain-requires-2 c = (search rules, omega (arith, accepted-small))

pub slice_bounds-work-end : goal.slice_bounds-work-end
slice_bounds-work-end c = omega (arith, accepted-small)

pub slice_bounds-space-end : goal.slice_bounds-space-end
slice_bounds-space-end c = omega (arith, accepted-small)

pub slice_bounds-compare_plain-end : goal.slice_bounds-compare_plain-end
slice_bounds-compare_plain-end c = front_length _ _ _ _ c.fill_plain.ensures

pub slice_bounds-compare_plain-end-2 : goal.slice_bounds-compare_plain-end-2
slice_bounds-compare_plain-end-2 c = front_length _ _ _ _ c.fill_plain-2.ensures

pub returns : goal.returns
returns c =
    spelled-order _ _ _ _ _ _ (front-plain _ _ _ _ c.fill_plain.ensures)
    (front-plain _ _ _ _ c.fill_plain-2.ensures)
    c.compare_plain.ensures
