-- What was collected and what is left of the table give the verdict.
use borrow.Author.Rules.{rules}
use mathlib.Core.Path.{◌≡◌, sym, ap, ◌∙◌}
use native.Mathlib.Omega.{arith}
use Rattle.std.proofs.Common.{Ok, Some}
use Rattle.table.specs.Walk.{record_at}
use Rattle.table.proofs.WalkLaws.{Found, was-found}
use Rattle.table.proofs.EntryLaws.{length-there}
use Rattle.lookup.proofs.LookupLaws.{look-starts, look-end, look-unsound, look-missed, look-goes-on, look-stops}
use Rattle.lookup.proofs.look_up.Goals.{In-Ok-Some, in_default-via-in-Ok+in_default, in_default-via-in_default}
use Rattle.lookup.proofs.look_up.Goals as goal

-- where a record was found: the turn of the loop, the function's start, and what is known
found_here : (c : In-Ok-Some) → record_at c.args.table.now c.loop-next.at ≡ Ok (Some c.in-Ok-Some.next)
found_here c = sym c.record_at.ensures ∙ c.in-Ok-Some.is ∙ ap (λ found. Ok found) c.in-Ok-Some.field-0-is

found : (c : In-Ok-Some) → Found c.args.table.now c.loop-next.at c.in-Ok-Some.next
found c = was-found _ _ _ (found_here c)

pub loop-next-init : goal.loop-next-init
loop-next-init c = look-starts _ _ _ _ _ c.no_actions-actions.ensures

pub slice_bounds-hit_of_record-count : goal.slice_bounds-hit_of_record-count
slice_bounds-hit_of_record-count c = omega (arith, found c)

pub slice_bounds-hit_of_record-start : goal.slice_bounds-hit_of_record-start
slice_bounds-hit_of_record-start c = omega (arith, found c)

pub slice_bounds-hit_of_record-end : goal.slice_bounds-hit_of_record-end
slice_bounds-hit_of_record-end c = omega (arith, found c)

pub hit_of_record-requires : goal.hit_of_record-requires
hit_of_record-requires c =
    let there = (goal.at.hit_of_record-requires c).In-Ok-Some in
    (c.requires, omega (arith, found there, length-there _ c.loop-next.at _ (found_here there)))

pub loop-next-smaller-in-Missed : goal.loop-next-smaller-in-Missed
loop-next-smaller-in-Missed c = omega (arith, found (goal.at.loop-next-smaller-in-Missed c).In-Ok-Some)

pub loop-next-preserved-in-Missed : goal.loop-next-preserved-in-Missed
loop-next-preserved-in-Missed c =
    look-missed _ _ _ _ _ _ _ c.loop-next.invariant _ (found_here (goal.at.loop-next-preserved-in-Missed c).In-Ok-Some) _ c.hit_of_record.ensures c.in-Missed.is

pub loop-next-smaller : goal.loop-next-smaller
loop-next-smaller c = omega (arith, found (goal.at.loop-next-smaller c).In-Ok-Some)

pub loop-next-preserved : goal.loop-next-preserved
loop-next-preserved c =
    look-goes-on _ _ _ _ _ _ _ c.loop-next.invariant _ (found_here (goal.at.loop-next-preserved c).In-Ok-Some) _ c.hit_of_record.ensures _ _ c.in-GoesOn.is
    c.merge-actions.ensures

pub returns-in_default : goal.returns-in_default
returns-in_default c =
    elim c.in_default.branch [
      | in_default-via-in-Ok+in_default w ↦ look-end _ _ _ _ _ _ _ c.loop-next.invariant _ _ c.record_at.ensures (search rules) c.verdict_of.ensures
      | in_default-via-in_default w ↦ look-unsound _ _ _ _ _ _ _ c.loop-next.invariant _ _ c.record_at.ensures _ w.in_default.is c.verdict_of.ensures
    ]

pub returns-in-Stops : goal.returns-in-Stops
returns-in-Stops c =
    look-stops _ _ _ _ _ _ _ c.loop-next.invariant _ (found_here (goal.at.returns-in-Stops c).In-Ok-Some) _ c.hit_of_record.ensures _ _ _ c.in-Stops.is
    c.merge.ensures c.verdict_of-in-Stops.ensures
