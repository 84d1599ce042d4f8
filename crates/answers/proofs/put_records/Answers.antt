-- What was printed and the records that are left give the whole text.
use mathlib.Core.Path.{◌≡◌, sym, ap, ◌∙◌}
use native.Mathlib.Omega.{arith}
use Rattle.table.specs.Walk.{record_at}
use Rattle.table.proofs.WalkLaws.{Found, was-found}
use Rattle.table.proofs.EntryLaws.{length-there}
use Rattle.answers.proofs.ListLaws.{left-end, left-unsound, print-starts, print-done, print-within, print-more}
use borrow.Author.Rules.{rules}
use Rattle.answers.proofs.put_records.Goals.{After-put_record-arg-1}
use Rattle.answers.proofs.put_records.Goals as goal
use Rattle.std.proofs.Common.{Ok, Some}

-- where a record was found: the turn of the loop, the function's start, and what is known
found_here : (c : After-put_record-arg-1) → record_at c.args.table.now c.loop-next.place ≡ Ok (Some c.in-Ok-Some.next)
found_here c = sym c.record_at.ensures ∙ (c.in-Ok-Some.is ∙ ap (λ found. Ok found) c.in-Ok-Some.field-0-is)

found : (c : After-put_record-arg-1) → Found c.args.table.now c.loop-next.place c.in-Ok-Some.next
found c = was-found _ _ _ (found_here c)

pub loop-next-init : goal.loop-next-init
loop-next-init c = print-starts _ _ _

pub returns-in_default : goal.returns-in_default
returns-in_default c = print-done _ _ _ _ _ _ c.loop-next.invariant (search (left-end, rules))

pub returns-in_default-2 : goal.returns-in_default-2
returns-in_default-2 c = print-done _ _ _ _ _ _ c.loop-next.invariant (left-unsound _ _ _ c.record_at.ensures _ c.in_default.is)

pub slice_bounds-put_record-count : goal.slice_bounds-put_record-count
slice_bounds-put_record-count c = omega (arith, found c)

pub slice_bounds-put_record-start : goal.slice_bounds-put_record-start
slice_bounds-put_record-start c = omega (arith, found c)

pub slice_bounds-put_record-end : goal.slice_bounds-put_record-end
slice_bounds-put_record-end c = omega (arith, found c)

pub put_record-end-requires : goal.put_record-end-requires
put_record-end-requires c =
    let f = found (goal.at.put_record-end-requires c).After-put_record-arg-1 in
    let long = length-there _ c.loop-next.place _ (found_here (goal.at.put_record-end-requires c).After-put_record-arg-1) in
    let pre = c.requires in
    (print-within _ _ _ _ _ _ c.loop-next.invariant pre.0 pre.1, omega (arith, pre))

pub loop-next-smaller : goal.loop-next-smaller
loop-next-smaller c = omega (arith, found (goal.at.loop-next-smaller c).After-put_record-arg-1)

pub loop-next-preserved : goal.loop-next-preserved
loop-next-preserved c = print-more _ _ _ _ _ _ c.loop-next.invariant _ (found_here (goal.at.loop-next-preserved c).After-put_record-arg-1) _ _ c.put_record-end.ensures
