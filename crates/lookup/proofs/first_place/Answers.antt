-- The walk has met no match so far.
use borrow.Author.Rules.{rules}
use mathlib.Core.Path.{◌≡◌, sym, ap, ◌∙◌}
use native.Mathlib.Omega.{arith}
use Rattle.std.proofs.Common.{Ok, Some}
use Rattle.table.specs.Walk.{record_at}
use Rattle.table.proofs.WalkLaws.{Found, was-found}
use Rattle.table.proofs.EntryLaws.{length-there}
use Rattle.lookup.proofs.LookupLaws.{miss-starts, first-end, first-unsound, first-met, first-missed}
use Rattle.lookup.proofs.first_place.Goals.{In-Ok-Some}
use Rattle.lookup.proofs.first_place.Goals as goal

-- where a record was found: the turn of the loop, the function's start, and what is known
found_here : (c : In-Ok-Some) → record_at c.args.table.now c.loop-next.at ≡ Ok (Some c.in-Ok-Some.next)
found_here c = sym c.record_at.ensures ∙ c.in-Ok-Some.is ∙ ap (λ found. Ok found) c.in-Ok-Some.field-0-is

found : (c : In-Ok-Some) → Found c.args.table.now c.loop-next.at c.in-Ok-Some.next
found c = was-found _ _ _ (found_here c)

pub loop-next-init : goal.loop-next-init
loop-next-init c = miss-starts _ _ _ _

pub slice_bounds-hits_record-count : goal.slice_bounds-hits_record-count
slice_bounds-hits_record-count c = omega (arith, found c)

pub slice_bounds-hits_record-start : goal.slice_bounds-hits_record-start
slice_bounds-hits_record-start c = omega (arith, found c)

pub slice_bounds-hits_record-end : goal.slice_bounds-hits_record-end
slice_bounds-hits_record-end c = omega (arith, found c)

pub hits_record-requires : goal.hits_record-requires
hits_record-requires c =
    let there = (goal.at.hits_record-requires c).In-Ok-Some in
    (c.requires, omega (arith, found there, length-there _ c.loop-next.at _ (found_here there)))

pub returns-then-hits_record : goal.returns-then-hits_record
returns-then-hits_record c =
    let there = (goal.at.returns-then-hits_record c).In-Ok-Some in (
      first-met _ _ _ _ _ c.loop-next.invariant _ (found_here there) _ c.hits_record.ensures c.if-hits_record.true,
      (omega (arith, found there), omega (arith, found there)),
    )

pub loop-next-smaller : goal.loop-next-smaller
loop-next-smaller c = omega (arith, found (goal.at.loop-next-smaller c).In-Ok-Some)

pub loop-next-preserved : goal.loop-next-preserved
loop-next-preserved c =
    first-missed _ _ _ _ _ c.loop-next.invariant _ (found_here (goal.at.loop-next-preserved c).In-Ok-Some) _ c.hits_record.ensures c.if-hits_record.false

pub returns-in_default : goal.returns-in_default
returns-in_default c = (search (first-end, rules), (omega arith, omega arith))

pub returns-in_default-2 : goal.returns-in_default-2
returns-in_default-2 c = (search (first-unsound, rules), (omega arith, omega arith))
