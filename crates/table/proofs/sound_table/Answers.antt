-- What is left to test decides, with the record before it.
use borrow.Author.Rules.{rules}
use mathlib.Core.Path.{◌≡◌, sym, ap, ◌∙◌}
use native.Mathlib.Omega.{arith}
use borrow.Author.Tests.{not-false}
use Rattle.octets.proofs.Facts.{Octets}
use Rattle.rule.proofs.Passing.{passed}
use Rattle.table.specs.Walk.{record_at}
use Rattle.table.proofs.WalkLaws.{Found, was-found}
use Rattle.table.proofs.EntryLaws.{measured-there}
use Rattle.table.proofs.TestLaws.{test-starts, test-long, test-end, test-unsound, adjacent, test-bad, test-disorder, test_on}
use mathlib.Core.Bool.{not}
use Rattle.table.proofs.sound_table.Goals.{In-Some}
use Rattle.table.proofs.sound_table.Goals as goal
use Rattle.std.proofs.Common.{Ok, Some}

-- where a record was found: the turn of the loop, the function's start, and what is known
found_here : (c : In-Some) → record_at c.args.table.now c.loop-next.at ≡ Ok (Some c.in-Some.next)
found_here c = sym c.record_at.ensures ∙ c.in_ok-next.was ∙ ap (λ found. Ok found) c.in-Some.is

found : (c : In-Some) → Found c.args.table.now c.loop-next.at c.in-Some.next
found c = was-found _ _ _ (found_here c)

table-octets : (c : In-Some) → Octets c.args.table.now
table-octets c i = (c.type_inv.table i).fits

pub returns-then-table-gt-MOST_OCTETS : goal.returns-then-table-gt-MOST_OCTETS
returns-then-table-gt-MOST_OCTETS c = search (test-long, rules)

pub loop-next-init : goal.loop-next-init
loop-next-init c = test-starts _ _ c.if-table-gt-MOST_OCTETS.false

pub returns-in_err-next : goal.returns-in_err-next
returns-in_err-next c =
    passed _ c.in_err-next.field-0.0 c.from_residual.ensures.1 ∙ test-unsound _ _ _ _ c.loop-next.invariant _ c.record_at.ensures _ c.in_err-next.was

pub returns : goal.returns
returns c = test-end _ _ _ _ c.loop-next.invariant _ c.record_at.ensures (c.in_ok-next.was ∙ ap (λ found. Ok found) c.in_default.is)

pub slice_bounds-is_good_record-count : goal.slice_bounds-is_good_record-count
slice_bounds-is_good_record-count c = omega (arith, found c)

pub slice_bounds-is_good_record-start : goal.slice_bounds-is_good_record-start
slice_bounds-is_good_record-start c = omega (arith, found c)

pub slice_bounds-is_good_record-end : goal.slice_bounds-is_good_record-end
slice_bounds-is_good_record-end c = omega (arith, found c)

pub is_good_record-requires : goal.is_good_record-requires
is_good_record-requires c = measured-there _ _ _ (found_here (goal.at.is_good_record-requires c).In-Some)

pub returns-then-not-is_good_record : goal.returns-then-not-is_good_record
returns-then-not-is_good_record c =
    test-bad _ _ _ _ c.loop-next.invariant _ (found_here (goal.at.returns-then-not-is_good_record c).In-Some) _ c.is_good_record.ensures (ap not c.if-not-is_good_record.true)

pub follows-requires : goal.follows-requires
follows-requires c =
    (c.requires, adjacent _ _ _ _ c.loop-next.invariant _ (found_here (goal.at.follows-requires c).In-Some))

pub returns-then-not-follows : goal.returns-then-not-follows
returns-then-not-follows c =
    let there = (goal.at.returns-then-not-follows c).In-Some in
    let good = sym c.is_good_record.ensures ∙ not-false _ (ap not c.if-not-is_good_record.false) in
    test-disorder _ _ _ _ c.loop-next.invariant _ (found_here there) c.requires (table-octets there) good _ c.follows.ensures (ap not c.if-not-follows.true)

pub loop-next-smaller : goal.loop-next-smaller
loop-next-smaller c = omega (arith, found (goal.at.loop-next-smaller c).In-Some)

pub loop-next-preserved : goal.loop-next-preserved
loop-next-preserved c =
    let there = (goal.at.loop-next-preserved c).In-Some in
    let good = sym c.is_good_record.ensures ∙ not-false _ (ap not c.if-not-is_good_record.false) in
    test_on _ _ _ _ c.loop-next.invariant _ (found_here there) c.requires (table-octets there) good _ c.follows.ensures (ap not c.if-not-follows.false)
