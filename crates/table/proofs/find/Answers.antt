-- The search has come to a place, and what is left of the table decides.
use borrow.Author.Rules.{rules}
use mathlib.Core.Path.{◌≡◌, sym, ap, ◌∙◌}
use native.Mathlib.Omega.{arith}
use Rattle.octets.proofs.Facts.{Octets}
use Rattle.table.specs.Walk.{record_at}
use Rattle.table.proofs.WalkLaws.{Found, was-found}
use Rattle.table.proofs.FindLaws.{search-starts, search-end, search-unsound, search-first, search-same, search-on}
use Rattle.table.proofs.find.Goals.{In-Ok-Some}
use Rattle.table.proofs.find.Goals as goal
use Rattle.std.proofs.Common.{Ok, Some}

-- where a record was found: the turn of the loop, the function's start, and what is known
found_here : (c : In-Ok-Some) → record_at c.args.table.now c.loop-behind.at ≡ Ok (Some c.in-Ok-Some.behind)
found_here c = sym c.record_at.ensures ∙ c.in-Ok-Some.is ∙ ap (λ found. Ok found) c.in-Ok-Some.field-0-is

found : (c : In-Ok-Some) → Found c.args.table.now c.loop-behind.at c.in-Ok-Some.behind
found c = was-found _ _ _ (found_here c)

table-octets : (c : In-Ok-Some) → Octets c.args.table.now
table-octets c i = (c.type_inv.table i).fits

value-octets : (c : In-Ok-Some) → Octets c.args.value.now
value-octets c i = (c.type_inv.value i).fits

pub loop-behind-init : goal.loop-behind-init
loop-behind-init c = search-starts _ _ _ c.requires.1.0

pub returns-in_default : goal.returns-in_default
returns-in_default c = search (search-end, rules)

pub returns-in_default-2 : goal.returns-in_default-2
returns-in_default-2 c = search (search-unsound, rules)

pub overflow_add-start : goal.overflow_add-start
overflow_add-start c = omega (arith, found c)

pub slice_bounds-compare_plain-count : goal.slice_bounds-compare_plain-count
slice_bounds-compare_plain-count c = omega (arith, found c)

pub slice_bounds-compare_plain-start : goal.slice_bounds-compare_plain-start
slice_bounds-compare_plain-start c = omega (arith, found c)

pub slice_bounds-compare_plain-end : goal.slice_bounds-compare_plain-end
slice_bounds-compare_plain-end c = omega (arith, found c)

pub returns-in-Less : goal.returns-in-Less
returns-in-Less c =
    let there = (goal.at.returns-in-Less c).In-Ok-Some in
    search-first _ _ _ _ c.loop-behind.invariant c.requires.0 _ (found_here there) (table-octets there) (value-octets there) c.requires.1.1 _
    c.compare_plain.ensures c.in-Less.is

pub returns-in-Equal : goal.returns-in-Equal
returns-in-Equal c =
    let there = (goal.at.returns-in-Equal c).In-Ok-Some in
    search-same _ _ _ _ c.loop-behind.invariant c.requires.0 _ (found_here there) (table-octets there) (value-octets there) c.requires.1.1 _
    c.compare_plain.ensures c.in-Equal.is

pub loop-behind-smaller : goal.loop-behind-smaller
loop-behind-smaller c = omega (arith, found (goal.at.loop-behind-smaller c).In-Ok-Some, c.loop-behind.invariant.within)

pub loop-behind-preserved : goal.loop-behind-preserved
loop-behind-preserved c =
    let there = (goal.at.loop-behind-preserved c).In-Ok-Some in
    search-on _ _ _ _ c.loop-behind.invariant c.requires.0 _ (found_here there) (table-octets there) (value-octets there) c.requires.1.1 _
    c.compare_plain.ensures c.in-Greater.is
