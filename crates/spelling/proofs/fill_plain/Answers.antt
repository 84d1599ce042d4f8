-- The bodies passed are cleared, and from the place on the value stands as it was stored.
use borrow.Author.Rules.{rules}
use Prim.Native.Nat.{◌+◌, ◌<◌, ◌≤◌}
use native.Mathlib.Omega.{arith}
use lib.ListN.{length}
use mathlib.Core.Path.{◌≡◌, ap, ◌∙◌}
use Rattle.std.proofs.Common.{Ok, Some}
use Rattle.spelling.proofs.FillLaws.{fill-starts, fill_done, fill-never, fill-inside, fill-nearer, fill-body, fill_on}
use Rattle.spelling.proofs.fill_plain.Goals.{In-Ok-Some}
use Rattle.spelling.proofs.fill_plain.Goals as goal

pub loop-component-init : goal.loop-component-init
loop-component-init c = fill-starts _ _ _ _ c.store.ensures (search rules) (λ i. (c.type_inv.value i).fits) (search rules)

-- the cursor found the component that the turn has
another : (c : In-Ok-Some) → c.next_component.result ≡ Ok (Some c.in-Ok-Some.component)
another c = c.in-Ok-Some.is ∙ ap (λ found. Ok found) c.in-Ok-Some.field-0-is

inside : (c : In-Ok-Some)
    → (c.loop-component.at + 1 < c.in-Ok-Some.component.next) × (c.in-Ok-Some.component.next ≤ length c.loop-component.work)
inside c = let l = c.loop-component in
    fill-inside _ _ _ _ c.store.ensures (search rules) l.work l.at l.previous l.invariant _ c.next_component.ensures _ _ (another c)

pub overflow_add-start : goal.overflow_add-start
overflow_add-start c = omega (arith, inside c)

pub slice_bounds-clear_body-count : goal.slice_bounds-clear_body-count
slice_bounds-clear_body-count c = omega (arith, inside (goal.at.slice_bounds-clear_body-count c).In-Ok-Some)

pub slice_bounds-clear_body-start : goal.slice_bounds-clear_body-start
slice_bounds-clear_body-start c = omega (arith, inside (goal.at.slice_bounds-clear_body-start c).In-Ok-Some)

pub slice_bounds-clear_body-end : goal.slice_bounds-clear_body-end
slice_bounds-clear_body-end c = omega (arith, inside (goal.at.slice_bounds-clear_body-end c).In-Ok-Some)

pub clear_body-requires : goal.clear_body-requires
clear_body-requires c = search (fill-body, rules)

pub loop-component-smaller : goal.loop-component-smaller
loop-component-smaller c = let l = c.loop-component in
    fill-nearer _ _ _ _ c.store.ensures (search rules) l.work l.at l.previous l.invariant _ c.next_component.ensures _ _
    (another (goal.at.loop-component-smaller c).In-Ok-Some)

pub loop-component-preserved : goal.loop-component-preserved
loop-component-preserved c = let l = c.loop-component in
    fill_on _ _ _ _ c.store.ensures (search rules) l.work l.at l.previous l.invariant _ c.next_component.ensures _ _
    (another (goal.at.loop-component-preserved c).In-Ok-Some) _ c.clear_body.ensures

pub returns-in_default : goal.returns-in_default
returns-in_default c = search (fill_done, rules)

pub returns-in_default-2 : goal.returns-in_default-2
returns-in_default-2 c = search (fill-never, rules)
