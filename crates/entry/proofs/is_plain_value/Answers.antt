-- The components from the place on decide what all of them do: those before it are plain. A component that was found lies in the value.
use borrow.Author.Rules.{rules}
use native.Mathlib.Omega.{arith}
use mathlib.Core.Path.{◌≡◌, ap, ◌∙◌}
use Rattle.std.proofs.Common.{Ok, Some}
use Rattle.rule.proofs.ValueLaws.{ends-behind, ends-inside}
use Rattle.entry.proofs.ValueLaws.{value-outside, value-starts, body-found, value-nearer, value_on, value_out, value-end, value-cut}
use Rattle.entry.proofs.is_plain_value.Goals.{In-Ok-Some}
use Rattle.entry.proofs.is_plain_value.Goals as goal

-- the cursor found the component that the turn has
another : (c : In-Ok-Some) → c.next_component.result ≡ Ok (Some c.in-Ok-Some.component)
another c = c.in-Ok-Some.is ∙ ap (λ found. Ok found) c.in-Ok-Some.field-0-is

pub returns-then-value-family : goal.returns-then-value-family
returns-then-value-family c = search (value-outside, rules)

pub loop-component-init : goal.loop-component-init
loop-component-init c = value-starts _ _ (λ i. omega (arith, c.type_inv.value i)) (search rules)

pub component_body-body-requires : goal.component_body-body-requires
component_body-body-requires c =
    let is = c.next_component.ensures in
    let found = another (goal.at.component_body-body-requires c).In-Ok-Some in
    (ends-behind _ _ _ _ _ _ _ is found, ends-inside _ _ _ _ _ _ _ is found)

pub is_plain_body-requires : goal.is_plain_body-requires
is_plain_body-requires c =
    body-found _ _ _ _ _ c.next_component.ensures c.loop-component.invariant _ _ (another (goal.at.is_plain_body-requires c).In-Ok-Some)
    _ c.component_body-body.ensures.is

pub returns-then-not-is_plain_body : goal.returns-then-not-is_plain_body
returns-then-not-is_plain_body c =
    value_out _ _ _ _ _ c.next_component.ensures c.loop-component.invariant _ _
    (another (goal.at.returns-then-not-is_plain_body c).In-Ok-Some) _ _ c.component_body-body.ensures.is c.is_plain_body.ensures c.if-not-is_plain_body.true

pub loop-component-smaller : goal.loop-component-smaller
loop-component-smaller c =
    value-nearer _ _ _ _ _ c.next_component.ensures c.loop-component.invariant _ _ (another (goal.at.loop-component-smaller c).In-Ok-Some)

pub loop-component-preserved : goal.loop-component-preserved
loop-component-preserved c =
    value_on _ _ _ _ _ c.next_component.ensures c.loop-component.invariant _ _
    (another (goal.at.loop-component-preserved c).In-Ok-Some) _ _ c.component_body-body.ensures.is c.is_plain_body.ensures c.if-not-is_plain_body.false

pub returns-in-Ok-None : goal.returns-in-Ok-None
returns-in-Ok-None c = search (value-end, rules)

pub returns-in-Err : goal.returns-in-Err
returns-in-Err c = search (value-cut, rules)
