-- Where both values have a component, its body lies in the value; then one law for each return.
use borrow.Author.Rules.{rules}
use mathlib.Core.Path.{◌≡◌, ap, ◌∙◌}
use Rattle.std.proofs.Common.{Ok, Some}
use Rattle.rule.proofs.ValueLaws.{ends-behind, ends-inside}
use Rattle.order.proofs.TurnLaws.{turn-none, turn-refused, turn-second-none, turn-second-refused, turn-both}
use Rattle.order.proofs.compare_next.Goals.{In-Ok-Some, In-Ok-Some-right, in_default-via-in-Ok+in_default, in_default-via-in_default}
use Rattle.order.proofs.compare_next.Goals as goal

-- the component that the cursor found in each value
left-found : (c : In-Ok-Some) → c.next_component-left.result ≡ Ok (Some c.in-Ok-Some.component)
left-found c = c.in-Ok-Some.is ∙ ap (λ found. Ok found) (rw c.in-Ok-Some.is at c.in-Ok-Some.field-0-is)

right-found : (c : In-Ok-Some-right) → c.next_component-right.result ≡ Ok (Some c.in-Ok-Some-right.other)
right-found c = c.in-Ok-Some-right.is ∙ ap (λ found. Ok found) (rw c.in-Ok-Some-right.is at c.in-Ok-Some-right.field-0-is)

pub component_body-body-requires : goal.component_body-body-requires
component_body-body-requires c =
    let found = left-found (goal.at.component_body-body-requires c).In-Ok-Some in
    let is = c.next_component-left.ensures in (ends-behind _ _ _ _ _ _ _ is found, ends-inside _ _ _ _ _ _ _ is found)

pub component_body-against-requires : goal.component_body-against-requires
component_body-against-requires c =
    let found = right-found (goal.at.component_body-against-requires c).In-Ok-Some-right in
    let is = c.next_component-right.ensures in (ends-behind _ _ _ _ _ _ _ is found, ends-inside _ _ _ _ _ _ _ is found)

pub returns-in_default : goal.returns-in_default
returns-in_default c =
    elim c.in_default.branch [
      | in_default-via-in-Ok+in_default w ↦ search (turn-none, rules)
      | in_default-via-in_default w ↦ search (turn-refused, rules)
    ]

pub returns-in_default-right : goal.returns-in_default-right
returns-in_default-right c =
    turn-second-none _ _ _ _ _ _ _ _ c.next_component-left.ensures c.next_component-right.ensures _ _
    (left-found (goal.at.returns-in_default-right c).In-Ok-Some) (search rules)

pub returns-in_default-right-2 : goal.returns-in_default-right-2
returns-in_default-right-2 c =
    turn-second-refused _ _ _ _ _ _ _ _ c.next_component-left.ensures c.next_component-right.ensures _ _
    (left-found (goal.at.returns-in_default-right-2 c).In-Ok-Some) _ c.in_default-right.is

pub returns : goal.returns
returns c =
    turn-both _ _ _ _ _ _ _ _ c.next_component-left.ensures c.next_component-right.ensures _ _
    (left-found (goal.at.returns c).In-Ok-Some) _ _ (right-found (goal.at.returns c).In-Ok-Some-right) _ _
    c.component_body-body.ensures.is c.component_body-against.ensures.is _ _ c.compare_components-order.ensures c.turn_for.ensures
