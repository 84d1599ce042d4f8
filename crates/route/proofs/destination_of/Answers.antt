-- Only the first component can be of type 1, since types rise.
use mathlib.Core.Path.{ap, ◌∙◌}
use Rattle.std.proofs.Common.{Ok}
use Rattle.rule.proofs.ValueLaws.{ends-behind, ends-inside}
use Rattle.route.proofs.DestinationLaws.{by_first, by-none, by-refused}
use borrow.Author.Rules.{rules}
use Rattle.route.proofs.destination_of.Goals as goal

pub returns-in_default : goal.returns-in_default
returns-in_default c = search (by-none, rules)

pub returns-in_default-2 : goal.returns-in_default-2
returns-in_default-2 c = search (by-refused, rules)

pub component_body-body-requires : goal.component_body-body-requires
component_body-body-requires c =
    let found = c.in-Ok-Some.is ∙ ap (λ found. Ok found) c.in-Ok-Some.field-0-is in
    (ends-behind _ _ _ _ _ _ _ c.next_component.ensures found, ends-inside _ _ _ _ _ _ _ c.next_component.ensures found)

pub returns : goal.returns
returns c =
    by_first _ _ _ c.next_component.ensures _ _ _ _ (c.in-Ok-Some.is ∙ ap (λ found. Ok found) c.in-Ok-Some.field-0-is)
    c.component_body-body.ensures.is c.destination_for.ensures
