-- The components from the place on decide what all of them do: those before it match. A component that was found lies in the value.
use mathlib.Core.Path.{ap, ◌∙◌}
use mathlib.Core.Bool.{not}
use Rattle.std.proofs.Common.{Ok}
use borrow.Author.Rules.{rules}
use Rattle.rule.proofs.ValueLaws.{ends-behind, ends-inside}
use Rattle.matching.proofs.MatchLaws.{from_start, rule-on, rule-out, rule-nearer, rule_end, rule-cut}
use Rattle.matching.proofs.matches_rule.Goals as goal

pub loop-component-init : goal.loop-component-init
loop-component-init c = search (from_start, rules)

pub component_body-body-requires : goal.component_body-body-requires
component_body-body-requires c =
    let found = c.in-Ok-Some.is ∙ ap (λ found. Ok found) c.in-Ok-Some.field-0-is in
    (ends-behind _ _ _ _ _ _ _ c.next_component.ensures found, ends-inside _ _ _ _ _ _ _ c.next_component.ensures found)

pub returns-then-not-matches_component : goal.returns-then-not-matches_component
returns-then-not-matches_component c =
    rule-out _ _ _ _ _ _ c.next_component.ensures c.loop-component.invariant _ _ _ _ (c.in-Ok-Some.is ∙ ap (λ found. Ok found) c.in-Ok-Some.field-0-is)
    c.component_body-body.ensures.is c.matches_component.ensures (ap not c.if-not-matches_component.true)

pub loop-component-smaller : goal.loop-component-smaller
loop-component-smaller c =
    rule-nearer _ _ _ _ _ _ c.next_component.ensures c.loop-component.invariant _ _ _ _ (c.in-Ok-Some.is ∙ ap (λ found. Ok found) c.in-Ok-Some.field-0-is)
    c.component_body-body.ensures.is c.matches_component.ensures

pub loop-component-preserved : goal.loop-component-preserved
loop-component-preserved c =
    rule-on _ _ _ _ _ _ c.next_component.ensures c.loop-component.invariant _ _ _ _ (c.in-Ok-Some.is ∙ ap (λ found. Ok found) c.in-Ok-Some.field-0-is)
    c.component_body-body.ensures.is c.matches_component.ensures (ap not c.if-not-matches_component.false)

pub returns-in_default : goal.returns-in_default
returns-in_default c = search (rule_end, rules)

pub returns-in_default-2 : goal.returns-in_default-2
returns-in_default-2 c = search (rule-cut, rules)
