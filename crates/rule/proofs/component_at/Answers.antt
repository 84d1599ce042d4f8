-- One law for each return.
use Rattle.rule.proofs.ComponentLaws.{component-none, component-unknown, component-order, component-whole, component-refused}
use Rattle.rule.proofs.Passing.{passed}
use mathlib.Core.Path.{◌∙◌}
use borrow.Author.Rules.{rules}
use Rattle.rule.proofs.component_at.Goals as goal

pub returns-then-value-at : goal.returns-then-value-at
returns-then-value-at c = search (component-none, rules)

pub returns-then-kind-family : goal.returns-then-kind-family
returns-then-kind-family c = search (component-unknown, rules)

pub returns-then-kind-previous : goal.returns-then-kind-previous
returns-then-kind-previous c = search (component-order, rules)

pub returns-in_err-next : goal.returns-in_err-next
returns-in_err-next c =
    passed _ c.in_err-next.field-0.0 c.from_residual.ensures.1
    ∙ component-refused _ _ _ _ (search rules) (search rules) (search rules) _ c.body_end.ensures _ c.in_err-next.was

pub returns : goal.returns
returns c = search (component-whole, rules)
