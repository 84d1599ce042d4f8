-- One law for each return: the attribute ends there, a rule is read, or it is refused.
use mathlib.Core.Path.{◌∙◌}
use native.Mathlib.Omega.{arith}
use Rattle.rule.proofs.Passing.{passed}
use Rattle.attribute.proofs.RulesLaws.{at-end, at-rule, at-refused, at-within}
use borrow.Author.Rules.{rules}
use Rattle.attribute.proofs.rule_at.Goals as goal

pub returns-then-attribute-at : goal.returns-then-attribute-at
returns-then-attribute-at c = search (at-end, rules)

pub returns-in_err-rule : goal.returns-in_err-rule
returns-in_err-rule c = passed _ c.in_err-rule.field-0.0 c.from_residual.ensures.1 ∙ search (at-refused, rules)

pub overflow_add-start : goal.overflow_add-start
overflow_add-start c = omega (arith, at-within _ c.args.attribute.now _ c.if-attribute-at.false _ c.first_rule.ensures _ _ c.in_ok-rule.was)

pub overflow_add-end : goal.overflow_add-end
overflow_add-end c = omega (arith, at-within _ c.args.attribute.now _ c.if-attribute-at.false _ c.first_rule.ensures _ _ c.in_ok-rule.was)

pub returns : goal.returns
returns c = at-rule _ _ _ c.if-attribute-at.false _ c.first_rule.ensures _ _ c.in_ok-rule.was
