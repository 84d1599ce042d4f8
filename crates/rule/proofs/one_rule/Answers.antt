-- One law for each return: the rule is refused, octets follow it, or it is alone.
use mathlib.Core.Path.{sym, ◌∙◌}
use native.Mathlib.Omega.{arith}
use Rattle.rule.proofs.Passing.{passed}
use Rattle.rule.proofs.ReadingLaws.{rule-read, alone-whole, alone-more, alone-refused}
use borrow.Author.Rules.{rules}
use Rattle.rule.proofs.one_rule.Goals as goal

pub overflow_add-end : goal.overflow_add-end
overflow_add-end c = omega (arith, (rule-read _ _ _ _ (sym c.first_rule.ensures ∙ c.in_ok-rule.was)).inside)

pub returns-in_err-rule : goal.returns-in_err-rule
returns-in_err-rule c = passed _ c.in_err-rule.field-0.0 c.from_residual.ensures.1 ∙ search (alone-refused, rules)

pub returns-then-end-s : goal.returns-then-end-s
returns-then-end-s c = search (alone-whole, rules)

pub returns : goal.returns
returns c = alone-more _ _ c.first_rule.result c.first_rule.ensures _ _ c.in_ok-rule.was (search rules)
