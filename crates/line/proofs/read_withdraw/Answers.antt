-- The rule has to be there, and to end with the line.
use mathlib.Core.Path.{◌∙◌}
use borrow.Author.Rules.{rules}
use Rattle.line.specs.Line.{is_rule}
use Rattle.line.specs.Form.{Fielded}
use Rattle.line.proofs.FormLaws.{fails, passes, goes_on}
use Rattle.line.proofs.ReadLaws.{no-withdraw, withdraw-read}
use Rattle.line.proofs.read_withdraw.Goals.{In_ok-rule}
use Rattle.line.proofs.read_withdraw.Goals as goal

there : (c : In_ok-rule) → let a = c.args in let rule = c.in_ok-rule.rule in Fielded is_rule a.line.now a.word rule.start rule.end
there c = c.in_ok-rule.ensures is_rule (λ text holds k. search rules)

pub returns-in_err-rule : goal.returns-in_err-rule
returns-in_err-rule c = rw c.from_residual.ensures (no-withdraw _ _ (fails _ _ _ (c.in_err-rule.ensures is_rule (λ text holds k. search rules))))

pub returns-then-rule-line : goal.returns-then-rule-line
returns-then-rule-line c = no-withdraw _ _ (passes _ _ _ _ _ _ (there (goal.at.returns-then-rule-line c).In_ok-rule) ∙ goes_on _ _ c.if-rule-line.true)

pub returns : goal.returns
returns c = withdraw-read _ _ _ _ (there (goal.at.returns c).In_ok-rule) c.if-rule-line.false
