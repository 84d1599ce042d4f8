-- Where the rule is held its notes are told, and a refusal is handed on.
use mathlib.Core.Path.{◌∙◌}
use borrow.Author.Rules.{rules}
use Rattle.rule.proofs.Passing.{passed}
use Rattle.flowspec.proofs.TableLaws.{announced-held, announced-refused}
use Rattle.flowspec.proofs.announced_of.Goals as goal

pub returns-in_err-outcome : goal.returns-in_err-outcome
returns-in_err-outcome c = passed _ c.in_err-outcome.field-0.0 c.from_residual.ensures.1 ∙ search (announced-refused, rules)

pub returns : goal.returns
returns c = search (announced-held, rules)
