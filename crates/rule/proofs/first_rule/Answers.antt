-- One law for each return: the length field or the value runs past the octets, or the value is checked.
use mathlib.Core.Path.{◌∙◌}
use Rattle.rule.proofs.Passing.{passed}
use Rattle.rule.proofs.ReadingLaws.{read_short, read-accepted, read-refused}
use borrow.Author.Rules.{rules}
use Rattle.rule.proofs.first_rule.Goals as goal

pub returns-then-s-end : goal.returns-then-s-end
returns-then-s-end c = search (read_short, rules)

pub returns-in_err-check_value : goal.returns-in_err-check_value
returns-in_err-check_value c = passed _ c.in_err-check_value.field-0.0 c.from_residual.ensures.1 ∙ search (read-refused, rules)

pub returns : goal.returns
returns c = search (read-accepted, rules)
