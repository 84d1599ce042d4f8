-- One law for each return, in the order of the checks.
use mathlib.Core.Path.{◌∙◌}
use Rattle.rule.proofs.Passing.{passed}
use Rattle.update.proofs.ReadLaws.{unreach-other, unreach-refused, unreach-short, unreach-read}
use borrow.Author.Rules.{rules}
use Rattle.update.proofs.read_unreach.Goals as goal

pub returns-then-not-is_unreach : goal.returns-then-not-is_unreach
returns-then-not-is_unreach c = search (unreach-other, rules)

pub returns-in_err-count : goal.returns-in_err-count
returns-in_err-count c = passed _ c.in_err-count.field-0.0 c.from_residual.ensures.1 ∙ search (unreach-refused, rules)

pub returns-then-words-count : goal.returns-then-words-count
returns-then-words-count c = search (unreach-short, rules)

pub returns : goal.returns
returns c = search (unreach-read, rules)
