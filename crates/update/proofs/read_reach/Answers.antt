-- One law for each return, in the order of the checks.
use mathlib.Core.Path.{◌∙◌}
use Rattle.rule.proofs.Passing.{passed}
use Rattle.update.proofs.ReadLaws.{reach-unsound, reach-other, reach-refused, reach-actions, reach-short, reach-read}
use borrow.Author.Rules.{rules}
use Rattle.update.proofs.read_reach.Goals as goal

pub returns-then-not-sound_routes : goal.returns-then-not-sound_routes
returns-then-not-sound_routes c = search (reach-unsound, rules)

pub returns-then-not-is_reach : goal.returns-then-not-is_reach
returns-then-not-is_reach c = search (reach-other, rules)

pub returns-in_err-count : goal.returns-in_err-count
returns-in_err-count c = passed _ c.in_err-count.field-0.0 c.from_residual.ensures.1 ∙ search (reach-refused, rules)

pub returns-in_default : goal.returns-in_default
returns-in_default c = search (reach-actions, rules)

pub returns-then-words-count : goal.returns-then-words-count
returns-then-words-count c = search (reach-short, rules)

pub returns : goal.returns
returns c = search (reach-read, rules)
