-- One law for each return.
use borrow.Author.Rules.{rules}
use mathlib.Core.Path.{◌∙◌}
use Rattle.rule.proofs.Passing.{passed}
use Rattle.lookup.proofs.OpeningLaws.{see-unsound, see-unusable, see-usable}
use Rattle.lookup.proofs.open_lookup.Goals as goal

pub returns-in_err-sound_table : goal.returns-in_err-sound_table
returns-in_err-sound_table c =
    passed _ c.in_err-sound_table.field-0.0 c.from_residual.ensures.1 ∙ see-unsound _ _ _ _ c.sound_table.ensures _ c.in_err-sound_table.was

pub returns-in-Some : goal.returns-in-Some
returns-in-Some c = search (see-usable, rules)

pub returns-in-None : goal.returns-in-None
returns-in-None c = search (see-unusable, rules)
