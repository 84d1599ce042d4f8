-- The door's answer as a word; a refusal is one of 01's table.
use mathlib.Core.Path.{refl, sym, ◌∙◌}
use Rattle.flowspec.specs.Told.{feasibility_told}
use Rattle.calls.proofs.Places.{not-feasible}
use Rattle.calls.proofs.CallLaws.{word-is}
use Rattle.calls.proofs.feasible.Goals as goal

pub word_of-requires : goal.word_of-requires
word_of-requires c = (not-feasible _ _ _ _ _ (sym c.judge_rule.ensures.is ∙ c.in-Err.is)).near

pub returns-in-Err : goal.returns-in-Err
returns-in-Err c =
    let kept = rw c.settings_in-settings.ensures at c.judge_rule.ensures in
    record { is = word-is feasibility_told _ _ kept.is _ c.in-Err.is _ c.word_of.ensures; leaves = refl }

pub returns-in-Ok : goal.returns-in-Ok
returns-in-Ok c =
    let kept = rw c.settings_in-settings.ensures at c.judge_rule.ensures in
    record { is = word-is feasibility_told _ _ kept.is _ c.in-Ok.is _ refl; leaves = refl }
