-- The door's answer as a word and in `out`; a refusal is one of 01's table.
use mathlib.Core.Path.{sym, ◌∙◌}
use Rattle.flowspec.specs.Told.{announced_told}
use Rattle.calls.proofs.CallLaws.{with_out, announces, refused, done, answered}
use Rattle.calls.proofs.Places.{not-announced}
use Rattle.calls.proofs.announce.Goals as goal

pub word_of-requires : goal.word_of-requires
word_of-requires c = (not-announced _ _ _ _ _ (sym c.announce.ensures.is ∙ c.in-Err.is)).near

pub returns-in-Err : goal.returns-in-Err
returns-in-Err c =
    let kept = rw c.settings_in-settings.ensures at c.announce.ensures in
    rw kept.leaves (with_out (announces _ _ _ _) (answered announced_told _ _ kept.is _ c.in-Err.is _ _ _ (refused _ _ _ _ c.word_of.ensures)))

pub returns-in-Ok : goal.returns-in-Ok
returns-in-Ok c =
    let kept = rw c.settings_in-settings.ensures at c.announce.ensures in
    rw kept.leaves (with_out (announces _ _ _ _) (answered announced_told _ _ kept.is _ c.in-Ok.is _ _ _ (done _ _)))
