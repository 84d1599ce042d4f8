-- The answer to a whole attribute as a word and in `out`; a refusal is one of 01's table, as amended.
use mathlib.Core.Path.{sym, ◌∙◌}
use Rattle.update.specs.Apply.{unreached_told}
use Rattle.calls.proofs.AttributePlaces.{not-unreached}
use Rattle.calls.proofs.CallLaws.{with_out, unreaches, refused, done, answered}
use Rattle.calls.proofs.unreach.Goals as goal

pub word_of-requires : goal.word_of-requires
word_of-requires c = (not-unreached _ _ _ _ _ (sym c.unreach.ensures.is ∙ c.in-Err.is)).near

pub returns-in-Err : goal.returns-in-Err
returns-in-Err c =
    let kept = c.unreach.ensures in
    rw (kept.leaves, kept.lists) (with_out (unreaches _ _ _) (answered unreached_told _ _ kept.is _ c.in-Err.is _ _ _ (refused _ _ _ _ c.word_of.ensures)))

pub returns-in-Ok : goal.returns-in-Ok
returns-in-Ok c =
    let kept = c.unreach.ensures in
    rw (kept.leaves, kept.lists) (with_out (unreaches _ _ _) (answered unreached_told _ _ kept.is _ c.in-Ok.is _ _ _ (done _ _)))
