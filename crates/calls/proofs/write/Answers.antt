-- The door's answer as a word and in `out`; a refusal is one of 01's table.
use mathlib.Core.Path.{sym, ◌∙◌}
use Rattle.spelling.proofs.WritingLaws.{not_written}
use Rattle.flowspec.specs.Told.{writing_told}
use Rattle.calls.proofs.CallLaws.{with_out, writes, refused, done, answered}
use Rattle.calls.proofs.write.Goals as goal

pub word_of-requires : goal.word_of-requires
word_of-requires c = (not_written _ _ _ _ (sym c.write_rule.ensures.is ∙ c.in-Err.is)).near

pub returns-in-Err : goal.returns-in-Err
returns-in-Err c =
    rw c.write_rule.ensures.leaves (with_out (writes _ _) (answered writing_told _ _ c.write_rule.ensures.is _ c.in-Err.is _ _ _ (refused _ _ _ _ c.word_of.ensures)))

pub returns-in-Ok : goal.returns-in-Ok
returns-in-Ok c = rw c.write_rule.ensures.leaves (with_out (writes _ _) (answered writing_told _ _ c.write_rule.ensures.is _ c.in-Ok.is _ _ _ (done _ _)))
