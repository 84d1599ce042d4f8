-- The door's answer as a word and in `out`; a refusal is one of 01's table.
use mathlib.Core.Path.{sym, ◌∙◌}
use Rattle.rule.proofs.ReadingLaws.{one-refused}
use Rattle.flowspec.specs.Told.{reading_told}
use Rattle.calls.proofs.CallLaws.{with_out, reads, refused, done, answered}
use Rattle.calls.proofs.read.Goals as goal

pub word_of-requires : goal.word_of-requires
word_of-requires c = (one-refused _ _ _ (sym c.read_rule.ensures.is ∙ c.in-Err.is)).near

pub returns-in-Err : goal.returns-in-Err
returns-in-Err c = with_out (reads _) (answered reading_told _ _ c.read_rule.ensures.is _ c.in-Err.is _ _ _ (refused _ _ _ _ c.word_of.ensures))

pub returns-in-Ok : goal.returns-in-Ok
returns-in-Ok c = with_out (reads _) (answered reading_told _ _ c.read_rule.ensures.is _ c.in-Ok.is _ _ _ (done _ _))
