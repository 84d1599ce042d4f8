-- The door's answer as a word and in `out`; a refusal is one of 01's table.
use mathlib.Core.Path.{sym, ◌∙◌}
use Rattle.flowspec.specs.Told.{lookup_told}
use Rattle.calls.proofs.Places.{not-looked-up}
use Rattle.calls.proofs.CallLaws.{with_out, looks, refused, answered, lookup-done}
use Rattle.calls.proofs.lookup.Goals as goal

pub word_of-requires : goal.word_of-requires
word_of-requires c = (not-looked-up _ _ _ _ (sym c.lookup.ensures.is ∙ c.in-Err.is)).near

pub returns-in-Err : goal.returns-in-Err
returns-in-Err c = with_out (looks _ _) (answered lookup_told _ _ c.lookup.ensures.is _ c.in-Err.is _ _ _ (refused _ _ _ _ c.word_of.ensures))

pub returns-in-Ok : goal.returns-in-Ok
returns-in-Ok c = with_out (looks _ _) (answered lookup_told _ _ c.lookup.ensures.is _ c.in-Ok.is _ _ _ (lookup-done c.in-Ok.verdict _ _ c.words_of.ensures))
