-- The place of the first match as a word and in `out`; a refusal is the lookup's.
use mathlib.Core.Path.{sym, ◌∙◌}
use Rattle.flowspec.specs.Told.{match_place_told}
use Rattle.calls.proofs.Places.{not-located}
use Rattle.calls.proofs.CallLaws.{with_out, looks, refused, done, answered}
use Rattle.calls.proofs.first_match.Goals as goal

pub word_of-requires : goal.word_of-requires
word_of-requires c = (not-located _ _ _ _ (sym c.first_match_place.ensures.is ∙ c.in-Err.is)).near

pub returns-in-Err : goal.returns-in-Err
returns-in-Err c =
    with_out (looks _ _) (answered match_place_told _ _ c.first_match_place.ensures.is _ c.in-Err.is _ _ _ (refused _ _ _ _ c.word_of.ensures))

pub returns-in-Ok : goal.returns-in-Ok
returns-in-Ok c = with_out (looks _ _) (answered match_place_told _ _ c.first_match_place.ensures.is _ c.in-Ok.is _ _ _ (done _ _))
