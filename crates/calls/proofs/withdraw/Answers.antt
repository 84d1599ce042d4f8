-- The door's answer as a word; a refusal is one of 01's table.
use mathlib.Core.Path.{refl, sym, ◌∙◌}
use Rattle.flowspec.specs.Told.{withdrawn_told}
use Rattle.calls.proofs.CallLaws.{word-is}
use Rattle.calls.proofs.Places.{not-withdrawn}
use Rattle.calls.proofs.withdraw.Goals as goal

pub word_of-requires : goal.word_of-requires
word_of-requires c = (not-withdrawn _ _ _ _ (sym c.withdraw.ensures.is ∙ c.in-Err.is)).near

pub returns-in-Err : goal.returns-in-Err
returns-in-Err c =
    record { is = word-is withdrawn_told _ _ c.withdraw.ensures.is _ c.in-Err.is _ c.word_of.ensures; leaves = rw c.withdraw.ensures.leaves }

pub returns-in-Ok : goal.returns-in-Ok
returns-in-Ok c =
    record { is = word-is withdrawn_told _ _ c.withdraw.ensures.is _ c.in-Ok.is _ refl; leaves = rw c.withdraw.ensures.leaves }
