-- The words that the verdict tells.
use Rattle.calls.proofs.CallLaws.{unmatched-words, matched-words}
use Rattle.calls.proofs.words_of.Goals as goal

pub returns-in_default : goal.returns-in_default
returns-in_default c = unmatched-words _ c.in_default.is

pub returns : goal.returns
returns c = matched-words _ _ _ c.in-Some.is c.values_of-values.ensures
