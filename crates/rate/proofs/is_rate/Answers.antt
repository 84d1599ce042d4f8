-- Is a number with a note one that some rate gives? Each arm is the law of its note.
use mathlib.Core.Path.{sym, ap, ◌∙◌}
use borrow.Author.Rules.{rules}
use Rattle.rate.specs.Rate.{note_number}
use Rattle.rate.proofs.RatesGiven.{given-exact, given-rounded, given-raised, given-capped, given-zero, given-not}
use Rattle.rate.proofs.is_rate.Goals as goal

pub returns-in-Some-Exact : goal.returns-in-Some-Exact
returns-in-Some-Exact c = search rules ∙ given-exact _ _ (sym c.in-Some-Exact.ensures ∙ ap note_number c.in-Some-Exact.field-0-is)

pub returns-in-Some-RoundedDown : goal.returns-in-Some-RoundedDown
returns-in-Some-RoundedDown c = given-rounded _ _ (sym c.in-Some-RoundedDown.ensures ∙ ap note_number c.in-Some-RoundedDown.field-0-is)

pub returns-in-Some-Raised : goal.returns-in-Some-Raised
returns-in-Some-Raised c = given-raised _ _ (sym c.in-Some-Raised.ensures ∙ ap note_number c.in-Some-Raised.field-0-is)

pub returns-in-Some-Capped : goal.returns-in-Some-Capped
returns-in-Some-Capped c = given-capped _ _ (sym c.in-Some-Capped.ensures ∙ ap note_number c.in-Some-Capped.field-0-is)

pub returns-in-Some-TakenAsZero : goal.returns-in-Some-TakenAsZero
returns-in-Some-TakenAsZero c = given-zero _ _ (sym c.in-Some-TakenAsZero.ensures ∙ ap note_number c.in-Some-TakenAsZero.field-0-is)

pub returns-in-None : goal.returns-in-None
returns-in-None c = given-not _ _ c.in-None.ensures
