-- The place is small, so that the word fits.
use Rattle.calls.proofs.word_of.Goals as goal

pub returns : goal.returns
returns c = rw (c.number.ensures.0, c.place.ensures)
