-- Flags and notes are those of a record; the other values are the actions' own.
use Rattle.entry.proofs.values_of.Goals as goal

pub returns : goal.returns
returns c = rw (c.flags_of-flags.ensures, c.notes_of-notes.ensures)
