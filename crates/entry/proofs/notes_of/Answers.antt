-- The sum is the definition's.
use Rattle.action.specs.Actions.{notes_of}
use borrow.Author.Rules.{rules}
use Rattle.entry.proofs.notes_of.Goals as goal

pub returns : goal.returns
unfolding notes_of
returns c = search rules
