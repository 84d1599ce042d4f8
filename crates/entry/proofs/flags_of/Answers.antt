-- The sum is the definition's, of what the callee gives.
use Rattle.action.specs.Actions.{flags_of}
use borrow.Author.Rules.{rules}
use Rattle.entry.proofs.flags_of.Goals as goal

pub returns : goal.returns
unfolding flags_of
returns c = search rules
