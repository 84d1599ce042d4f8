-- The fields stand where the widths before them add up to.
use Rattle.entry.proofs.CodecLaws.{head-actions}
use borrow.Author.Rules.{rules}
use Rattle.entry.proofs.record_actions.Goals as goal

pub returns : goal.returns
returns c = search (head-actions, rules)
