-- The octets stand where the widths before them add up to.
use Rattle.entry.proofs.CodecLaws.{head-tidy}
use borrow.Author.Rules.{rules}
use Rattle.entry.proofs.is_tidy_head.Goals as goal

pub returns : goal.returns
returns c = search (head-tidy, rules)
