-- The head is whole and the family is the caller's.
use Rattle.attribute.proofs.HeadLaws.{unreach-head}
use borrow.Author.Rules.{rules}
use Rattle.attribute.proofs.is_unreach.Goals as goal

pub returns : goal.returns
returns c = search (unreach-head, rules)
