-- The head is whole and more than nothing follows, the family is the caller's, and there is no next hop.
use Rattle.attribute.proofs.HeadLaws.{reach-head}
use borrow.Author.Rules.{rules}
use Rattle.attribute.proofs.is_reach.Goals as goal

pub returns : goal.returns
returns c = search (reach-head, rules)
