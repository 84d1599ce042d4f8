-- The prefix that the body spells covers the address, or does not.
use Rattle.matching.proofs.MatchLaws.{covered}
use borrow.Author.Rules.{rules}
use Rattle.matching.proofs.body_covers.Goals as goal

pub returns : goal.returns
returns c = search (covered, rules)
