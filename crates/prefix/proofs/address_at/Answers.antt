-- The octets before the last eight are the high word.
use Rattle.prefix.proofs.BodyLaws.{two-words}
use borrow.Author.Rules.{rules}
use Rattle.prefix.proofs.address_at.Goals as goal

pub returns : goal.returns
returns c = search (two-words, rules)
