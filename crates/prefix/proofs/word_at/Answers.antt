-- None of the octets is there, or those that are are read and moved up over those that are not.
use Rattle.prefix.proofs.BodyLaws.{none-there, some-there}
use borrow.Author.Rules.{rules}
use Rattle.prefix.proofs.word_at.Goals as goal

pub returns-then-stop-at : goal.returns-then-stop-at
returns-then-stop-at c = search (none-there, rules)

pub returns : goal.returns
returns c = search (some-there, rules)
