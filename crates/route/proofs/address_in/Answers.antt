-- Up to two words are the low one, and of more the last two are.
use Rattle.route.proofs.RouteLaws.{low-words, both_words}
use borrow.Author.Rules.{rules}
use Rattle.route.proofs.address_in.Goals as goal

pub returns-then-count-le2 : goal.returns-then-count-le2
returns-then-count-le2 c = search (low-words, rules)

pub returns : goal.returns
returns c = search (both_words, rules)
