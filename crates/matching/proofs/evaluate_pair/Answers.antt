-- The operator, its value and the test are what the calls answer.
use Rattle.matching.proofs.ListLaws.{judged-pair}
use borrow.Author.Rules.{rules}
use Rattle.matching.proofs.evaluate_pair.Goals as goal

pub returns : goal.returns
returns c = search (judged-pair, rules)
