-- The shape chooses the operator.
use Rattle.matching.proofs.ListLaws.{holds-mask, holds-number}
use borrow.Author.Rules.{rules}
use Rattle.matching.proofs.pair_holds.Goals as goal

pub returns-then-shape : goal.returns-then-shape
returns-then-shape c = search (holds-mask, rules)

pub returns : goal.returns
returns c = search (holds-number, rules)
