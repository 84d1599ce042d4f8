-- What stands before the components decides, and where it ties the components do.
use Rattle.order.proofs.TurnLaws.{plain-first, plain_second, plain-same}
use borrow.Author.Rules.{rules}
use Rattle.order.proofs.compare_plain.Goals as goal

pub returns-in-Less : goal.returns-in-Less
returns-in-Less c = search (plain-first, rules)

pub returns-in-Greater : goal.returns-in-Greater
returns-in-Greater c = search (plain_second, rules)

pub returns-in-Equal : goal.returns-in-Equal
returns-in-Equal c = search (plain-same, rules)
