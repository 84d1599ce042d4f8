-- A prefix's body ends as a prefix does, and any other as its list of pairs.
use Rattle.rule.proofs.ComponentLaws.{body-prefix, body-list}
use borrow.Author.Rules.{rules}
use Rattle.rule.proofs.body_end.Goals as goal

pub returns-then-shape : goal.returns-then-shape
returns-then-shape c = search (body-prefix, rules)

pub returns : goal.returns
returns c = search (body-list, rules)
