-- What is left of the list decides whether all of it is plain: the pairs passed are.
use borrow.Author.Rules.{rules}
use Rattle.entry.proofs.BodyLaws.{list-starts, list_done, value-some, list-out, list_on}
use Rattle.entry.proofs.is_plain_list.Goals as goal

pub loop-at-init : goal.loop-at-init
loop-at-init c = search (list-starts, rules)

pub bounds-body-start : goal.bounds-body-start
bounds-body-start c = search (value-some, rules)

pub returns-then-not-is_plain_pair : goal.returns-then-not-is_plain_pair
returns-then-not-is_plain_pair c = search (list-out, rules)

pub loop-at-preserved : goal.loop-at-preserved
loop-at-preserved c = search (list_on, rules)

pub returns : goal.returns
returns c = search (list_done, rules)
