-- One law for each return.
use Rattle.rule.proofs.ComponentLaws.{pair-missing, pair_size, pair-short, pair-last, pair-more}
use borrow.Author.Rules.{rules}
use Rattle.rule.proofs.pair_at.Goals as goal

pub returns-then-end-at : goal.returns-then-end-at
returns-then-end-at c = search (pair-missing, rules)

pub returns-then-largest-size : goal.returns-then-largest-size
returns-then-largest-size c = search (pair_size, rules)

pub returns-then-end-start : goal.returns-then-end-start
returns-then-end-start c = search (pair-short, rules)

pub returns-then-ends_list : goal.returns-then-ends_list
returns-then-ends_list c = search (pair-last, rules)

pub returns : goal.returns
returns c = search (pair-more, rules)
