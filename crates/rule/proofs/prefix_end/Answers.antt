-- One law for each return.
use Rattle.rule.proofs.ComponentLaws.{not-below, prefix-missing, prefix-long, prefix-no-offset, prefix-below, prefix-short, prefix-whole}
use borrow.Author.Rules.{rules}
use Rattle.rule.proofs.prefix_end.Goals as goal

pub returns-then-end-at : goal.returns-then-end-at
returns-then-end-at c = search (prefix-missing, rules)

pub returns-then-family-bits : goal.returns-then-family-bits
returns-then-family-bits c = search (prefix-long, rules)

pub returns-then-end-start : goal.returns-then-end-start
returns-then-end-start c = search (prefix-no-offset, rules)

pub returns-then-offset-bits : goal.returns-then-offset-bits
returns-then-offset-bits c = search (prefix-below, rules)

pub overflow_sub-octets : goal.overflow_sub-octets
overflow_sub-octets c = search (not-below, rules)

pub returns-then-end-start-2 : goal.returns-then-end-start-2
returns-then-end-start-2 c = search (prefix-short, rules)

pub returns : goal.returns
returns c = search (prefix-whole, rules)
