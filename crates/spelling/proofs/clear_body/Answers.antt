-- The pairs passed are cleared, and what follows is as it was.
use borrow.Author.Rules.{rules}
use Rattle.spelling.proofs.PlainLaws.{operand_small}
use Rattle.spelling.proofs.PlainWalkLaws.{as-prefix}
use Rattle.spelling.proofs.FillLaws.{cleared-prefix, list-starts, value-some, list-nearer, list_on, list-cleared}
use Rattle.spelling.proofs.clear_body.Goals as goal

pub clear_prefix-requires : goal.clear_prefix-requires
clear_prefix-requires c = search (as-prefix, rules)

pub returns-then-shape : goal.returns-then-shape
returns-then-shape c = search (cleared-prefix, rules)

pub loop-at-init : goal.loop-at-init
loop-at-init c = search (list-starts, rules)

pub bounds-body-start : goal.bounds-body-start
bounds-body-start c = search (value-some, rules)

pub overflow_cast-body : goal.overflow_cast-body
overflow_cast-body c = search (operand_small, rules)

pub bounds-body-start-in-loop-at : goal.bounds-body-start-in-loop-at
bounds-body-start-in-loop-at c = search (value-some, rules)

pub loop-at-smaller : goal.loop-at-smaller
loop-at-smaller c = search (list-nearer, rules)

pub loop-at-preserved : goal.loop-at-preserved
loop-at-preserved c = search (list_on, rules)

pub returns : goal.returns
returns c = search (list-cleared, rules)
