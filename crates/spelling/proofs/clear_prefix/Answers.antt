-- The body is just one prefix, so that its last octet is the pattern's last one.
use Rattle.spelling.proofs.PlainWalkLaws.{prefix-some, last-inside, offset-below}
use Rattle.spelling.proofs.FillLaws.{prefix-kept, prefix-clear}
use borrow.Author.Rules.{rules}
use Rattle.spelling.proofs.clear_prefix.Goals as goal

pub bounds-body-0 : goal.bounds-body-0
bounds-body-0 c = search (prefix-some, rules)

pub overflow_sub-bits : goal.overflow_sub-bits
overflow_sub-bits c = search (offset-below, rules)

pub returns-then-kept-eq0 : goal.returns-then-kept-eq0
returns-then-kept-eq0 c = search (prefix-kept, rules)

pub overflow_sub-place : goal.overflow_sub-place
overflow_sub-place c = search (prefix-some, rules)

pub bounds-body-place : goal.bounds-body-place
bounds-body-place c = search (last-inside, rules)

pub bounds-body-place-2 : goal.bounds-body-place-2
bounds-body-place-2 c = search (last-inside, rules)

pub returns : goal.returns
returns c = search (prefix-clear, rules)
