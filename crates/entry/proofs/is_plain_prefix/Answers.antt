-- The body is just one prefix, so that its last octet is the pattern's last one.
use Rattle.spelling.proofs.PlainWalkLaws.{prefix-some, last-inside, offset-below}
use Rattle.entry.proofs.BodyLaws.{prefix-all, prefix-last}
use borrow.Author.Rules.{rules}
use Rattle.entry.proofs.is_plain_prefix.Goals as goal

pub bounds-body-0 : goal.bounds-body-0
bounds-body-0 c = search (prefix-some, rules)

pub overflow_sub-bits : goal.overflow_sub-bits
overflow_sub-bits c = search (offset-below, rules)

pub returns-then-kept-eq0 : goal.returns-then-kept-eq0
returns-then-kept-eq0 c = search (prefix-all, rules)

pub overflow_sub-last : goal.overflow_sub-last
overflow_sub-last c = search (prefix-some, rules)

pub bounds-body-body : goal.bounds-body-body
bounds-body-body c = search (last-inside, rules)

pub returns : goal.returns
returns c = search (prefix-last, rules)
