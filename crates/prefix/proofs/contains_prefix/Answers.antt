-- A prefix contains none of another offset and no shorter one, and of any other the bits decide.
use Rattle.prefix.proofs.ContainLaws.{other_offset, no-shorter, by_bits}
use borrow.Author.Rules.{rules}
use Rattle.prefix.proofs.contains_prefix.Goals as goal

pub returns-then-outer-inner : goal.returns-then-outer-inner
returns-then-outer-inner c = search (other_offset, rules)

pub returns-then-inner-outer : goal.returns-then-inner-outer
returns-then-inner-outer c = search (no-shorter, rules)

pub returns : goal.returns
returns c = search (by_bits, rules)
