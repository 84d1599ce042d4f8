-- A word has 64 bits, and of fewer the mask is one less than the bit above them.
use Rattle.prefix.proofs.MaskLaws.{all-bits, some_bits, one-fits}
use borrow.Author.Rules.{rules}
use Rattle.prefix.proofs.low_mask.Goals as goal

pub returns-then-count-ge64 : goal.returns-then-count-ge64
returns-then-count-ge64 c = search (all-bits, rules)

pub overflow_sub-result : goal.overflow_sub-result
overflow_sub-result c = search (one-fits, rules)

pub returns : goal.returns
returns c = search (some_bits, rules)
