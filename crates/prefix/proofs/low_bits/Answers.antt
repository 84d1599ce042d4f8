-- Each word keeps those of the lowest bits that stand in it.
use Rattle.prefix.proofs.MaskLaws.{low-words}
use borrow.Author.Rules.{rules}
use Rattle.prefix.proofs.low_bits.Goals as goal

pub returns : goal.returns
returns c = search (low-words, rules)
