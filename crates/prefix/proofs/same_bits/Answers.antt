-- Every word agrees under its mask exactly where the bits between are the same.
use Rattle.prefix.proofs.MaskLaws.{by-low-mask, by-masks}
use borrow.Author.Rules.{rules}
use Rattle.prefix.proofs.same_bits.Goals as goal

pub returns-then-bits-lt64 : goal.returns-then-bits-lt64
returns-then-bits-lt64 c = search (by-low-mask, rules)

pub returns : goal.returns
returns c = search (by-masks, rules)
