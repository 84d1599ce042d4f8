-- The lowest bits up to `highest`, without those up to `lowest`.
use Rattle.prefix.proofs.MaskLaws.{between}
use borrow.Author.Rules.{rules}
use Rattle.prefix.proofs.mask_between.Goals as goal

pub returns : goal.returns
returns c = search (between, rules)
