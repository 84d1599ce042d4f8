-- What a single gives. The masks cut it into the parts of the definition, and each return is one law of the parts.
use mathlib.Core.Path.{◌∙◌}
use lib.Bits.{mask_lt}
use borrow.Author.Rules.{rules}
use Rattle.rate.proofs.Rates.{by-masks, not-a-number, a-number}
use Rattle.rate.proofs.rate_of.Goals as goal

pub returns-then-exponent-fraction : goal.returns-then-exponent-fraction
returns-then-exponent-fraction c = not-a-number _ _ _ (search rules) ∙ by-masks _

pub value_rate-requires : goal.value_rate-requires
value_rate-requires c = mask_lt c.args.single 23

pub returns : goal.returns
returns c = a-number _ _ _ _ (search rules) (search rules) ∙ by-masks _
