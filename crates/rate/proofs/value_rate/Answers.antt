-- What a single that is a number gives. Each return is one law of its sign and the size of its exponent; the first two returns name both
-- their laws, so that what tells minus zero from the negative is the order of the two tests.
use borrow.Author.Rules.{rules}
use Rattle.rate.proofs.Rates.{rate-zero, rate-negative, rate-below-one, rate-limit, rate-past-limit, rate-whole}
use Rattle.rate.proofs.value_rate.Goals as goal

pub returns-then-exponent-fraction : goal.returns-then-exponent-fraction
returns-then-exponent-fraction c = search (rate-zero, rate-negative, rules)

pub returns-then-negative : goal.returns-then-negative
returns-then-negative c = search (rate-zero, rate-negative, rules)

pub returns-then-exponent-lt127 : goal.returns-then-exponent-lt127
returns-then-exponent-lt127 c = search (rate-below-one, rules)

pub returns-then-exponent-fraction-2 : goal.returns-then-exponent-fraction-2
returns-then-exponent-fraction-2 c = search (rate-limit, rules)

pub returns-then-exponent-ge190 : goal.returns-then-exponent-ge190
returns-then-exponent-ge190 c = search (rate-past-limit, rules)

pub returns : goal.returns
returns c = search (rate-whole, rules)
