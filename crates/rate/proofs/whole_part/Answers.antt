-- The whole part of a single. Each return is one law of what stands behind the point.
use borrow.Author.Rules.{rules}
use Rattle.rate.proofs.Rates.{rate-up, rate-exact, rate-rounded}
use Rattle.rate.proofs.whole_part.Goals as goal

pub returns-then-exponent-ge150 : goal.returns-then-exponent-ge150
returns-then-exponent-ge150 c = search (rate-up, rules)

pub returns-then-whole-down : goal.returns-then-whole-down
returns-then-whole-down c = search (rate-exact, rules)

pub returns : goal.returns
returns c = search (rate-rounded, rules)
