-- No bit past the length may be set.
use Rattle.route.proofs.RouteLaws.{too_wide, by-rest}
use borrow.Author.Rules.{rules}
use Rattle.route.proofs.is_plain.Goals as goal

pub returns-then-bits-prefix : goal.returns-then-bits-prefix
returns-then-bits-prefix c = search (too_wide, rules)

pub returns : goal.returns
returns c = search (by-rest, rules)
