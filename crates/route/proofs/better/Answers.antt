-- A route that covers the destination takes the place of none and of a shorter one.
use Rattle.route.proofs.PassLaws.{not-covering, first-match, longer-match, no_longer}
use borrow.Author.Rules.{rules}
use Rattle.route.proofs.better.Goals as goal

pub returns-then-not-contains_prefix : goal.returns-then-not-contains_prefix
returns-then-not-contains_prefix c = search (not-covering, rules)

pub returns-in_default : goal.returns-in_default
returns-in_default c = search (first-match, rules)

pub returns-then-longest-covering : goal.returns-then-longest-covering
returns-then-longest-covering c = search (longer-match, rules)

pub returns : goal.returns
returns c = search (no_longer, rules)
