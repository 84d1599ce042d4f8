-- Both tests are made.
use Rattle.route.proofs.RouteLaws.{by_both}
use borrow.Author.Rules.{rules}
use Rattle.route.proofs.may_follow.Goals as goal

pub returns : goal.returns
returns c = search (by_both, rules)
