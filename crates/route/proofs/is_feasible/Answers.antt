-- With no destination what is allowed decides, and with one the routes do.
use Rattle.route.proofs.PassLaws.{no-destination, by-routes}
use borrow.Author.Rules.{rules}
use Rattle.route.proofs.is_feasible.Goals as goal

pub returns-in_default : goal.returns-in_default
returns-in_default c = search (no-destination, rules)

pub returns : goal.returns
returns c = search (by-routes, rules)
