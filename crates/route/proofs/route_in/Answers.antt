-- The words that are read are those of the route.
use Rattle.route.proofs.RouteLaws.{read-route}
use borrow.Author.Rules.{rules}
use Rattle.route.proofs.route_in.Goals as goal

pub returns : goal.returns
returns c = search (read-route, rules)
