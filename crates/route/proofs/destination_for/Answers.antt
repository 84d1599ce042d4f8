-- Only type 1 is a destination.
use Rattle.route.proofs.DestinationLaws.{one-prefix, other-kind}
use borrow.Author.Rules.{rules}
use Rattle.route.proofs.destination_for.Goals as goal

pub returns-then-kind-eq1 : goal.returns-then-kind-eq1
returns-then-kind-eq1 c = search (one-prefix, rules)

pub returns : goal.returns
returns c = search (other-kind, rules)
