-- The two numbers are compared.
use Rattle.route.specs.Feasible.{originates}
use borrow.Author.Rules.{rules}
use Rattle.route.proofs.originates.Goals as goal

pub returns : goal.returns
unfolding originates
returns c = search rules
