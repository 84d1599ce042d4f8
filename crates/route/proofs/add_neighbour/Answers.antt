-- Each arm is one clause of the definition.
use borrow.Author.Tests.{eq-eqb, ne_eqb}
use Rattle.route.specs.Pass.{added}
use Rattle.route.proofs.add_neighbour.Goals as goal

pub returns-in-Nobody : goal.returns-in-Nobody
unfolding added
returns-in-Nobody c = rw c.in-Nobody.is

pub returns-then-n-neighbour : goal.returns-then-n-neighbour
unfolding added
returns-then-n-neighbour c = rw (c.in-One.is, eq-eqb _ _ c.if-n-neighbour.true)

pub returns-else-n-neighbour : goal.returns-else-n-neighbour
unfolding added
returns-else-n-neighbour c = rw (c.in-One.is, ne_eqb _ _ c.if-n-neighbour.false)

pub returns-in-Several : goal.returns-in-Several
unfolding added
returns-in-Several c = rw c.in-Several.is
