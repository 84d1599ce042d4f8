-- Each arm is one clause of the definition.
use Rattle.route.specs.Pass.{agrees}
use Rattle.route.proofs.all_agree.Goals as goal

pub returns-in-Nobody : goal.returns-in-Nobody
unfolding agrees
returns-in-Nobody c = rw c.in-Nobody.is

pub returns-in-One : goal.returns-in-One
unfolding agrees
returns-in-One c = rw c.in-One.is

pub returns-in-Several : goal.returns-in-Several
unfolding agrees
returns-in-Several c = rw c.in-Several.is
