-- Whether a limit could be: the definition's own tests.
use Rattle.action.specs.Limit.{could_be_limit}
use Rattle.action.proofs.could_be_limit.Goals as goal

pub returns-then-limit : goal.returns-then-limit
unfolding could_be_limit
returns-then-limit c = rw c.if-limit.true c.is_rate.ensures

pub returns : goal.returns
unfolding could_be_limit
returns c = rw c.if-limit.false
