-- Whether a number that may be missing passes: the definition's own test.
use Rattle.action.specs.Given.{allowed}
use Rattle.action.proofs.is_allowed.Goals as goal

pub returns-then-present : goal.returns-then-present
unfolding allowed
returns-then-present c = rw c.if-present.true

pub returns-else-present : goal.returns-else-present
unfolding allowed
returns-else-present c = rw c.if-present.false
