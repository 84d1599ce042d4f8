-- The smaller of two limits: the definition's own test.
use Rattle.action.specs.Limit.{smaller_of}
use Rattle.action.proofs.smaller_of.Goals as goal

pub returns-then-first-second : goal.returns-then-first-second
unfolding smaller_of
returns-then-first-second c = rw c.if-first-second.true

pub returns : goal.returns
unfolding smaller_of
returns c = rw c.if-first-second.false
