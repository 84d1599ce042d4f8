-- One mask for each kind of operator.
use Rattle.spelling.specs.Plain.{without_reserved}
use Rattle.spelling.proofs.without_reserved.Goals as goal

pub returns-then-bitmask : goal.returns-then-bitmask
unfolding without_reserved
returns-then-bitmask c = rw c.if-bitmask.true

pub returns : goal.returns
unfolding without_reserved
returns c = rw c.if-bitmask.false
