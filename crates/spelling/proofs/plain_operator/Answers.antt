-- A list's first operator loses its AND.
use Rattle.spelling.specs.Plain.{plain_operator}
use Rattle.spelling.proofs.plain_operator.Goals as goal

pub returns-then-first : goal.returns-then-first
unfolding plain_operator
returns-then-first c = rw (c.without_reserved-operator.ensures, c.if-first.true)

pub returns : goal.returns
unfolding plain_operator
returns c = rw (c.without_reserved-operator.ensures, c.if-first.false)
