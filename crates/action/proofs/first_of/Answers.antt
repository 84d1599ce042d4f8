-- The first of two numbers that is there: the definition's own test.
use Rattle.action.specs.Given.{first_of}
use Rattle.action.proofs.GivenLaws.{first-there}
use Rattle.action.proofs.first_of.Goals as goal

pub returns-then-first : goal.returns-then-first
returns-then-first c = first-there _ _ _ c.if-first.true c.given_of.ensures

pub returns : goal.returns
unfolding first_of
returns c = rw c.if-first.false
