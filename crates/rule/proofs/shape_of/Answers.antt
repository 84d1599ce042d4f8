-- One law or one computed row for each arm.
use native.Mathlib.Omega.{arith}
use Rattle.rule.specs.Shape.{shape_of}
use Rattle.rule.proofs.ShapeLaws.{prefix-shape, other-shape}
use Rattle.rule.proofs.shape_of.Goals as goal

pub returns-in-9 : goal.returns-in-9
unfolding shape_of
returns-in-9 c = rw c.in-9.is

pub returns-in-11 : goal.returns-in-11
unfolding shape_of
returns-in-11 c = rw c.in-11.is

pub returns-in-12 : goal.returns-in-12
unfolding shape_of
returns-in-12 c = rw c.in-12.is

pub returns-in-1 : goal.returns-in-1
returns-in-1 c = prefix-shape c.args.family _ (omega arith) (omega arith)

pub returns-in_default : goal.returns-in_default
returns-in_default c = other-shape c.args.family _ (omega arith) (omega arith) (omega arith) (omega arith) (omega arith)

pub returns-in_default-2 : goal.returns-in_default-2
returns-in_default-2 c = other-shape c.args.family _ (omega arith) (omega arith) (omega arith) (omega arith) (omega arith)
