-- What is cleared is part of the value.
use mathlib.Core.Path.{refl}
use lib.Bits.{and_le_l}
use Rattle.spelling.specs.Plain.{plain_operand}
use Rattle.spelling.proofs.plain_operand.Goals as goal

pub overflow_sub-result : goal.overflow_sub-result
overflow_sub-result c = and_le_l _ _

pub returns : goal.returns
unfolding plain_operand
returns c = refl
