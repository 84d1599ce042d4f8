-- Each return is a row of the table of tests.
use mathlib.Core.Path.{refl}
use native.Mathlib.Omega.{arith}
use lib.Bits.{and_le_r}
use borrow.Author.Rules.{rules}
use Rattle.matching.proofs.OperatorLaws.{mask-row}
use Rattle.matching.proofs.bitmask_holds.Goals as goal

pub returns-in-0 : goal.returns-in-0
returns-in-0 c = mask-row _ _ _ (search rules) 0 refl c.in-0.is

pub returns-in-1 : goal.returns-in-1
returns-in-1 c = mask-row _ _ _ (search rules) 1 refl c.in-1.is

pub returns-in-2 : goal.returns-in-2
returns-in-2 c = mask-row _ _ _ (search rules) 2 refl c.in-2.is

pub returns-in_default : goal.returns-in_default
returns-in_default c = let x = c.args.operator in mask-row x _ _ (search rules) 3 refl (omega (arith, and_le_r x 3))
