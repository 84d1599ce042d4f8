-- Every sign passed is a digit, so that the answer for all of them is the answer for the rest.
use mathlib.Core.Path.{ap}
use mathlib.Core.Bool.{not}
use borrow.Author.Rules.{rules}
use native.Mathlib.Omega.{arith}
use borrow.Author.Tests.{not-false}
use Rattle.text.proofs.HexLaws.{low-decimal}
use Rattle.text.proofs.DecimalLaws.{number-starts, number-not, goes-more, goes-past, goes-not, goes-all}
use Rattle.text.proofs.read_number.Goals as goal

pub returns-then-not-starts_well : goal.returns-then-not-starts_well
returns-then-not-starts_well c = search (number-not, rules)

pub loop-sign-init : goal.loop-sign-init
loop-sign-init c = (search rules, search (number-starts, rules))

pub returns-then-not-is_from : goal.returns-then-not-is_from
returns-then-not-is_from c = search (goes-not, rules)

pub overflow_sub-digit : goal.overflow_sub-digit
overflow_sub-digit c = search (low-decimal, not-false, rules)

pub overflow_cast-number : goal.overflow_cast-number
overflow_cast-number c = omega (arith, c.type_inv.text c.loop-sign.sign-index)

pub overflow_add-number : goal.overflow_add-number
overflow_add-number c = omega (arith, c.type_inv.text c.loop-sign.sign-index)

pub returns-then-number-gt4294967295 : goal.returns-then-number-gt4294967295
returns-then-number-gt4294967295 c = let l = c.loop-sign in
    goes-past _ l.sign-index _ _ l.invariant.1 _ c.is_from.ensures (omega arith) (ap not c.if-not-is_from.false) (omega arith)

pub loop-sign-preserved : goal.loop-sign-preserved
loop-sign-preserved c = (search rules, search (goes-more, rules))

pub returns : goal.returns
returns c = search (goes-all, rules)
