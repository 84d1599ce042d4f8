-- The size bits, shifted down, are the exponent of the size: computed at each octet.
use native.Mathlib.Omega.{arith}
use Rattle.rule.proofs.OperatorLaws.{exponent_small, size-shift, size_small}
use Rattle.rule.proofs.size_of.Goals as goal

pub overflow_cast-result : goal.overflow_cast-result
overflow_cast-result c = omega (arith, exponent_small c.args.operator (omega arith))

pub overflow_shl-result : goal.overflow_shl-result
overflow_shl-result c = exponent_small c.args.operator (omega arith)

pub returns : goal.returns
returns c = let x = c.args.operator in
    let e = size-shift x (omega arith) in (e, rw e (size_small x (omega arith)))
