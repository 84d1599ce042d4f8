-- A number of several digits is printed as its tenth is, and its last digit behind; a tenth is less than its number.
use native.Mathlib.Omega.{arith}
use Rattle.text.proofs.DecimalLaws.{length-one, length_more, put_one, put_last}
use Rattle.text.proofs.+put_decimal.Goals as goal

pub put_octet-requires : goal.put_octet-requires
put_octet-requires t c = omega (arith, length-one _ c.if-n-lt10.true)

pub returns-then-n-lt10 : goal.returns-then-n-lt10
returns-then-n-lt10 t c = put_one _ _ _ _ _ (omega arith) c.put_octet.ensures.0 c.put_octet.ensures.1

pub put_decimal-next-requires : goal.put_decimal-next-requires
put_decimal-next-requires t c = (omega (arith, length_more _ c.if-n-lt10.false), omega (arith, length_more _ c.if-n-lt10.false))

pub put_octet-requires-2 : goal.put_octet-requires-2
put_octet-requires-2 t c = omega (arith, length_more _ c.if-n-lt10.false)

pub returns : goal.returns
returns t c =
    let others = c.put_decimal-next.ensures in
    let last = c.put_octet-2.ensures in
    put_last _ _ _ _ _ _ _ (omega arith) others.0 others.1 last.0 last.1
