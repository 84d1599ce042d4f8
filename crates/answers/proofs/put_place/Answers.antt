-- A number below 3 or past 7 has no place, and any other has a tab and the place.
use native.Mathlib.Omega.{arith}
use Rattle.text.proofs.DecimalLaws.{decimal-short}
use Rattle.answers.proofs.PrintLaws.{printed-none, printed-then, place-low, place-high, place-told}
use Rattle.answers.proofs.put_place.Goals as goal

pub returns-then-number-lt3 : goal.returns-then-number-lt3
returns-then-number-lt3 c = printed-none _ _ _ (place-low _ _ c.if-number-lt3.true)

pub returns-then-number-gt7 : goal.returns-then-number-gt7
returns-then-number-gt7 c = printed-none _ _ _ (place-high _ _ c.if-number-gt7.true)

pub put_decimal-requires : goal.put_decimal-requires
put_decimal-requires c = let a = c.args in omega (arith, decimal-short a.place (omega arith))

pub returns : goal.returns
returns c =
    rw (place-told _ _ c.if-number-lt3.false c.if-number-gt7.false) (printed-then _ _ _ _ _ _ _ _ c.put_octets-next.ensures c.put_decimal.ensures)
