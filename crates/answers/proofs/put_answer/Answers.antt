-- The four parts of the text stand one behind the other, and each is short.
use native.Mathlib.Omega.{arith}
use Rattle.text.proofs.DecimalLaws.{decimal-short}
use Rattle.answers.specs.Answer.{answer_text}
use Rattle.answers.proofs.PrintLaws.{printed-then, printed-short, place_short, answer-short}
use Rattle.answers.proofs.put_answer.Goals as goal

pub put_decimal-end-requires : goal.put_decimal-end-requires
put_decimal-end-requires c = omega (arith, decimal-short c.args.number (omega arith))

pub put_place-stop-requires : goal.put_place-stop-requires
put_place-stop-requires c = omega (arith, decimal-short c.args.number (omega arith))

pub put_octets-requires : goal.put_octets-requires
put_octets-requires c = let a = c.args in omega (arith, decimal-short a.number (omega arith), place_short a.number a.place (omega arith))

pub returns : goal.returns
unfolding answer_text
returns c =
    printed-short _ _ _ _ _
    (printed-then _ _ _ _ _ _ _ _ c.put_octets-start.ensures
    (printed-then _ _ _ _ _ _ _ _ c.put_decimal-end.ensures (printed-then _ _ _ _ _ _ _ _ c.put_place-stop.ensures c.put_octets.ensures))) (answer-short _ _ (omega arith) (omega arith))
