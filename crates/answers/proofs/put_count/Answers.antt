-- The three parts of the text stand one behind the other, and each is short.
use native.Mathlib.Omega.{arith}
use Rattle.text.proofs.DecimalLaws.{decimal-short}
use Rattle.answers.specs.Answer.{count_text}
use Rattle.answers.proofs.PrintLaws.{printed-then}
use Rattle.answers.proofs.put_count.Goals as goal

pub put_decimal-end-requires : goal.put_decimal-end-requires
put_decimal-end-requires c = omega (arith, decimal-short c.args.count (omega arith))

pub put_octets-requires : goal.put_octets-requires
put_octets-requires c = omega (arith, decimal-short c.args.count (omega arith))

pub returns : goal.returns
unfolding count_text
returns c =
    printed-then _ _ _ _ _ _ _ _ c.put_octets-start.ensures (printed-then _ _ _ _ _ _ _ _ c.put_decimal-end.ensures c.put_octets.ensures)
