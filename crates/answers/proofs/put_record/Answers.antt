-- The three parts of the text stand one behind the other.
use native.Mathlib.Omega.{arith}
use Rattle.text.proofs.HexLaws.{length-hex_of}
use Rattle.answers.specs.Answer.{rule_text}
use Rattle.answers.proofs.PrintLaws.{printed-then}
use Rattle.answers.proofs.put_record.Goals as goal

pub put_hex-end-requires : goal.put_hex-end-requires
put_hex-end-requires c = simp length-hex_of (omega arith)

pub put_octets-requires : goal.put_octets-requires
put_octets-requires c = omega (arith, simp length-hex_of at c.put_hex-end.ensures.1)

pub returns : goal.returns
unfolding rule_text
returns c = printed-then _ _ _ _ _ _ _ _ c.put_octets-start.ensures (printed-then _ _ _ _ _ _ _ _ c.put_hex-end.ensures c.put_octets.ensures)
