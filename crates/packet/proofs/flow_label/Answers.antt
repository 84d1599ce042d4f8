-- A number under a mask is no larger than the mask.
use Rattle.packet.proofs.PacketLaws.{label-read}
use native.Mathlib.Omega.{arith}
use lib.Bits.{and_le_r}
use borrow.Author.Rules.{rules}
use Rattle.packet.proofs.flow_label.Goals as goal

pub overflow_cast-result : goal.overflow_cast-result
overflow_cast-result c = omega (arith, and_le_r c.number_at-front.result 0xfffff)

pub returns : goal.returns
returns c = search (label-read, rules)
