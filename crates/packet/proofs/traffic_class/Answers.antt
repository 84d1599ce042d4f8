-- A number under a mask is no larger than the mask.
use Rattle.packet.proofs.PacketLaws.{class-read}
use native.Mathlib.Omega.{arith}
use Prim.Native.Nat.{◌/◌}
use lib.Bits.{and_le_r}
use borrow.Author.Rules.{rules}
use Rattle.packet.proofs.traffic_class.Goals as goal

pub overflow_cast-result : goal.overflow_cast-result
overflow_cast-result c = omega (arith, and_le_r (c.number_at-front.result / 16) 0xff)

pub returns : goal.returns
returns c = search (class-read, rules)
