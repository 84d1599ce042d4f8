-- One law for each return; the header's length has four bits, so its octets fit.
use native.Mathlib.Omega.{arith}
use lib.Bits.{and_le_r}
use Rattle.packet.proofs.TransportLaws.{not_found, found_none, found-octets}
use borrow.Author.Rules.{rules}
use Rattle.packet.proofs.transport_octets.Goals as goal

pub overflow_cast-start : goal.overflow_cast-start
overflow_cast-start c = omega (arith, and_le_r c.octet_at-words.result 15)

pub overflow_mul-start : goal.overflow_mul-start
overflow_mul-start c = omega (arith, and_le_r c.octet_at-words.result 15)

pub returns-then-offset-ne0 : goal.returns-then-offset-ne0
returns-then-offset-ne0 c = search (not_found, rules)

pub returns-then-end-start : goal.returns-then-end-start
returns-then-end-start c = search (found_none, rules)

pub returns : goal.returns
returns c = search (found-octets, rules)
