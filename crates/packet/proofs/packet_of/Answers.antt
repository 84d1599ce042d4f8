-- One law for each version of IP.
use Rattle.packet.proofs.PacketLaws.{four-packet, six-packet}
use borrow.Author.Rules.{rules}
use Rattle.packet.proofs.packet_of.Goals as goal

pub returns-then-family-eq4 : goal.returns-then-family-eq4
returns-then-family-eq4 c = search (four-packet, rules)

pub returns : goal.returns
returns c = search (six-packet, rules)
