-- One law for the octets that are there; there are none in either other case.
use Rattle.packet.specs.Header6.{upper_octets}
use Rattle.packet.proofs.PacketLaws.{upper-there}
use borrow.Author.Rules.{rules}
use Rattle.packet.proofs.upper_octets.Goals as goal

pub returns-in-Ok : goal.returns-in-Ok
returns-in-Ok c = search (upper-there, rules)

pub returns-in_default : goal.returns-in_default
unfolding upper_octets
returns-in_default c = search rules
