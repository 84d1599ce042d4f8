-- The fields are what the calls answer.
use Rattle.packet.specs.Packet.{ipv4_fields}
use borrow.Author.Rules.{rules}
use Rattle.packet.proofs.ipv4_packet.Goals as goal

pub returns : goal.returns
unfolding ipv4_fields
returns c = search rules
