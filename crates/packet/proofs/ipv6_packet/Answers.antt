-- The fields are what the calls answer, and the walk ends in the octets that count.
use Rattle.packet.specs.Packet.{ipv6_fields}
use Rattle.packet.proofs.PacketLaws.{walk-within}
use borrow.Author.Rules.{rules}
use Rattle.packet.proofs.ipv6_packet.Goals as goal

pub upper_octets-requires : goal.upper_octets-requires
upper_octets-requires c = search (walk-within, rules)

pub returns : goal.returns
unfolding ipv6_fields
returns c = search rules
