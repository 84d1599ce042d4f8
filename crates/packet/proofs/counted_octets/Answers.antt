-- Up to the smaller of both ends.
use Rattle.packet.proofs.PacketLaws.{counted-octets}
use borrow.Author.Rules.{rules}
use Rattle.packet.proofs.counted_octets.Goals as goal

pub returns : goal.returns
returns c = search (counted-octets, rules)
