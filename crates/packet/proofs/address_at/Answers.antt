-- Each word is what its call answers.
use Rattle.packet.proofs.PacketLaws.{two-words}
use borrow.Author.Rules.{rules}
use Rattle.packet.proofs.address_at.Goals as goal

pub returns : goal.returns
returns c = search (two-words, rules)
