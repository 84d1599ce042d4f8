-- Each bit is what its call answers.
use borrow.Author.Rules.{rules}
use Rattle.packet.specs.Packet.{fragment_data}
use Rattle.packet.proofs.fragment_data.Goals as goal

pub returns : goal.returns
unfolding fragment_data
returns c = search rules
