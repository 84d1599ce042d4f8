-- The fields are what the calls answer.
use Rattle.packet.proofs.TransportLaws.{fields-shown}
use borrow.Author.Rules.{rules}
use Rattle.packet.proofs.transport_fields.Goals as goal

pub returns : goal.returns
returns c = search (fields-shown, rules)
