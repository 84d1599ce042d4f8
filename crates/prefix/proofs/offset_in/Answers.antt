-- Where there are offsets, the octet behind the length octet is the offset.
use Rattle.prefix.proofs.BodyLaws.{an-offset}
use borrow.Author.Rules.{rules}
use Rattle.prefix.proofs.offset_in.Goals as goal

pub returns-then-offsets : goal.returns-then-offsets
returns-then-offsets c = search (an-offset, rules)
