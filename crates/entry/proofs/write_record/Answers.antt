-- The head is written field by field, and the value is stored right behind it.
use mathlib.Core.Path.{refl}
use Rattle.entry.proofs.RecordLaws.{head-room, record-stored}
use borrow.Author.Rules.{rules}
use Rattle.entry.proofs.write_record.Goals as goal

pub write_fields-requires : goal.write_fields-requires
write_fields-requires c = head-room _ _ _ _ refl c.requires

pub returns : goal.returns
returns c = search (record-stored, rules)
