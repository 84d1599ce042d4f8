-- The place of the tab in the rest of the line, and what stands before that rest, give the end.
use borrow.Author.Rules.{rules}
use Rattle.text.proofs.FieldLaws.{field-ends}
use Rattle.text.proofs.field_end.Goals as goal

pub returns : goal.returns
returns c = field-ends _ _ _ (search rules) c.place_of-size.ensures
