-- A line that ends with its first word is the listing, and one that goes on is another line.
use Rattle.line.proofs.FormLaws.{goes_on}
use Rattle.line.proofs.ReadLaws.{no-list, list_read}
use Rattle.line.proofs.read_list.Goals as goal

pub returns-then-word-line : goal.returns-then-word-line
returns-then-word-line c = no-list _ _ (goes_on _ _ c.if-word-line.true)

pub returns : goal.returns
returns c = list_read _ _ c.if-word-line.false
