-- The head of the value decides, and then its components.
use Rattle.lookup.proofs.LookupLaws.{record-other, record-hit}
use borrow.Author.Rules.{rules}
use Rattle.lookup.proofs.hits_record.Goals as goal

pub returns-then-not-has_head : goal.returns-then-not-has_head
returns-then-not-has_head c = search (record-other, rules)

pub returns : goal.returns
returns c = search (record-hit, rules)
