-- One law for each return.
use Rattle.table.proofs.WalkLaws.{at-end, at-rubbish, at-short, at-record}
use borrow.Author.Rules.{rules}
use Rattle.table.proofs.record_at.Goals as goal

pub returns-then-is_zero : goal.returns-then-is_zero
returns-then-is_zero c = search (at-end, rules)

pub returns-then-size-eq0 : goal.returns-then-size-eq0
returns-then-size-eq0 c = search (at-rubbish, rules)

pub returns-then-table-at : goal.returns-then-table-at
returns-then-table-at c = search (at-short, rules)

pub returns : goal.returns
returns c = search (at-record, rules)
