-- Both octets are tested against what the callees make of them.
use Rattle.entry.proofs.BodyLaws.{pair-answer}
use borrow.Author.Rules.{rules}
use Rattle.entry.proofs.is_plain_pair.Goals as goal

pub returns : goal.returns
returns c = search (pair-answer, rules)
