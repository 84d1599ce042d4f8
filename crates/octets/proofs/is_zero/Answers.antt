-- A bit is set in some octet exactly where the octets together have one.
use borrow.Author.Rules.{rules}
use Rattle.octets.proofs.TestLaws.{zero-from}
use Rattle.octets.proofs.is_zero.Goals as goal

pub returns : goal.returns
returns c = zero-from _ _ _ _ c.min-start.ensures (search rules)
