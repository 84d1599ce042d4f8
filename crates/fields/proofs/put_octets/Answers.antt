-- What stands in the room is within it.
use Rattle.io.proofs.Counting.{prefix_len_of_le}
use borrow.Author.Rules.{rules}
use Rattle.fields.proofs.put_octets.Goals as goal

pub returns : goal.returns
returns c = prefix_len_of_le _ _ (search rules)
