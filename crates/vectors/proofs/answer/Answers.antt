-- A call leaves the table at its length.
use Rattle.io.proofs.Counting.{prefix_len_of_le}
use borrow.Author.Rules.{rules}
use Rattle.vectors.proofs.answer.Goals as goal

pub returns : goal.returns
returns c = prefix_len_of_le _ _ (search rules)
