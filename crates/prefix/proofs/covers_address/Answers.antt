-- The bits from the offset up to the length are compared.
use Rattle.prefix.specs.Prefix.{covers_address}
use borrow.Author.Rules.{rules}
use Rattle.prefix.proofs.covers_address.Goals as goal

pub returns : goal.returns
unfolding covers_address
returns c = search rules
