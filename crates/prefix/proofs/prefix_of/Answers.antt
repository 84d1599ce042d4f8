-- The fields are what the calls answer.
use Rattle.prefix.proofs.BodyLaws.{start-low, spells}
use borrow.Author.Rules.{rules}
use Rattle.prefix.proofs.prefix_of.Goals as goal

pub address_at-requires : goal.address_at-requires
address_at-requires c = (search rules, search (start-low, rules))

pub returns : goal.returns
returns c = search (spells, rules)
