-- Two prefixes that begin apart are not nested, and of others the bits up to the lesser length decide.
use Rattle.prefix.proofs.ContainLaws.{apart-offsets, nested-by-bits}
use borrow.Author.Rules.{rules}
use Rattle.prefix.proofs.are_nested.Goals as goal

pub returns-then-first-second : goal.returns-then-first-second
returns-then-first-second c = search (apart-offsets, rules)

pub returns : goal.returns
returns c = search (nested-by-bits, rules)
