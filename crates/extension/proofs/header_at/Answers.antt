-- One law for each return.
use Rattle.extension.specs.Extension.{header_at}
use Rattle.extension.proofs.ExtensionLaws.{header-upper}
use borrow.Author.Rules.{rules}
use Rattle.extension.proofs.header_at.Goals as goal

pub returns-then-is_walked : goal.returns-then-is_walked
unfolding header_at
returns-then-is_walked c = search rules

pub returns-then-progress : goal.returns-then-progress
unfolding header_at
returns-then-progress c = search rules

pub returns : goal.returns
returns c = search (header-upper, rules)
