-- One law for each return.
use Rattle.extension.proofs.ExtensionLaws.{fragment-none, fragment-cut, fragment-whole}
use borrow.Author.Rules.{rules}
use Rattle.extension.proofs.fragment_at.Goals as goal

pub returns-then-octets-at : goal.returns-then-octets-at
returns-then-octets-at c = search (fragment-none, rules)

pub returns-then-octets-at-lt8 : goal.returns-then-octets-at-lt8
returns-then-octets-at-lt8 c = search (fragment-cut, rules)

pub returns : goal.returns
returns c = search (fragment-whole, rules)
