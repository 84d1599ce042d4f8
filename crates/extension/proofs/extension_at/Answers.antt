-- One law for each return.
use Rattle.extension.proofs.ExtensionLaws.{extension-later, extension-none, extension-cut, extension-whole}
use borrow.Author.Rules.{rules}
use Rattle.extension.proofs.extension_at.Goals as goal

pub returns-then-progress-ne0 : goal.returns-then-progress-ne0
returns-then-progress-ne0 c = search (extension-later, rules)

pub returns-then-octets-at : goal.returns-then-octets-at
returns-then-octets-at c = search (extension-none, rules)

pub returns-then-octets-at-2 : goal.returns-then-octets-at-2
returns-then-octets-at-2 c = search (extension-cut, rules)

pub returns : goal.returns
returns c = search (extension-whole, rules)
