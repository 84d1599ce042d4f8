-- By a word and more only the high one is left, and by less its lowest bits go into the low one.
use Rattle.prefix.proofs.WordLaws.{not-shifted, shifted-far, shifted-near}
use borrow.Author.Rules.{rules}
use Rattle.prefix.proofs.shifted.Goals as goal

pub returns-then-count-eq0 : goal.returns-then-count-eq0
returns-then-count-eq0 c = search (not-shifted, rules)

pub returns-then-count-ge64 : goal.returns-then-count-ge64
returns-then-count-ge64 c = search (shifted-far, rules)

pub returns : goal.returns
returns c = search (shifted-near, rules)
