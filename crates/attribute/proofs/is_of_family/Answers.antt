-- Both numbers are compared.
use Rattle.attribute.proofs.HeadLaws.{of-family}
use borrow.Author.Rules.{rules}
use Rattle.attribute.proofs.is_of_family.Goals as goal

pub returns : goal.returns
returns c = search (of-family, rules)
