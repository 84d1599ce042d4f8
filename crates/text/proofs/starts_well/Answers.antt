-- An empty text, a single sign and a longer text are the definition's three cases.
use Rattle.std.proofs.Common.{arith}
use Rattle.text.proofs.DecimalLaws.{well-none, well-one, well-many}
use Rattle.text.proofs.starts_well.Goals as goal

pub returns-in-empty : goal.returns-in-empty
returns-in-empty c = well-none _ (omega (arith, c.in-empty))

pub returns-in-len1 : goal.returns-in-len1
returns-in-len1 c = well-one _ (omega (arith, c.in-len1))

pub returns-in-len1-up : goal.returns-in-len1-up
returns-in-len1-up c = well-many _ (omega (arith, c.in-len1-up))
