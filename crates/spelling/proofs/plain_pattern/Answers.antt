-- Shifted down and up again, an octet keeps its first bits.
use native.Mathlib.Omega.{arith}
use Rattle.spelling.specs.Plain.{plain_pattern}
use Rattle.spelling.proofs.PlainLaws.{shifted, shifted-small, whole-octet}
use borrow.Author.Rules.{rules}
use Rattle.spelling.proofs.plain_pattern.Goals as goal

pub returns-then-left-ge8 : goal.returns-then-left-ge8
returns-then-left-ge8 c = search (whole-octet, rules)

pub overflow_cast-result-2 : goal.overflow_cast-result-2
overflow_cast-result-2 c = record { fits = shifted-small _ _ (omega arith) }

pub returns : goal.returns
unfolding plain_pattern
returns c = shifted _ _ (omega arith)
