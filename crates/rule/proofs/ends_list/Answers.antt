-- The code's test is the definition's.
use mathlib.Core.Path.{refl}
use Rattle.rule.specs.Operator.{ends_list}
use Rattle.rule.proofs.ends_list.Goals as goal

pub returns : goal.returns
unfolding ends_list
returns c = refl
