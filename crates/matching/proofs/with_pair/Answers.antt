-- Both answers are those of the definition.
use mathlib.Core.Path.{refl}
use Rattle.matching.proofs.with_pair.Goals as goal

pub returns : goal.returns
returns c = refl
