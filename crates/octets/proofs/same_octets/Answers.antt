-- The library's test goes element by element too.
use mathlib.Core.Path.{◌∙◌}
use Rattle.octets.proofs.TestLaws.{pointwise-same}
use Rattle.octets.proofs.same_octets.Goals as goal

pub returns : goal.returns
returns c = c.eq.ensures ∙ pointwise-same _ _
