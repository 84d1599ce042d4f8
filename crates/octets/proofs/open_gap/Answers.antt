-- What is moved up opens the gap.
use mathlib.Core.Path.{◌∙◌}
use Rattle.octets.proofs.StoreLaws.{opened}
use Rattle.octets.proofs.open_gap.Goals as goal

pub returns : goal.returns
returns c = c.copy_within.ensures.after ∙ opened _ _ _ c.requires
