-- The answer is the action crate's.
use mathlib.Core.Path.{refl, ap, ◌∙◌}
use Rattle.flowspec.specs.Told.{actions_told}
use Rattle.flowspec.proofs.ToldLaws.{actions-tells}
use Rattle.flowspec.proofs.read_actions.Goals as goal

pub returns : goal.returns
returns c = record { is = c.actions_of.ensures; tells = ap actions_told c.actions_of.ensures ∙ actions-tells _; keeps = refl }
