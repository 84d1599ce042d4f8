-- The answer is the rule crate's.
use mathlib.Core.Path.{refl, ap, ◌∙◌}
use Rattle.rule.specs.Reading.{one_rule}
use Rattle.flowspec.specs.Told.{reading_told}
use Rattle.flowspec.proofs.ToldLaws.{read-tells}
use Rattle.flowspec.proofs.read_rule.Goals as goal

pub returns : goal.returns
returns c = let e = c.one_rule.ensures ∙ ap (λ f. one_rule f c.args.rule.now) c.family_of.ensures in
    record { is = e; tells = ap reading_told e ∙ read-tells _ _; keeps = refl }
