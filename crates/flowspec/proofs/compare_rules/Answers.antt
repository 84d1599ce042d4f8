-- The answer is the order crate's.
use mathlib.Core.Path.{refl, ap, ◌∙◌}
use Rattle.rule.proofs.FamilyLaws.{chosen-fits}
use Rattle.order.specs.Compare.{compare_rules}
use Rattle.flowspec.specs.Told.{comparison_told}
use Rattle.flowspec.proofs.ToldLaws.{compare-tells}
use borrow.Author.Rules.{rules}
use Rattle.flowspec.proofs.compare_rules.Goals as goal

pub compare_rules-requires : goal.compare_rules-requires
compare_rules-requires c = search (chosen-fits, rules)

pub returns : goal.returns
returns c = let lent = c.args in
    let e = c.compare_rules.ensures ∙ ap (λ f. compare_rules f lent.first.now lent.second.now) c.family_of.ensures in
    record { is = e; tells = ap comparison_told e ∙ compare-tells _ _ _; keeps = refl }
