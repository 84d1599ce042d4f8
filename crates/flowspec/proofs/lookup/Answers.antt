-- One law for each return.
use borrow.Author.Rules.{rules}
use Rattle.rule.proofs.FamilyLaws.{chosen-fits}
use Rattle.rule.proofs.Passing.{passed}
use Rattle.flowspec.proofs.TableLaws.{look-refused, look-judged}
use Rattle.flowspec.proofs.lookup.Goals as goal

pub open_lookup-requires : goal.open_lookup-requires
open_lookup-requires c = search (chosen-fits, rules)

pub returns-in_err-shown : goal.returns-in_err-shown
returns-in_err-shown c =
    look-refused _ _ c.family_of-family.ensures _ _ _ c.open_lookup.ensures _ c.in_err-shown.was _
    (passed _ c.in_err-shown.field-0.0 c.from_residual.ensures.1)

pub look_up-requires : goal.look_up-requires
look_up-requires c = search (chosen-fits, rules)

pub returns : goal.returns
returns c = look-judged _ _ c.family_of-family.ensures _ _ _ c.open_lookup.ensures _ c.in_ok-shown.was _ c.look_up.ensures
