-- One law for each return.
use borrow.Author.Rules.{rules}
use Rattle.rule.proofs.FamilyLaws.{chosen-fits}
use Rattle.rule.proofs.Passing.{passed}
use Rattle.flowspec.proofs.TableLaws.{locate-refused, locate-found}
use Rattle.flowspec.proofs.first_match_place.Goals as goal

pub open_lookup-requires : goal.open_lookup-requires
open_lookup-requires c = search (chosen-fits, rules)

pub returns-in_err-shown : goal.returns-in_err-shown
returns-in_err-shown c =
    locate-refused _ _ c.family_of-family.ensures _ _ _ c.open_lookup.ensures _ c.in_err-shown.was _
    (passed _ c.in_err-shown.field-0.0 c.from_residual.ensures.1)

pub first_place-requires : goal.first_place-requires
first_place-requires c = search (chosen-fits, rules)

pub returns : goal.returns
returns c = locate-found _ _ c.family_of-family.ensures _ _ _ c.open_lookup.ensures _ c.in_ok-shown.was _ c.first_place.ensures
