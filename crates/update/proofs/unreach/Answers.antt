-- One law for each return: the table is not sound, what is given is refused, or its rules are withdrawn, by no routes.
use Rattle.octets.proofs.Facts.{Octets}
use Rattle.rule.proofs.FamilyLaws.{chosen-fits}
use Rattle.rule.proofs.Passing.{passed}
use Rattle.update.proofs.ApplyLaws.{unreach-unsound, unreach-refused, unreach-prepared, unreach-done}
use borrow.Author.Rules.{rules}
use Rattle.update.proofs.unreach.Goals.{In_ok-count}
use Rattle.update.proofs.unreach.Goals as goal

-- where the unreach was read: the table checked, the family chosen, the slices lent, and the function's start
attribute-octets : (c : In_ok-count) → Octets c.args.attribute.now
attribute-octets c i = (c.type_inv.attribute i).fits

pub sound_table-requires : goal.sound_table-requires
sound_table-requires c = search (chosen-fits, rules)

pub returns-in_err-used : goal.returns-in_err-used
returns-in_err-used c =
    unreach-unsound _ _ c.family_of-chosen.ensures _ _ _ _ c.sound_table.ensures _ c.in_err-used.was _
    (passed _ c.in_err-used.field-0.0 c.from_residual.ensures.1)

pub returns-in_err-count : goal.returns-in_err-count
returns-in_err-count c =
    unreach-refused _ _ c.family_of-chosen.ensures _ _ c.args.answers.now _ c.sound_table.ensures _ c.in_ok-used.was
    _ c.read_unreach.ensures _ c.in_err-count.was _ (passed _ c.in_err-count.field-0.0 c.from_residual-in_err-count.ensures.1)

pub apply_rules-requires : goal.apply_rules-requires
apply_rules-requires c =
    unreach-prepared _ _ c.family_of-chosen.ensures _ _ c.args.answers.now _ c.sound_table.ensures _
    c.in_ok-used.was _ c.read_unreach.ensures _ c.in_ok-count.was
    (chosen-fits c.args.family _ c.family_of-chosen.ensures)

pub returns : goal.returns
returns c =
    unreach-done _ _ c.family_of-chosen.ensures _ _ c.args.answers.now _ c.sound_table.ensures _
    c.in_ok-used.was _ c.read_unreach.ensures _ c.in_ok-count.was
    (attribute-octets (goal.at.returns c).In_ok-count) _ _ _ c.apply_rules.ensures
