-- One law for each return: the table is not sound, what is given is refused, or its rules are announced.
use Prim.Native.Nat.{◌^◌, ◌<◌}
use native.Mathlib.Omega.{arith}
use Rattle.octets.proofs.Facts.{Octets}
use Rattle.request.specs.Input.{Policy, policy_of}
use Rattle.rule.proofs.FamilyLaws.{chosen-fits}
use Rattle.rule.proofs.Passing.{passed}
use Rattle.update.specs.Singles.{Reach, reach_of}
use Rattle.update.proofs.ApplyLaws.{reach-unsound, reach-refused, reach-prepared, reach-done}
use borrow.Author.Rules.{rules}
use Rattle.update.proofs.reach.Goals.{In_ok-used}
use Rattle.update.proofs.reach.Goals as goal

-- where the table was found sound: the family chosen, the slices lent, and the function's start
abbrev policy : (c : In_ok-used) → Policy
policy c = policy_of c.args.routes.now c.args.settings

abbrev asked : (c : In_ok-used) → Reach
asked c = reach_of c.args.attribute.now c.args.origin c.args.communities.now

attribute-octets : (c : In_ok-used) → Octets c.args.attribute.now
attribute-octets c i = (c.type_inv.attribute i).fits

origin-fits : (c : In_ok-used) → c.args.origin.originator < 2 ^ 32
origin-fits c = omega (arith, c.well_formed)

pub sound_table-requires : goal.sound_table-requires
sound_table-requires c = search (chosen-fits, rules)

pub returns-in_err-used : goal.returns-in_err-used
returns-in_err-used c =
    reach-unsound _ _ c.family_of-chosen.ensures _ _ _ _ _ c.sound_table.ensures _ c.in_err-used.was _
    (passed _ c.in_err-used.field-0.0 c.from_residual.ensures.1)

pub read_reach-requires : goal.read_reach-requires
read_reach-requires c = search (chosen-fits, rules)

pub returns-in_err-read : goal.returns-in_err-read
returns-in_err-read c =
    let here = (goal.at.returns-in_err-read c).In_ok-used in
    reach-refused _ _ c.family_of-chosen.ensures (policy here) (asked here) _ _ _ c.sound_table.ensures _ c.in_ok-used.was
    _ c.read_reach.ensures _ c.in_err-read.was _ (passed _ c.in_err-read.field-0.0 c.from_residual-in_err-read.ensures.1)

pub apply_rules-requires : goal.apply_rules-requires
apply_rules-requires c =
    let here = (goal.at.apply_rules-requires c).In_ok-used in
    reach-prepared _ _ c.family_of-chosen.ensures (policy here) (asked here) _ c.args.answers.now _ c.sound_table.ensures _ c.in_ok-used.was
    _ c.read_reach.ensures _ _ c.in_ok-read.was (chosen-fits c.args.family _ c.family_of-chosen.ensures) (origin-fits here)

pub returns : goal.returns
returns c =
    let here = (goal.at.returns c).In_ok-used in
    reach-done _ _ c.family_of-chosen.ensures (policy here) (asked here) _ c.args.answers.now _ c.sound_table.ensures _ c.in_ok-used.was
    _ c.read_reach.ensures _ _ c.in_ok-read.was (attribute-octets here) (origin-fits here) _ _ _ c.notes_of-notes.ensures c.apply_rules.ensures
