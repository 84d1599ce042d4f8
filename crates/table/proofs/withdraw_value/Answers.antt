-- The plain spelling stands at the front of the working array; the change is that of the entries.
use native.Mathlib.Omega.{arith}
use Rattle.rule.proofs.ValueLaws.{accepted-small}
use Rattle.spelling.proofs.WritingLaws.{front_length}
use Rattle.table.proofs.CallLaws.{front-held, withdrew}
use Rattle.table.proofs.withdraw_value.Goals as goal

pub fill_plain-requires : goal.fill_plain-requires
fill_plain-requires c = let ok = c.requires.1 in (ok, omega (arith, accepted-small _ _ ok))

pub slice_bounds-work-end : goal.slice_bounds-work-end
slice_bounds-work-end c = omega (arith, accepted-small _ _ c.requires.1)

pub slice_bounds-remove_rule-end : goal.slice_bounds-remove_rule-end
slice_bounds-remove_rule-end c = front_length _ _ _ _ c.fill_plain.ensures

pub remove_rule-requires : goal.remove_rule-requires
remove_rule-requires c =
    (c.requires.0, front-held _ _ _ _ c.fill_plain.ensures (λ i. (c.type_inv.value i).fits) c.requires.1)

pub returns : goal.returns
returns c = withdrew _ _ _ _ c.fill_plain.ensures _ _ _ c.remove_rule.ensures
