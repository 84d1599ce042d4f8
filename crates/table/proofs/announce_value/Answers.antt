-- The plain spelling stands at the front of the working array; then one law for each return.
use native.Mathlib.Omega.{arith}
use Rattle.rule.proofs.ValueLaws.{accepted-small}
use Rattle.spelling.proofs.WritingLaws.{front_length}
use Rattle.table.proofs.CallLaws.{front-held, infeasible, put_in}
use borrow.Author.Rules.{rules}
use Rattle.table.proofs.announce_value.Goals as goal

pub fill_plain-requires : goal.fill_plain-requires
fill_plain-requires c = (search rules, omega (arith, accepted-small))

pub slice_bounds-work-end : goal.slice_bounds-work-end
slice_bounds-work-end c = omega (arith, accepted-small)

pub slice_bounds-insert_rule-end : goal.slice_bounds-insert_rule-end
slice_bounds-insert_rule-end c = front_length _ _ _ _ c.fill_plain.ensures

pub insert_rule-requires : goal.insert_rule-requires
insert_rule-requires c = (search rules, front-held _ _ _ _ c.fill_plain.ensures (λ i. (c.type_inv.value i).fits) (search rules))

pub returns-then-feasible : goal.returns-then-feasible
returns-then-feasible c = search (put_in, rules)

pub slice_bounds-work-end-2 : goal.slice_bounds-work-end-2
slice_bounds-work-end-2 c = omega (arith, accepted-small)

pub slice_bounds-remove_rule-end : goal.slice_bounds-remove_rule-end
slice_bounds-remove_rule-end c = front_length _ _ _ _ c.fill_plain.ensures

pub remove_rule-removed-requires : goal.remove_rule-removed-requires
remove_rule-removed-requires c = (search rules, front-held _ _ _ _ c.fill_plain.ensures (λ i. (c.type_inv.value i).fits) (search rules))

pub returns : goal.returns
returns c = search (infeasible, rules)
