-- One law for each return: a refusal of the first rule, one of the second, and the order of both values.
use mathlib.Core.Path.{sym, ◌∙◌}
use native.Mathlib.Omega.{arith}
use Rattle.rule.proofs.ReadingLaws.{ReadRule, one-read}
use Rattle.rule.proofs.Passing.{passed}
use Rattle.order.proofs.CompareLaws.{value-accepted, compare-first-refused, compare-second-refused, compare-both}
use borrow.Author.Rules.{rules}
use Rattle.order.proofs.compare_rules.Goals.{In_ok-right}
use Rattle.order.proofs.compare_rules.Goals as goal

-- where both rules were read
left-read : (c : In_ok-right) → ReadRule c.args.family c.args.first.now c.in_ok-left.left.start c.in_ok-left.left.size
left-read c = one-read _ _ _ _ (sym c.one_rule.ensures ∙ c.in_ok-left.was)

right-read : (c : In_ok-right) → ReadRule c.args.family c.args.second.now c.in_ok-right.right.start c.in_ok-right.right.size
right-read c = one-read _ _ _ _ (sym c.one_rule-2.ensures ∙ c.in_ok-right.was)

pub overflow_add-end : goal.overflow_add-end
overflow_add-end c = omega (arith, left-read (goal.at.overflow_add-end c).In_ok-right)

pub overflow_add-stop : goal.overflow_add-stop
overflow_add-stop c = omega (arith, right-read (goal.at.overflow_add-stop c).In_ok-right)

pub slice_bounds-compare_values-end : goal.slice_bounds-compare_values-end
slice_bounds-compare_values-end c = omega (arith, left-read (goal.at.slice_bounds-compare_values-end c).In_ok-right)

pub slice_bounds-compare_values-end-2 : goal.slice_bounds-compare_values-end-2
slice_bounds-compare_values-end-2 c = omega (arith, right-read (goal.at.slice_bounds-compare_values-end-2 c).In_ok-right)

pub compare_values-requires : goal.compare_values-requires
compare_values-requires c = let both = (goal.at.compare_values-requires c).In_ok-right in
    (search rules, (value-accepted _ _ _ _ (left-read both), value-accepted _ _ _ _ (right-read both)))

pub returns-in_err-left : goal.returns-in_err-left
returns-in_err-left c = passed _ c.in_err-left.field-0.0 c.from_residual.ensures.1 ∙ search (compare-first-refused, rules)

pub returns-in_err-right : goal.returns-in_err-right
returns-in_err-right c =
    passed _ c.in_err-right.field-0.0 c.from_residual-in_err-right.ensures.1
    ∙ compare-second-refused _ _ _ _ c.one_rule.ensures _ _ c.in_ok-left.was _ c.one_rule-2.ensures _ c.in_err-right.was

pub returns : goal.returns
returns c = search (compare-both, rules)
