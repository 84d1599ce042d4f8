-- A rule that was read lies in its octets; then one law for each return.
use native.Mathlib.Omega.{arith}
use Rattle.rule.proofs.Passing.{passed}
use Rattle.request.proofs.JudgingLaws.{rule-there}
use Rattle.flowspec.proofs.FeasibilityLaws.{judge-refused, judge-read}
use Rattle.flowspec.proofs.judge_rule.Goals as goal

pub returns-in_err-value : goal.returns-in_err-value
returns-in_err-value c =
    judge-refused _ _ _ _ _ c.read_with_routes.ensures _ c.in_err-value.was _ (passed _ c.in_err-value.field-0.0 c.from_residual.ensures.1)

pub overflow_add-end : goal.overflow_add-end
overflow_add-end c = omega (arith, rule-there _ _ _ _ _ _ c.read_with_routes.ensures c.in_ok-value.was)

pub slice_bounds-is_feasible-end : goal.slice_bounds-is_feasible-end
slice_bounds-is_feasible-end c = omega (arith, rule-there _ _ _ _ _ _ c.read_with_routes.ensures c.in_ok-value.was)

pub returns : goal.returns
returns c = judge-read _ _ _ _ _ c.read_with_routes.ensures _ _ _ _ c.in_ok-value.was c.is_feasible.ensures c.feasibility_of.ensures
