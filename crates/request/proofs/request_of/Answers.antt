-- A rule that was read lies in its octets; then one law for each return.
use mathlib.Core.Path.{◌∙◌}
use borrow.Author.Rules.{rules}
use native.Mathlib.Omega.{arith}
use Rattle.rule.proofs.Passing.{passed}
use Rattle.request.proofs.JudgingLaws.{rule-there}
use Rattle.request.proofs.RequestLaws.{ask-refused, ask-actions, ask-announce}
use Rattle.request.proofs.request_of.Goals as goal

pub returns-in_err-value : goal.returns-in_err-value
returns-in_err-value c = passed _ c.in_err-value.field-0.0 c.from_residual.ensures.1 ∙ search (ask-refused, rules)

pub returns-in_default : goal.returns-in_default
returns-in_default c = ask-actions _ _ _ _ c.read_with_routes.ensures _ _ c.in_ok-value.was _ c.actions_of.ensures (search rules)

pub overflow_add-end : goal.overflow_add-end
overflow_add-end c = omega (arith, rule-there _ _ _ _ _ _ c.read_with_routes.ensures c.in_ok-value.was)

pub slice_bounds-is_feasible-end : goal.slice_bounds-is_feasible-end
slice_bounds-is_feasible-end c = omega (arith, rule-there _ _ _ _ _ _ c.read_with_routes.ensures c.in_ok-value.was)

pub returns : goal.returns
returns c =
    ask-announce _ _ _ _ c.read_with_routes.ensures _ _ c.in_ok-value.was _ c.actions_of.ensures _ _ c.in-Some.is
    c.is_feasible-feasible.ensures
