-- The rules passed are counted, so that the count of all is that and the count of what is left.
use mathlib.Core.Path.{ap, ◌∙◌}
use Prim.Native.Nat.{◌+◌, ◌<◌, ◌≤◌}
use native.Mathlib.Omega.{arith}
use lib.ListN.{length}
use Rattle.std.proofs.Common.{Ok}
use Rattle.rule.proofs.Passing.{passed}
use Rattle.attribute.proofs.CountLaws.{count-starts, count-end, count-refused, count-within, count-on}
use borrow.Author.Rules.{rules}
use Rattle.attribute.proofs.count_rules.Goals.{In-Some}
use Rattle.attribute.proofs.count_rules.Goals as goal

-- where a rule was found: where that rule ends
within : (c : In-Some)
    → (c.loop-rule.count + 1 ≤ c.in-Some.rule.end) × (c.loop-rule.at < c.in-Some.rule.end) × (c.in-Some.rule.end ≤ length c.args.attribute.now)
within c = count-within _ _ _ _ _ c.loop-rule.invariant _ c.rule_at.ensures _ _ (c.in_ok-rule.was ∙ ap (λ found. Ok found) c.in-Some.is)

pub loop-rule-init : goal.loop-rule-init
loop-rule-init c = count-starts _ _ _

pub returns-in_err-rule : goal.returns-in_err-rule
returns-in_err-rule c =
    passed _ c.in_err-rule.field-0.0 c.from_residual.ensures.1 ∙ count-refused _ _ _ _ _ c.loop-rule.invariant _ c.rule_at.ensures _ c.in_err-rule.was

pub overflow_add-count : goal.overflow_add-count
overflow_add-count c = omega (arith, within c)

pub loop-rule-smaller : goal.loop-rule-smaller
loop-rule-smaller c = omega (arith, within c)

pub loop-rule-preserved : goal.loop-rule-preserved
loop-rule-preserved c =
    count-on _ _ _ _ _ c.loop-rule.invariant _ c.rule_at.ensures _ _ (c.in_ok-rule.was ∙ ap (λ found. Ok found) c.in-Some.is)

pub returns : goal.returns
returns c = search (count-end, rules)
