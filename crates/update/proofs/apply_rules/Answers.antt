-- The rules passed are done and their numbers listed, and what the rest leaves completes what all leave.
use mathlib.Core.Path.{◌≡◌, ap, ◌∙◌}
use borrow.Author.Rules.{rules}
use Prim.Native.Nat.{◌<◌}
use native.Mathlib.Omega.{arith}
use lib.ListN.{length}
use Rattle.std.proofs.Common.{Ok, Some}
use Rattle.rule.specs.Family.{family_of}
use Rattle.attribute.proofs.RulesLaws.{RuleThere}
use Rattle.update.proofs.LoopLaws.{rule_found, apply-starts, apply-done, apply-never, apply-word, apply-on}
use Rattle.update.proofs.apply_rules.Goals.{In-Ok-Some}
use Rattle.update.proofs.apply_rules.Goals as goal

pub loop-rule-init : goal.loop-rule-init
loop-rule-init c = apply-starts _ _ _ _ _ _ _ _ c.requires

pub returns-in_default : goal.returns-in_default
returns-in_default c =
    apply-done _ _ _ _ _ _ _ _ c.requires _ _ _ _ _ c.loop-rule.invariant _ c.family_of-chosen.ensures _ c.rule_at.ensures
    (c.in_default.is ∙ ap (λ found. Ok found) (search rules))

pub returns-in_default-2 : goal.returns-in_default-2
returns-in_default-2 c = search (apply-never, rules)

-- the rule that the turn has is the one found at its place
another : (c : In-Ok-Some) → c.rule_at.result ≡ Ok (Some c.in-Ok-Some.rule)
another c = c.in-Ok-Some.is ∙ ap (λ found. Ok found) c.in-Ok-Some.field-0-is

-- where that rule stands
there : (c : In-Ok-Some)
    → RuleThere (family_of c.args.family) c.args.attribute.now c.loop-rule.at c.in-Ok-Some.rule.start c.in-Ok-Some.rule.end
there c = rule_found _ _ c.family_of-chosen.ensures _ _ _ c.rule_at.ensures _ _ (another c)

word : (c : In-Ok-Some) → c.loop-rule.count < length c.loop-rule.answers
word c =
    apply-word _ _ _ _ _ _ _ _ c.requires _ _ _ _ _ c.loop-rule.invariant _ c.family_of-chosen.ensures _ c.rule_at.ensures _ _ (another c)

pub slice_bounds-value-count : goal.slice_bounds-value-count
slice_bounds-value-count c = (there (goal.at.slice_bounds-value-count c).In-Ok-Some).ordered

pub slice_bounds-value-start : goal.slice_bounds-value-start
slice_bounds-value-start c = (there (goal.at.slice_bounds-value-start c).In-Ok-Some).ordered

pub slice_bounds-value-end : goal.slice_bounds-value-end
slice_bounds-value-end c = (there (goal.at.slice_bounds-value-end c).In-Ok-Some).within

pub apply_rule-answer-requires : goal.apply_rule-answer-requires
apply_rule-answer-requires c = (c.loop-rule.invariant.ready, (there (goal.at.apply_rule-answer-requires c).In-Ok-Some).accepted)

pub offset_bounds-answers-count : goal.offset_bounds-answers-count
offset_bounds-answers-count c = omega (arith, word (goal.at.offset_bounds-answers-count c).In-Ok-Some, c.loop-rule.invariant.words)

pub bounds-answers-count : goal.bounds-answers-count
bounds-answers-count c = word (goal.at.bounds-answers-count c).In-Ok-Some

pub overflow_add-count : goal.overflow_add-count
overflow_add-count c = omega (arith, word (goal.at.overflow_add-count c).In-Ok-Some, c.loop-rule.invariant.words)

pub loop-rule-smaller : goal.loop-rule-smaller
loop-rule-smaller c = let r = there (goal.at.loop-rule-smaller c).In-Ok-Some in omega (arith, r.begins, r.ordered, r.within)

pub loop-rule-preserved : goal.loop-rule-preserved
loop-rule-preserved c =
    apply-on _ _ _ _ _ _ _ _ c.requires _ _ _ _ _ c.loop-rule.invariant _ c.family_of-chosen.ensures _ c.rule_at.ensures _ _
    (another (goal.at.loop-rule-preserved c).In-Ok-Some)
    (λ i. (c.type_inv.attribute i).fits) _ _ c.apply_rule-answer.ensures (search rules) _ c.told_number.ensures.0
