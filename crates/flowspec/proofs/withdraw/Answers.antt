-- A rule that was read lies in its octets; then one law for each return.
use native.Mathlib.Omega.{arith}
use Rattle.rule.proofs.ReadingLaws.{ReadRule}
use Rattle.flowspec.proofs.TableLaws.{withdraw-unsound, withdraw-refused, withdraw-rule, withdraw-requires, withdraw-done}
use Rattle.rule.proofs.FamilyLaws.{chosen-fits}
use Rattle.rule.proofs.Passing.{passed}
use borrow.Author.Rules.{rules}
use Rattle.flowspec.proofs.withdraw.Goals.{In_ok-value}
use Rattle.flowspec.proofs.withdraw.Goals as goal

-- where the rule was read: the table checked, the family chosen, and the function's start
rule-read : (c : In_ok-value) → ReadRule c.family_of-family.result c.args.rule.now c.in_ok-value.value.start c.in_ok-value.value.size
rule-read c =
    withdraw-rule _ _ c.family_of-family.ensures _ _ _ c.sound_table.ensures _ c.in_ok-used.was
    _ c.one_rule.ensures _ _ c.in_ok-value.was

pub sound_table-requires : goal.sound_table-requires
sound_table-requires c = search (chosen-fits, rules)

pub returns-in_err-used : goal.returns-in_err-used
returns-in_err-used c =
    withdraw-unsound _ _ c.family_of-family.ensures _ _ _ c.sound_table.ensures _ c.in_err-used.was _
    (passed _ c.in_err-used.field-0.0 c.from_residual.ensures.1)

pub returns-in_err-value : goal.returns-in_err-value
returns-in_err-value c =
    withdraw-refused _ _ c.family_of-family.ensures _ _ _ c.sound_table.ensures _ c.in_ok-used.was
    _ c.one_rule.ensures _ c.in_err-value.was _
    (passed _ c.in_err-value.field-0.0 c.from_residual-in_err-value.ensures.1)

pub overflow_add-end : goal.overflow_add-end
overflow_add-end c = omega (arith, rule-read (goal.at.overflow_add-end c).In_ok-value)

pub slice_bounds-withdraw_value-end : goal.slice_bounds-withdraw_value-end
slice_bounds-withdraw_value-end c = omega (arith, rule-read (goal.at.slice_bounds-withdraw_value-end c).In_ok-value)

pub withdraw_value-answer-requires : goal.withdraw_value-answer-requires
withdraw_value-answer-requires c =
    withdraw-requires _ _ c.family_of-family.ensures _ _ _ c.sound_table.ensures _ c.in_ok-used.was
    _ c.one_rule.ensures _ _ c.in_ok-value.was
    (search (chosen-fits, rules))

pub returns : goal.returns
returns c =
    withdraw-done _ _ c.family_of-family.ensures _ _ _ c.sound_table.ensures _ c.in_ok-used.was
    _ c.one_rule.ensures _ _ c.in_ok-value.was
    _ _ c.withdraw_value-answer.ensures
