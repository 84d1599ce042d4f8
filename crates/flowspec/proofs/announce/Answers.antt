-- One law for each return: the checks come in 01's order, and what is asked is done to the table.
use native.Mathlib.Omega.{arith}
use Rattle.rule.proofs.ReadingLaws.{ReadRule}
use Rattle.flowspec.proofs.TableLaws.{announce-unsound, announce-refused, announce-rule, announce-requires, announce-done}
use Rattle.rule.proofs.FamilyLaws.{chosen-fits}
use Rattle.rule.proofs.Passing.{passed}
use borrow.Author.Rules.{rules}
use Rattle.flowspec.proofs.announce.Goals.{In_ok-asked}
use Rattle.flowspec.proofs.announce.Goals as goal

-- where the rule was read: the table checked, the family chosen, and the function's start
rule-read : (c : In_ok-asked) → ReadRule c.family_of-chosen.result c.args.rule.now c.in_ok-asked.asked.start c.in_ok-asked.asked.size
rule-read c =
    announce-rule _ _ c.family_of-chosen.ensures _ _ _ _ c.sound_table.ensures _ c.in_ok-used.was
    _ c.request_of.ensures _ _ _ _ c.in_ok-asked.was

pub sound_table-requires : goal.sound_table-requires
sound_table-requires c = search (chosen-fits, rules)

pub returns-in_err-used : goal.returns-in_err-used
returns-in_err-used c =
    announce-unsound _ _ c.family_of-chosen.ensures _ _ _ _ c.sound_table.ensures _ c.in_err-used.was _
    (passed _ c.in_err-used.field-0.0 c.from_residual.ensures.1)

pub returns-in_err-asked : goal.returns-in_err-asked
returns-in_err-asked c =
    announce-refused _ _ c.family_of-chosen.ensures _ _ _ _ c.sound_table.ensures _ c.in_ok-used.was
    _ c.request_of.ensures _ c.in_err-asked.was _
    (passed _ c.in_err-asked.field-0.0 c.from_residual-in_err-asked.ensures.1)

pub overflow_add-end : goal.overflow_add-end
overflow_add-end c = omega (arith, rule-read (goal.at.overflow_add-end c).In_ok-asked)

pub slice_bounds-value-end : goal.slice_bounds-value-end
slice_bounds-value-end c = omega (arith, rule-read (goal.at.slice_bounds-value-end c).In_ok-asked)

pub announce_value-answer-requires : goal.announce_value-answer-requires
announce_value-answer-requires c =
    announce-requires _ _ c.family_of-chosen.ensures _ _ _ _ c.sound_table.ensures _ c.in_ok-used.was
    _ c.request_of.ensures _ _ _ _ c.in_ok-asked.was
    (search (chosen-fits, rules))

pub returns : goal.returns
returns c =
    announce-done _ _ c.family_of-chosen.ensures _ _ _ _ c.sound_table.ensures _ c.in_ok-used.was
    _ c.request_of.ensures _ _ _ _ c.in_ok-asked.was
    _ _ _ c.announce_value-answer.ensures c.announced_of.ensures
