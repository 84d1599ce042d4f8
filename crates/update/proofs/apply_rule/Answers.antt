-- One law for each task: what the table's call leaves is the change that the task asks for.
use Rattle.update.proofs.StepLaws.{step-asks, step-withdrawn, step-announced}
use borrow.Author.Rules.{rules}
use Rattle.update.proofs.apply_rule.Goals as goal

pub withdraw_value-requires : goal.withdraw_value-requires
withdraw_value-requires c = step-asks _ _ c.family_of-chosen.ensures _ _ _ (search rules)

pub announce_value-requires : goal.announce_value-requires
announce_value-requires c = step-asks _ _ c.family_of-chosen.ensures _ _ _ (search rules)

pub returns-in-Withdraw : goal.returns-in-Withdraw
returns-in-Withdraw c = search (step-withdrawn, rules)

pub returns-in-Announce : goal.returns-in-Announce
returns-in-Announce c = search (step-announced, rules)
