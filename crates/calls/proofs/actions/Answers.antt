-- The actions that the communities tell; unsound ones are 13.
use Rattle.flowspec.specs.Told.{actions_told}
use Rattle.calls.proofs.CallLaws.{with_out, acts, answered, actions-refused, actions-done}
use Rattle.calls.proofs.actions.Goals as goal

pub returns-in-None : goal.returns-in-None
returns-in-None c = with_out (acts _) (answered actions_told _ _ c.read_actions.ensures.is _ c.in-None.is _ _ _ (actions-refused _ _ c.word_of.ensures))

pub returns-in-Some : goal.returns-in-Some
returns-in-Some c = with_out (acts _) (answered actions_told _ _ c.read_actions.ensures.is _ c.in-Some.is _ _ _ (actions-done _ _ _ c.values_of.ensures))
