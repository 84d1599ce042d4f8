-- Each field is what the callee gives, and the tests are the definition's own.
use Rattle.entry.specs.Record.{actions_in}
use Rattle.entry.proofs.actions_in.Goals as goal

pub returns : goal.returns
unfolding actions_in
returns c = cc
