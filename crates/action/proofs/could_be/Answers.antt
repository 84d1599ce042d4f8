-- Whether some communities could give these actions: the definition's own tests.
use Rattle.action.specs.Possible.{could_be}
use Rattle.action.proofs.could_be.Goals as goal

pub returns : goal.returns
unfolding could_be
returns c = cc
