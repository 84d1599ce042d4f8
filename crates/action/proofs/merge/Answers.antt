-- The actions of two rules taken together: each field is what the callees give.
use Rattle.action.specs.Merging.{merged}
use Rattle.action.proofs.merge.Goals as goal

pub returns : goal.returns
unfolding merged
returns c = cc
