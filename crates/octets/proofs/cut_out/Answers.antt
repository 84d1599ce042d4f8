-- What is moved down and then cleared at the end is cut out.
use Rattle.octets.proofs.StoreLaws.{cut}
use Rattle.octets.proofs.cut_out.Goals as goal

pub returns : goal.returns
returns c = cut _ _ _ _ _ c.clear.ensures c.copy_within.ensures.after c.requires
