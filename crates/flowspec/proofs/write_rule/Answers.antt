-- The writer of crate spelling keeps the promise.
use Rattle.flowspec.proofs.WriteLaws.{writes}
use Rattle.flowspec.proofs.write_rule.Goals as goal

pub returns : goal.returns
returns c = writes _ _ c.family_of.ensures _ _ _ _ c.write_rule.ensures
