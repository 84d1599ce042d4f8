-- The octet there, where the family has offsets.
use mathlib.Core.Path.{sym, ◌∙◌}
use Rattle.rule.proofs.ComponentLaws.{offset-with, offset-without}
use Rattle.rule.proofs.offset_at.Goals as goal

pub returns-then-family : goal.returns-then-family
returns-then-family c = c.octet_at.ensures.0 ∙ sym (offset-with _ _ _ c.if-family.true)

pub returns : goal.returns
returns c = sym (offset-without _ _ _ c.if-family.false)
