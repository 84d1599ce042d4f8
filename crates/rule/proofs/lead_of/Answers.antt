-- Two octets where there is an offset, and one where not.
use mathlib.Core.Path.{sym}
use native.Mathlib.Omega.{arith}
use Rattle.rule.proofs.ComponentLaws.{lead-with, lead-without}
use Rattle.rule.proofs.lead_of.Goals as goal

pub returns-then-family : goal.returns-then-family
returns-then-family c = (sym (lead-with _ c.if-family.true), omega arith)

pub returns : goal.returns
returns c = (sym (lead-without _ c.if-family.false), omega arith)
