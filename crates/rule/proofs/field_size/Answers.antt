-- One return for each form of the field.
use native.Mathlib.Omega.{arith}
use Rattle.rule.proofs.ReadingLaws.{short-size, long-size}
use Rattle.rule.proofs.field_size.Goals as goal

pub returns-then-octet_at-lt240 : goal.returns-then-octet_at-lt240
returns-then-octet_at-lt240 c = (short-size _ _ c.octet_at.ensures.0 c.if-octet_at-lt240.true, omega arith)

pub returns : goal.returns
returns c = (long-size _ _ c.octet_at.ensures.0 c.if-octet_at-lt240.false, omega arith)
