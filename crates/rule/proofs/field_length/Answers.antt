-- One return for each form of the field.
use native.Mathlib.Omega.{arith}
use Rattle.rule.proofs.ReadingLaws.{short-length, long-length, high_small}
use Rattle.rule.proofs.field_length.Goals as goal

pub returns-then-first-lt240 : goal.returns-then-first-lt240
returns-then-first-lt240 c = (short-length _ _ c.octet_at-first.ensures.0 c.if-first-lt240.true, omega arith)

pub overflow_cast-result-2 : goal.overflow_cast-result-2
overflow_cast-result-2 c = omega (arith, high_small c.octet_at-first.result)

pub overflow_mul-result : goal.overflow_mul-result
overflow_mul-result c = omega (arith, high_small c.octet_at-first.result)

pub overflow_add-result : goal.overflow_add-result
overflow_add-result c = omega (arith, high_small c.octet_at-first.result)

pub returns : goal.returns
returns c = (
  long-length _ _ c.octet_at-first.ensures.0 _ c.if-first-lt240.false c.octet_at-low.ensures.0,
  omega (arith, high_small c.octet_at-first.result),
)
