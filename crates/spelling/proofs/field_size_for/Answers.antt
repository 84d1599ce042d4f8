-- One return for each form of the field.
use mathlib.Core.Path.{sym, ap}
use native.Mathlib.Omega.{arith}
use lib.ListN.{length}
use Rattle.spelling.proofs.WritingLaws.{one-octet-field, two-octet-field}
use Rattle.spelling.proofs.field_size_for.Goals as goal

pub returns-then-size-lt240 : goal.returns-then-size-lt240
returns-then-size-lt240 c = (sym (ap length (one-octet-field _ c.if-size-lt240.true)), omega arith)

pub returns : goal.returns
returns c = (sym (ap length (two-octet-field _ c.if-size-lt240.false)), omega arith)
