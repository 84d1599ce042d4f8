-- The invariant is that what is left to write gives the same; one more field is one more store right behind the last.
use borrow.Author.Rules.{rules}
use native.Mathlib.Omega.{arith}
use Rattle.entry.proofs.RecordLaws.{pair-room, pair-on, pairs-all}
use Rattle.entry.proofs.write_fields.Goals as goal

pub overflow_add-next : goal.overflow_add-next
overflow_add-next c = omega (arith, pair-room _ _ _ _ _ _ c.loop-width.invariant (search rules))

pub write_number-requires : goal.write_number-requires
write_number-requires c = pair-room _ _ _ _ _ _ c.loop-width.invariant (search rules)

pub loop-width-preserved : goal.loop-width-preserved
loop-width-preserved c = pair-on _ _ _ _ _ _ c.loop-width.invariant (search rules) _ c.write_number.ensures

pub returns : goal.returns
returns c = pairs-all _ _ _ _ _ _ c.loop-width.invariant (search rules)
