-- The plain spelling stands at the front of the working array; it is stored behind the length field where both fit.
use Rattle.rule.proofs.ValueLaws.{accepted-small}
use Rattle.spelling.proofs.WritingLaws.{front_length, no_room, room-left, write-in-a-row}
use mathlib.Core.Path.{refl}
use native.Mathlib.Omega.{arith}
use borrow.Author.Rules.{rules}
use Rattle.spelling.proofs.write_accepted.Goals.{Else-buffer-total}
use Rattle.spelling.proofs.write_accepted.Goals as goal

pub overflow_add-total : goal.overflow_add-total
overflow_add-total c = omega (arith, accepted-small)

pub returns-then-buffer-total : goal.returns-then-buffer-total
returns-then-buffer-total c = (no_room _ c.args.value.now c.args.buffer.now _ c.field_size_for-field.ensures.0 c.if-buffer-total.true, refl)

pub fill_plain-requires : goal.fill_plain-requires
fill_plain-requires c = (search rules, omega (arith, accepted-small))

pub write_length-requires : goal.write_length-requires
write_length-requires c = search (accepted-small, rules)

pub slice_bounds-work-end : goal.slice_bounds-work-end
slice_bounds-work-end c = omega (arith, accepted-small)

pub slice_bounds-store-end : goal.slice_bounds-store-end
slice_bounds-store-end c = front_length _ _ _ _ c.fill_plain.ensures

pub store-requires : goal.store-requires
store-requires c = let fill = c.fill_plain in
    omega (arith, front_length _ _ _ _ fill.ensures, c.write_length.auto, (goal.at.store-requires c).Else-buffer-total)

pub returns : goal.returns
returns c = let stores = c.store in
    let fills = c.fill_plain in
    let writes = c.write_length in
    let field = c.field_size_for-field in
    let room = c.if-buffer-total.false in
    let a = c.args in (
      room-left _ a.value.now a.buffer.now _ field.ensures.0 room,
      write-in-a-row _ a.value.now a.buffer.now _ field.ensures.0 room _ _ _ _ fills.ensures writes.ensures stores.ensures,
    )
