-- The record of a new rule is written into a gap, and that of a held one over the old record.
use mathlib.Core.Path.{◌≡◌, refl, sym, ◌∙◌}
use mathlib.Core.Logic.{inl, inr}
use native.Mathlib.Omega.{arith}
use lib.ListN.{length}
use lib.Seq.{length-take-le}
use Rattle.octets.proofs.Facts.{Octets}
use Rattle.entry.specs.Entry.{Entry, entry_for}
use Rattle.order.specs.Key.{keys_of}
use Rattle.table.specs.Walk.{entries}
use Rattle.table.proofs.ChangeLaws.{Placed, encoded, place_is, gap-records, sum_fits, Readied, no_room, room_kept}
use borrow.Author.Rules.{rules}
use Rattle.table.proofs.insert_rule.Goals.{After-find-place, Joined-held-eq0, then-held-eq0, else-held-eq0}
use Rattle.table.proofs.insert_rule.Goals as goal

-- where the rule's place was found: the function's start, the entry to put in, and what is known
abbrev entry : (c : After-find-place) → Entry
entry c = entry_for c.args.head c.args.value.now

table-octets : (c : After-find-place) → Octets c.args.table.now
table-octets c = search rules

there : (c : After-find-place) → Placed c.args.family c.args.table.now (entries c.args.table.now) (encoded _ c.args.table.now (table-octets c) c.requires.0.sound)
    (keys_of c.args.family c.args.value.now) c.find-place.result
there c = place_is _ _ (table-octets c) c.requires.0.sound _ _ c.find-place.ensures

-- what the table is where the record is written
octets-there : (c : Joined-held-eq0) → Octets c.args.table.now
octets-there c = search rules

ready : (c : Joined-held-eq0) → Readied c.args.family c.args.table.now (octets-there c) c.requires.0.sound c.find-place.result (entry_for c.args.head c.args.value.now) c.if-held-eq0.table
ready c =
    elim c.if-held-eq0.branch [
      | then-held-eq0 w ↦ inl (
        w.if-held-eq0.true,
        w.table-is
            ∙ gap-records _ _ (octets-there c) c.requires.0.sound _ _ c.find-place.ensures _ c.requires.0.all _ _ _
            w.if-held-eq0.true refl c.if-table-after.false w.open_gap.ensures,
      )
      | else-held-eq0 w ↦ inr (w.if-held-eq0.false, w.table-is)
    ]

kept : (c : Joined-held-eq0) → length c.if-held-eq0.table ≡ length c.args.table.now
kept c = c.if-held-eq0.auto.table

pub overflow_sub-held : goal.overflow_sub-held
overflow_sub-held c = omega (arith, there (goal.at.overflow_sub-held c).After-find-place)

pub overflow_sub-after : goal.overflow_sub-after
overflow_sub-after c = omega (arith, there (goal.at.overflow_sub-after c).After-find-place)

pub overflow_add-after : goal.overflow_add-after
overflow_add-after c =
    let s = sum_fits _ _ (table-octets (goal.at.overflow_add-after c).After-find-place) c.requires.0.sound _ _ c.requires.0.all c.requires.1 in
    record { fits = omega (arith, s) }

pub returns-then-table-after : goal.returns-then-table-after
returns-then-table-after c = no_room _ _ (table-octets (goal.at.returns-then-table-after c).After-find-place) c.requires.0.sound (entry (goal.at.returns-then-table-after c).After-find-place) _ c.find-place.ensures _ c.requires.0.all c.if-table-after.true

-- the part that is lent is as long as the records will be
pub slice_bounds-open_gap-end-then-held-eq0 : goal.slice_bounds-open_gap-end-then-held-eq0
slice_bounds-open_gap-end-then-held-eq0 c = sym (length-take-le _ _ c.if-table-after.false)

pub open_gap-requires : goal.open_gap-requires
open_gap-requires c =
    omega (arith, there (goal.at.open_gap-requires c).After-find-place, length-take-le _ c.args.table.now c.if-table-after.false, c.requires.0.all)

pub write_record-requires : goal.write_record-requires
write_record-requires c = omega (arith, there (goal.at.write_record-requires c).After-find-place, kept (goal.at.write_record-requires c).Joined-held-eq0, c.if-table-after.false, c.requires)

pub shape_of-table : goal.shape_of-table
shape_of-table c = c.write_record.auto.table ∙ kept (goal.at.shape_of-table c).Joined-held-eq0

pub returns : goal.returns
returns c =
    let j = (goal.at.returns c).Joined-held-eq0 in
    room_kept _ _ (octets-there j) c.requires.0.sound (entry_for c.args.head c.args.value.now) _ c.find-place.ensures _ c.requires.0.all _ _ c.requires.0.fits
    (λ i. (c.type_inv.value i).fits) c.requires.1 c.if-table-after.false (ready j) c.write_record.ensures
