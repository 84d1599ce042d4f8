-- The two rooms are long enough, so that what was read into them are the octets that the two parts spell.
use Rattle.lines.proofs.ServeLaws.{read-within, read-size, read_is, announce-printed}
use native.Mathlib.Omega.{arith}
use Rattle.lines.proofs.serve_announce.Goals as goal
use Rattle.std.proofs.Common.{Ok, Err}

pub slice_bounds-octets-end : goal.slice_bounds-octets-end
slice_bounds-octets-end c = read-within _ _ _ _ c.read_octets-size.ensures (omega arith)

pub slice_bounds-announce-end : goal.slice_bounds-announce-end
slice_bounds-announce-end c = read-size _ _ _ _ c.read_octets-size.ensures (omega arith)

pub slice_bounds-actions-end : goal.slice_bounds-actions-end
slice_bounds-actions-end c = read-within _ _ _ _ c.read_octets-count.ensures (omega arith)

pub slice_bounds-announce-end-2 : goal.slice_bounds-announce-end-2
slice_bounds-announce-end-2 c = read-size _ _ _ _ c.read_octets-count.ensures (omega arith)

pub returns-in-Ok : goal.returns-in-Ok
returns-in-Ok c =
    announce-printed (Ok _) (read_is _ _ _ _ c.read_octets-size.ensures (omega (arith, c.requires)))
    (read_is _ _ _ _ c.read_octets-count.ensures (omega (arith, c.requires)))
    c.announce.ensures c.in-Ok.is c.put_answer.ensures

pub returns-in-Err : goal.returns-in-Err
returns-in-Err c =
    announce-printed (Err _) (read_is _ _ _ _ c.read_octets-size.ensures (omega (arith, c.requires)))
    (read_is _ _ _ _ c.read_octets-count.ensures (omega (arith, c.requires)))
    c.announce.ensures c.in-Err.is (rw (c.number.ensures.0, c.place.ensures) at c.put_answer-in-Err.ensures)
