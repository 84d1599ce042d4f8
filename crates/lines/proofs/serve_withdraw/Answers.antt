-- The room is long enough, so that what was read into it are the octets that the part spells.
use Rattle.lines.proofs.ServeLaws.{read-within, read-size, read_is, withdraw-printed}
use native.Mathlib.Omega.{arith}
use Rattle.lines.proofs.serve_withdraw.Goals as goal
use Rattle.std.proofs.Common.{Ok, Err}

pub slice_bounds-octets-end : goal.slice_bounds-octets-end
slice_bounds-octets-end c = read-within _ _ _ _ c.read_octets-size.ensures (omega arith)

pub slice_bounds-withdraw-end : goal.slice_bounds-withdraw-end
slice_bounds-withdraw-end c = read-size _ _ _ _ c.read_octets-size.ensures (omega arith)

pub returns-in-Ok : goal.returns-in-Ok
returns-in-Ok c =
    withdraw-printed (Ok _) (read_is _ _ _ _ c.read_octets-size.ensures (omega arith)) c.withdraw.ensures c.in-Ok.is c.put_answer.ensures

pub returns-in-Err : goal.returns-in-Err
returns-in-Err c =
    withdraw-printed (Err _) (read_is _ _ _ _ c.read_octets-size.ensures (omega arith)) c.withdraw.ensures c.in-Err.is
    (rw (c.number.ensures.0, c.place.ensures) at c.put_answer-in-Err.ensures)
