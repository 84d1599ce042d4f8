-- The octets are all there, none is, or the last of them are missing: one law for each.
use mathlib.Core.Path.{refl}
use Prim.Native.Nat.{◌-◌, ◌+◌}
use native.Mathlib.Omega.{arith}
use lib.ListN.{length}
use Rattle.octets.proofs.NumberLaws.{number-there, number-out, number_cut}
use Rattle.octets.proofs.number_at.Goals as goal

pub returns-then-end-s : goal.returns-then-end-s
returns-then-end-s c =
    let a = c.args in
    number-there a.n (a.at + a.n - a.at) a.at _ a.s.now _ (omega arith) (omega arith) refl c.number_of.ensures

pub returns-then-s-at : goal.returns-then-s-at
returns-then-s-at c = number-out _ _ _ (omega arith)

pub returns : goal.returns
returns c =
    let a = c.args in
    let s = a.s.now in
    number_cut a.n (a.at + a.n - length s) a.at _ s (omega arith) (omega arith) (omega arith)
    (number-there (length s - a.at) (length s - a.at) a.at _ s _ (omega arith) (omega arith) refl c.number_of-2.ensures)
