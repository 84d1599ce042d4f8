-- Within the slice the octet is the element there, and past its end it is the default, 0.
use native.Mathlib.Omega.{arith}
use lib.ListN.{get_or-eq_default}
use mathlib.Core.Path.{sym, refl}
use Rattle.octets.proofs.octet_at.Goals as goal

pub returns-then-at-s : goal.returns-then-at-s
returns-then-at-s c = (refl, omega (arith, c.type_inv.s c.args.at))

pub returns-else-at-s : goal.returns-else-at-s
returns-else-at-s c = (sym (get_or-eq_default c.args.s.now 0 c.if-at-s.false), omega arith)
