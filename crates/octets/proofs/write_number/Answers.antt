-- Writes from the last octet on: what is left to write gives the same at every turn, and nothing is left at the end.
use borrow.Author.Rules.{rules}
use native.Mathlib.Omega.{arith}
use mathlib.Core.Path.{refl}
use lib.ListN.{length-set}
use Rattle.octets.proofs.NumberLaws.{write-more, write-all}
use Rattle.octets.proofs.write_number.Goals as goal

pub loop-i-preserved : goal.loop-i-preserved
loop-i-preserved c = let l = c.loop-i in
    (omega arith, simp length-set l.invariant.1, write-more _ l.buffer _ l.i _ l.rest (omega arith) (omega arith) refl l.invariant.2)

pub returns : goal.returns
returns c = search (write-all, rules)
