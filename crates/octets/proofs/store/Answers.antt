-- The octets stored so far stand in the buffer, and those still to be stored give the same at every turn.
use borrow.Author.Rules.{rules}
use mathlib.Core.Path.{refl}
use native.Mathlib.Omega.{arith}
use lib.ListN.{length-set}
use lib.Seq.{paste-zero}
use Rattle.octets.proofs.StoreLaws.{paste_more, paste_all}
use Rattle.octets.proofs.store.Goals as goal

pub loop-i-init : goal.loop-i-init
loop-i-init c = (search rules, refl, paste-zero c.args.buffer.now c.args.at c.args.s.now)

pub loop-i-preserved : goal.loop-i-preserved
loop-i-preserved c = let l = c.loop-i in
    let a = c.args in
    (omega arith, simp length-set l.invariant.1, paste_more l.buffer a.buffer.now a.at a.s.now l.i _ (omega arith) (omega arith) l.invariant.2 refl)

pub returns : goal.returns
returns c = let l = c.loop-i in
    paste_all l.buffer c.args.buffer.now c.args.at c.args.s.now l.i (omega arith) l.invariant.2
