-- The octets passed are equal, so that the order of both slices is the order of what is left of them.
use mathlib.Core.Path.{refl, ap, sym, ◌∙◌}
use native.Mathlib.Omega.{arith}
use Rattle.std.proofs.lemmas.Slice.Zip.{either_empty_from_Zip}
use Rattle.octets.specs.Order.{ordered}
use Rattle.octets.proofs.OrderLaws.{numbers-ordered, lex-out, lex-apart, lex-along}
use Rattle.octets.proofs.compare_octets.Goals as goal

pub loop-x-init : goal.loop-x-init
loop-x-init c =
    let z = c.zip-x-items.ensures in
    let first = z.first in
    let second = z.second.0 in
    let rest = c.iter.ensures.rest in
    rw (c.into_iter-x-iterator.ensures.into_iter_gives, first, second, rest) (refl, omega arith)

pub returns-then-x-y : goal.returns-then-x-y
returns-then-x-y c =
    let s = c.in-Some.ensures.steps in
    c.cmp.ensures
    ∙ numbers-ordered _ _
    ∙ ap ordered (sym (c.loop-x.invariant.0 ∙ lex-apart _ _ _ _ _ _ s.0 s.1 c.if-x-y.true))

pub loop-x-preserved : goal.loop-x-preserved
loop-x-preserved c =
    let l = c.loop-x.invariant in
    let s = c.in-Some.ensures.steps in
    (l.0 ∙ lex-along _ _ _ _ _ _ s.0 s.1 c.if-x-y.false, omega (arith, l.1, ap (λ r. lib.ListN.length r) s.0, ap (λ r. lib.ListN.length r) s.1))

pub returns : goal.returns
returns c =
    let l = c.loop-x.invariant in
    c.cmp-2.ensures
    ∙ numbers-ordered _ _
    ∙ ap ordered (sym (l.0 ∙ lex-out _ _ _ _ (either_empty_from_Zip c.loop-x.x-iterator c.next.new.self _ c.in-None.is c.next.ensures.steps) l.1))
