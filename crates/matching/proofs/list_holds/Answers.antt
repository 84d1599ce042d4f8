-- The list judged so far with the pairs still to come gives what the whole list gives; each turn judges one pair.
use mathlib.Core.Path.{ap, ◌∙◌}
use Rattle.std.proofs.Common.{Ok}
use borrow.Author.Rules.{rules}
use Rattle.matching.proofs.ListLaws.{body-start, list_on, list-last, list-cut, more-inside, last-inside, more-nearer}
use Rattle.matching.proofs.list_holds.Goals as goal

pub loop-next-init : goal.loop-next-init
loop-next-init c = search (body-start, rules)

pub evaluate_pair-evaluated-requires : goal.evaluate_pair-evaluated-requires
evaluate_pair-evaluated-requires c =
    more-inside _ _ _ _ _ c.pair_at.ensures (c.in-Ok-More.is ∙ ap (λ pair. Ok pair) c.in-Ok-More.field-0-is)

pub loop-next-smaller : goal.loop-next-smaller
loop-next-smaller c = search (more-nearer, rules)

pub loop-next-preserved : goal.loop-next-preserved
loop-next-preserved c =
    list_on _ _ _ _ _ _ c.pair_at.ensures c.loop-next.invariant _ _ (c.in-Ok-More.is ∙ ap (λ pair. Ok pair) c.in-Ok-More.field-0-is)
    c.evaluate_pair-evaluated.ensures

pub evaluate_pair-whole-requires : goal.evaluate_pair-whole-requires
evaluate_pair-whole-requires c =
    last-inside _ _ _ _ _ c.pair_at.ensures (c.in-Ok-Last.is ∙ ap (λ pair. Ok pair) c.in-Ok-Last.field-0-is)

pub returns-in-Ok-Last : goal.returns-in-Ok-Last
returns-in-Ok-Last c =
    list-last _ _ _ _ _ _ c.pair_at.ensures c.loop-next.invariant _ _ (c.in-Ok-Last.is ∙ ap (λ pair. Ok pair) c.in-Ok-Last.field-0-is)
    c.evaluate_pair-whole.ensures

pub returns-in-Err : goal.returns-in-Err
returns-in-Err c = search (list-cut, rules)
