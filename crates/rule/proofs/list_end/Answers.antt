-- The pairs passed are sound and none was the last, so that the list ends where what is left of it does.
use Rattle.rule.proofs.ComponentLaws.{list_on, list-last, list-refused, more_within}
use borrow.Author.Rules.{rules}
use Rattle.std.proofs.Common.{Ok}
use mathlib.Core.Path.{refl, sym, ap, ◌∙◌}
use native.Mathlib.Omega.{arith}
use Rattle.rule.proofs.list_end.Goals as goal

pub loop-next-init : goal.loop-next-init
loop-next-init c = refl

pub returns-in_err-next : goal.returns-in_err-next
returns-in_err-next c = search (list-refused, rules)

pub loop-next-smaller : goal.loop-next-smaller
loop-next-smaller c = omega (arith, more_within _ _ c.loop-next.at _ (sym c.pair_at.ensures ∙ c.in_ok-next.was ∙ ap (λ pair. Ok pair) c.in-More.is))

pub loop-next-preserved : goal.loop-next-preserved
loop-next-preserved c = search (list_on, rules)

pub returns-in-Last : goal.returns-in-Last
returns-in-Last c = search (list-last, rules)
