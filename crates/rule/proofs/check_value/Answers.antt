-- The components passed are sound, so that the check of the value is that of what is left of it.
use borrow.Author.Rules.{rules}
use mathlib.Core.Path.{sym, ap, ◌∙◌}
use native.Mathlib.Omega.{arith}
use Rattle.std.proofs.Common.{Ok}
use Rattle.rule.proofs.Passing.{passed}
use Rattle.rule.proofs.ValueLaws.{was-found, check-on, check-accepted, check-refused, check-long, check-empty, check-cut, check-walk}
use Rattle.rule.proofs.check_value.Goals as goal

pub returns-then-value-gt-MOST_VALUE : goal.returns-then-value-gt-MOST_VALUE
returns-then-value-gt-MOST_VALUE c = search (check-long, rules)

pub returns-then-value-family : goal.returns-then-value-family
returns-then-value-family c = search (check-empty, rules)

pub returns-then-value-family-2 : goal.returns-then-value-family-2
returns-then-value-family-2 c = search (check-cut, rules)

pub loop-component-init : goal.loop-component-init
loop-component-init c = search (check-walk, rules)

pub returns-in_err-component : goal.returns-in_err-component
returns-in_err-component c = passed _ c.in_err-component.field-0.0 c.from_residual.ensures.1 ∙ search (check-refused, rules)

pub loop-component-smaller : goal.loop-component-smaller
loop-component-smaller c = let l = c.loop-component in
    let f = was-found _ _ l.at l.previous _ _ (sym c.next_component.ensures ∙ c.in_ok-component.was ∙ ap (λ found. Ok found) c.in-Some.is) in
    omega (arith, f.within)

pub loop-component-preserved : goal.loop-component-preserved
loop-component-preserved c = search (check-on, rules)

pub returns : goal.returns
returns c = search (check-accepted, rules)
