-- Is a number one that a single is exactly? The invariant: the halvings that are left are enough, and decide as the definition does.
use mathlib.Core.Path.{◌∙◌, sym}
use native.Mathlib.Omega.{arith}
use borrow.Author.Rules.{rules}
use Rattle.rate.proofs.RatesGiven.{halved, past-limit, within-limit, fits-small, fits-odd}
use Rattle.rate.proofs.is_single.Goals as goal

pub returns-then-number-gt-MOST : goal.returns-then-number-gt-MOST
returns-then-number-gt-MOST c = search (past-limit, rules)

pub loop-rest-init : goal.loop-rest-init
loop-rest-init c = record { left = 40; enough = omega arith; decides = search (within-limit, rules) }

pub returns-then-rest-ne0 : goal.returns-then-rest-ne0
returns-then-rest-ne0 c = let h = c.loop-rest.invariant in sym (fits-odd h.left _ (search rules) (search rules)) ∙ h.decides

pub loop-rest-smaller : goal.loop-rest-smaller
loop-rest-smaller c = omega arith

pub loop-rest-preserved : goal.loop-rest-preserved
loop-rest-preserved c = halved c.loop-rest.invariant (search rules) (omega arith)

pub returns : goal.returns
returns c = let h = c.loop-rest.invariant in sym (fits-small h.left _ (search rules)) ∙ h.decides
