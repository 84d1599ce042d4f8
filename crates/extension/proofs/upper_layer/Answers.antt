-- The headers passed were walked over, so that the walk ends as what is left of it does; each header took octets.
use Rattle.extension.proofs.ExtensionLaws.{another-within, upper-start, upper-on, upper-found, upper-lost}
use borrow.Author.Rules.{rules}
use mathlib.Core.Path.{sym, ap, ◌∙◌}
use native.Mathlib.Omega.{arith}
use Rattle.std.proofs.Common.{Ok}
use Rattle.extension.proofs.upper_layer.Goals as goal

pub loop-behind-init : goal.loop-behind-init
loop-behind-init c = search (upper-start, rules)

pub returns-in_err-behind : goal.returns-in_err-behind
returns-in_err-behind c = upper-lost _ _ _ c.header_at.ensures c.loop-behind.invariant _ _ c.in_err-behind.was c.from_residual.ensures.1

pub loop-behind-smaller : goal.loop-behind-smaller
loop-behind-smaller c = omega (arith, another-within _ c.loop-behind.progress _ (sym c.header_at.ensures ∙ (c.in_ok-behind.was ∙ ap Ok c.in-Some.is)))

pub loop-behind-preserved : goal.loop-behind-preserved
loop-behind-preserved c = search (upper-on, rules)

pub returns : goal.returns
returns c = search (upper-found, rules)
