-- The records counted and those that are left give the whole count.
use mathlib.Core.Path.{◌≡◌, sym, ap, ◌∙◌}
use native.Mathlib.Omega.{arith}
use Rattle.table.specs.Walk.{record_at}
use Rattle.table.proofs.WalkLaws.{was-found}
use Rattle.answers.proofs.ListLaws.{left-end, left-unsound, count-starts, count-done, count-more}
use borrow.Author.Rules.{rules}
use Rattle.answers.proofs.count_records.Goals.{In-Ok-Some}
use Rattle.answers.proofs.count_records.Goals as goal
use Rattle.std.proofs.Common.{Ok, Some}

found_here : (c : In-Ok-Some) → record_at c.args.table.now c.loop-next.at ≡ Ok (Some c.in-Ok-Some.next)
found_here c = sym c.record_at.ensures ∙ (c.in-Ok-Some.is ∙ ap (λ found. Ok found) c.in-Ok-Some.field-0-is)

pub loop-next-init : goal.loop-next-init
loop-next-init c = count-starts _

pub returns-in_default : goal.returns-in_default
returns-in_default c = count-done _ _ _ c.loop-next.invariant (search (left-end, rules))

pub returns-in_default-2 : goal.returns-in_default-2
returns-in_default-2 c = count-done _ _ _ c.loop-next.invariant (left-unsound _ _ _ c.record_at.ensures _ c.in_default.is)

pub loop-next-smaller : goal.loop-next-smaller
loop-next-smaller c = omega (arith, was-found _ c.loop-next.at _ (found_here c))

pub loop-next-preserved : goal.loop-next-preserved
loop-next-preserved c = count-more _ _ _ c.loop-next.invariant _ (found_here c)
