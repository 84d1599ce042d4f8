-- One law for each return; a record before this one lies before it.
use mathlib.Core.Path.{◌≡◌, sym, ◌∙◌}
use Prim.Native.Nat.{◌+◌, ◌≤◌}
use native.Mathlib.Omega.{arith}
use Rattle.octets.proofs.Cases.{apart}
use Rattle.entry.specs.Record.{head_cost}
use Rattle.table.proofs.TestLaws.{follows-none, follows-yes, follows-not}
use borrow.Author.Rules.{rules}
use Rattle.table.proofs.follows.Goals.{Else-at-eq0}
use Rattle.table.proofs.follows.Goals as goal
use Rattle.std.specs.declared.cmp.Ordering.TheVariants.{Less, Equal, Greater}

-- where there is a record before this one, it lies before it
lies-before : (c : Else-at-eq0) → c.args.previous + head_cost ≤ c.args.at
lies-before c = c.requires.1.before c.if-at-eq0.false

pub returns-then-at-eq0 : goal.returns-then-at-eq0
returns-then-at-eq0 c = search (follows-none, rules)

pub overflow_add-start : goal.overflow_add-start
overflow_add-start c = omega (arith, lies-before c, c.requires)

pub slice_bounds-compare_plain-count : goal.slice_bounds-compare_plain-count
slice_bounds-compare_plain-count c = omega (arith, lies-before c)

pub slice_bounds-compare_plain-start : goal.slice_bounds-compare_plain-start
slice_bounds-compare_plain-start c = omega (arith, lies-before c)

pub returns-in-Less : goal.returns-in-Less
returns-in-Less c = search (follows-yes, rules)

pub returns-in-Greater : goal.returns-in-Greater
returns-in-Greater c = follows-not _ _ _ _ _ (search rules) _ (search rules) (λ e. let z : Less ≡ Greater = sym e ∙ c.in-Greater.is in apart (cc))

pub returns-in-Equal : goal.returns-in-Equal
returns-in-Equal c = follows-not _ _ _ _ _ (search rules) _ (search rules) (λ e. let z : Less ≡ Equal = sym e ∙ c.in-Equal.is in apart (cc))
