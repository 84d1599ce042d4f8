-- Whatever field there is says the number, or that it is none.
use native.Mathlib.Omega.{arith}
use borrow.Author.Rules.{rules}
use Rattle.line.specs.Form.{Fielded}
use Rattle.line.proofs.FormLaws.{any, none_at_all, not-numbered, numbered}
use Rattle.line.proofs.number_behind.Goals.{In_ok-field}
use Rattle.line.proofs.number_behind.Goals as goal

there : (c : In_ok-field) → let a = c.args in let field = c.in_ok-field.field in Fielded any a.line.now a.end field.start field.end
there c = c.in_ok-field.ensures any (λ text holds k. search rules)

pub returns-in_err-field : goal.returns-in_err-field
returns-in_err-field c = rw c.from_residual.ensures (none_at_all _ _ (c.in_err-field.ensures any (λ text holds k. search rules)))

pub slice_bounds-read_number-count : goal.slice_bounds-read_number-count
slice_bounds-read_number-count c = omega (arith, there (goal.at.slice_bounds-read_number-count c).In_ok-field)

pub slice_bounds-read_number-start : goal.slice_bounds-read_number-start
slice_bounds-read_number-start c = omega (arith, there (goal.at.slice_bounds-read_number-start c).In_ok-field)

pub slice_bounds-read_number-end : goal.slice_bounds-read_number-end
slice_bounds-read_number-end c = omega (arith, there (goal.at.slice_bounds-read_number-end c).In_ok-field)

pub returns-in_err-number : goal.returns-in_err-number
returns-in_err-number c =
    rw c.from_residual-in_err-number.ensures (not-numbered _ _ _ _ (there (goal.at.returns-in_err-number c).In_ok-field) c.in_err-number.ensures)

pub returns : goal.returns
returns c = numbered _ _ _ _ (there (goal.at.returns c).In_ok-field) _ c.in_ok-number.ensures
