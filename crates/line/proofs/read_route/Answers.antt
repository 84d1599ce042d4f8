-- Each field read leaves the rest to the fields behind it, and the first that fails makes it another line.
use mathlib.Core.Path.{◌∙◌}
use native.Mathlib.Omega.{arith}
use borrow.Author.Rules.{rules}
use Rattle.line.specs.Line.{is_address}
use Rattle.line.specs.Form.{Fielded, Numbered}
use Rattle.line.proofs.FormLaws.{fails, passes, goes_on}
use Rattle.line.proofs.ReadLaws.{no-route, route-read}
use Rattle.line.proofs.read_route.Goals.{In_ok-field, In_ok-size, In_ok-originator, In_ok-neighbour}
use Rattle.line.proofs.read_route.Goals as goal

-- what was read at each field
there : (c : In_ok-field) → let a = c.args in let field = c.in_ok-field.field in Fielded is_address a.line.now a.word field.start field.end
there c = c.in_ok-field.ensures is_address (λ text holds k. search rules)

sized : (c : In_ok-size) → Numbered c.args.line.now c.in_ok-field.field.end c.in_ok-size.size c.in_ok-size.size_end
sized c = c.in_ok-size.ensures

from : (c : In_ok-originator) → Numbered c.args.line.now c.in_ok-size.size_end c.in_ok-originator.originator c.in_ok-originator.originator_end
from c = c.in_ok-originator.ensures

by : (c : In_ok-neighbour) → Numbered c.args.line.now c.in_ok-originator.originator_end c.in_ok-neighbour.neighbour c.in_ok-neighbour.last
by c = c.in_ok-neighbour.ensures

pub returns-in_err-field : goal.returns-in_err-field
returns-in_err-field c = rw c.from_residual.ensures (no-route _ _ (fails _ _ _ (c.in_err-field.ensures is_address (λ text holds k. search rules))))

pub returns-in_err-size : goal.returns-in_err-size
returns-in_err-size c =
    let k = goal.at.returns-in_err-size c in
    rw c.from_residual-in_err-size.ensures (no-route _ _ (passes _ _ _ _ _ _ (there k.In_ok-field) ∙ fails _ _ _ c.in_err-size.ensures))

pub returns-in_err-originator : goal.returns-in_err-originator
returns-in_err-originator c =
    let k = goal.at.returns-in_err-originator c in
    rw c.from_residual-in_err-originator.ensures (no-route _ _ (passes _ _ _ _ _ _ (there k.In_ok-field)
    ∙ passes _ _ _ _ _ _ (sized k.In_ok-size).there
    ∙ fails _ _ _ c.in_err-originator.ensures))

pub returns-in_err-neighbour : goal.returns-in_err-neighbour
returns-in_err-neighbour c =
    let k = goal.at.returns-in_err-neighbour c in
    rw c.from_residual-in_err-neighbour.ensures (no-route _ _ (passes _ _ _ _ _ _ (there k.In_ok-field)
    ∙ passes _ _ _ _ _ _ (sized k.In_ok-size).there
    ∙ passes _ _ _ _ _ _ (from k.In_ok-originator).there
    ∙ fails _ _ _ c.in_err-neighbour.ensures))

pub returns-then-last-line : goal.returns-then-last-line
returns-then-last-line c =
    let k = goal.at.returns-then-last-line c in
    no-route _ _ (passes _ _ _ _ _ _ (there k.In_ok-field)
    ∙ passes _ _ _ _ _ _ (sized k.In_ok-size).there
    ∙ passes _ _ _ _ _ _ (from k.In_ok-originator).there
    ∙ passes _ _ _ _ _ _ (by k.In_ok-neighbour).there
    ∙ goes_on _ _ c.if-last-line.true)

pub slice_bounds-word_in-count : goal.slice_bounds-word_in-count
slice_bounds-word_in-count c = omega (arith, there (goal.at.slice_bounds-word_in-count c).In_ok-field)

pub slice_bounds-word_in-start : goal.slice_bounds-word_in-start
slice_bounds-word_in-start c = omega (arith, there (goal.at.slice_bounds-word_in-start c).In_ok-field)

pub slice_bounds-word_in-end : goal.slice_bounds-word_in-end
slice_bounds-word_in-end c = omega (arith, there (goal.at.slice_bounds-word_in-end c).In_ok-field)

pub returns : goal.returns
returns c =
    let k = goal.at.returns c in
    route-read _ _ _ _ (there k.In_ok-field) _ _ (sized k.In_ok-size) _ _ (from k.In_ok-originator) _ _ (by k.In_ok-neighbour) c.if-last-line.false _ c.word_in-address.ensures
