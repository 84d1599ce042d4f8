-- A line that ends at the place has no field behind it; any other has one, which the test decides.
use borrow.Author.Rules.{rules}
use Rattle.line.proofs.FormLaws.{field-none, field-not, field-some}
use Rattle.line.proofs.field_behind.Goals as goal

pub returns-then-line-end : goal.returns-then-line-end
returns-then-line-end g c test tells = field-none test _ _ c.if-line-end.true

pub returns-then-passes : goal.returns-then-passes
returns-then-passes g c test tells = field-some test _ _ c.if-line-end.false _ c.field_end-stop.ensures _ (tells _ _ (search rules)) c.if-passes.true

pub returns : goal.returns
returns g c test tells = field-not test _ _ c.if-line-end.false _ c.field_end-stop.ensures _ (tells _ _ (search rules)) c.if-passes.false
