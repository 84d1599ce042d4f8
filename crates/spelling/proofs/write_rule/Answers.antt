-- A value that is refused is not written, and one that is accepted is.
use mathlib.Core.Path.{◌∙◌}
use Rattle.rule.proofs.Passing.{passed}
use Rattle.spelling.proofs.WritingLaws.{write-accepted, write-refused}
use Rattle.spelling.proofs.write_rule.Goals as goal

pub returns-in_err-check_value : goal.returns-in_err-check_value
returns-in_err-check_value c = let says = write-refused _ _ _ _ c.check_value.ensures _ c.in_err-check_value.was in
    (passed _ c.in_err-check_value.field-0.0 c.from_residual.ensures.1 ∙ says.0, says.1)

pub returns : goal.returns
returns c = let says = c.write_accepted.ensures in
    write-accepted _ _ _ _ c.check_value.ensures _ _ c.in_ok-check_value.was says.0 says.1
