-- At the end of the input nothing is held, or what is held is served as the last line, whether or not the output takes what it prints.
use Rattle.std.proofs.Common.{rules, subst, sym}
use Rattle.std.specs.Io.KnownBytes.{Appends}
use Rattle.std.proofs.KnownBytes.{Appends-nil}
use Rattle.lines.specs.Input.{program_octets}
use Rattle.lines.proofs.InputLaws.{end_empty, end-served}
use Rattle.line_program.proofs.EndLaws.{parts, whole, end-none, end-line}
use Rattle.line_program.proofs.answer_rest.Goals as goal

pub returns-then-held-eq0-clause-state : goal.returns-then-held-eq0-clause-state
returns-then-held-eq0-clause-state g c = λ input led. parts _ _ (end_empty program_octets input _ _ _ _ _ led (search rules))

pub returns-then-held-eq0-clause-written : goal.returns-then-held-eq0-clause-written
returns-then-held-eq0-clause-written g c = λ input led. subst (Appends _ _) (sym (end-none _ _ _ _ _ _ led (search rules))) (Appends-nil _)

pub returns-in_err-answer-clause-state : goal.returns-in_err-answer-clause-state
returns-in_err-answer-clause-state g c = λ input led.
    parts _ _ (end-served program_octets input _ _ _ _ _ led (search rules) _ _ _ (whole _ _ _ c.answer.ensures.routes c.answer.ensures.table))

pub returns-clause-state : goal.returns-clause-state
returns-clause-state g c = λ input led.
    parts _ _ (end-served program_octets input _ _ _ _ _ led (search rules) _ _ _ (whole _ _ _ c.answer.ensures.routes c.answer.ensures.table))

pub returns-clause-written : goal.returns-clause-written
returns-clause-written g c = λ input led. subst (Appends _ _) (end-line _ _ _ _ _ _ led (search rules)) c.in_ok-answer.ensures.written
