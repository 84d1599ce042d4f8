-- The text stands whole at the front of its buffer, so that what is written is the text; serving leaves what the definition says.
use Rattle.std.proofs.Common.{refl, subst}
use Rattle.std.specs.Io.KnownBytes.{Appends}
use Rattle.lines.specs.Input.{after_line}
use Rattle.lines.proofs.InputLaws.{serves-leaves, serves-text}
use Rattle.line_program.proofs.answer.Goals as goal

pub returns-in_err-context-clause-routes : goal.returns-in_err-context-clause-routes
unfolding after_line
returns-in_err-context-clause-routes g c = c.serve-served.ensures.leaves_routes

pub returns-in_err-context-clause-table : goal.returns-in_err-context-clause-table
unfolding after_line
returns-in_err-context-clause-table g c = c.serve-served.ensures.leaves_table

pub returns-clause-progress : goal.returns-clause-progress
returns-clause-progress g c = (refl, serves-leaves _ _ _ _ _ _ _ _ _ _ c.serve-served.ensures)

pub returns-clause-routes : goal.returns-clause-routes
unfolding after_line
returns-clause-routes g c = c.serve-served.ensures.leaves_routes

pub returns-clause-table : goal.returns-clause-table
unfolding after_line
returns-clause-table g c = c.serve-served.ensures.leaves_table

pub returns-clause-written : goal.returns-clause-written
returns-clause-written g c =
    subst (Appends _ _) (serves-text _ _ _ _ _ _ _ _ _ _ c.serve-served.ensures c.requires) (rw c.in_ok-context.ensures at c.write_all.ensures.bytes)
