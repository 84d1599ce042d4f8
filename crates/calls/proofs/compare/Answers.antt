-- The door's answer as a word and in `out`; a refusal is one of 01's table.
use mathlib.Core.Path.{sym, ap, ◌∙◌}
use Rattle.flowspec.specs.Told.{comparison_told}
use Rattle.calls.proofs.Places.{not-compared}
use Rattle.calls.proofs.CallLaws.{with_out, compares, refused, done, answered}
use Rattle.std.proofs.Common.{Ok}
use Rattle.calls.proofs.compare.Goals as goal

pub word_of-requires : goal.word_of-requires
word_of-requires c = (not-compared _ _ _ _ (sym c.compare_rules.ensures.is ∙ c.in-Err.is)).near

pub returns-in-Err : goal.returns-in-Err
returns-in-Err c = with_out (compares _ _) (answered comparison_told _ _ c.compare_rules.ensures.is _ c.in-Err.is _ _ _ (refused _ _ _ _ c.word_of.ensures))

pub returns-in-Ok-Less : goal.returns-in-Ok-Less
returns-in-Ok-Less c =
    let found = c.in-Ok-Less.is ∙ ap (λ order. Ok order) c.in-Ok-Less.field-0-is in
    with_out (compares _ _) (answered comparison_told _ _ c.compare_rules.ensures.is _ found _ _ _ (done _ _))

pub returns-in-Ok-Greater : goal.returns-in-Ok-Greater
returns-in-Ok-Greater c =
    let found = c.in-Ok-Greater.is ∙ ap (λ order. Ok order) c.in-Ok-Greater.field-0-is in
    with_out (compares _ _) (answered comparison_told _ _ c.compare_rules.ensures.is _ found _ _ _ (done _ _))

pub returns-in-Ok-Equal : goal.returns-in-Ok-Equal
returns-in-Ok-Equal c =
    let found = c.in-Ok-Equal.is ∙ ap (λ order. Ok order) c.in-Ok-Equal.field-0-is in
    with_out (compares _ _) (answered comparison_told _ _ c.compare_rules.ensures.is _ found _ _ _ (done _ _))
