-- The part of the table at the place that was located; that it begins there is read off its pointer.
use mathlib.Core.Path.{◌≡◌, refl, ◌∙◌}
use Rattle.rule.specs.Family.{family_of}
use Rattle.flowspec.specs.Look.{first_match}
use Rattle.flowspec.proofs.TableLaws.{located-at, located-nowhere}
use Rattle.flowspec.proofs.first_match.Goals.{in-Ok, in-Err}
use Rattle.flowspec.proofs.first_match.Goals as goal

pub returns : goal.returns
returns c =
    let located = c.first_match_place.ensures in
    let at : c.match-first_match_place.place ≡ first_match (family_of c.args.family) c.args.table.now c.args.packet.now
    = elim c.match-first_match_place.branch [
      | in-Ok w ↦ w.place-is ∙ located-at located _ w.in-Ok.is
      | in-Err w ↦ w.place-is ∙ located-nowhere located _ w.in-Err.is
    ] in
    record { is = rw (← at) refl; begins = rw (← at) refl; keeps = refl }
