-- How the code evaluates a list: pair by pair, with two answers kept. No promise to a caller names these words; that they come to the OR
-- of ANDs of PairList is proved.
use Rattle.std.specs.Prelude.{ℕ, Bool, not, ◌&&◌, ◌||◌, List, eqb}
use Rattle.rule.specs.declared.Shape.{Shape}
use Rattle.rule.specs.Component.{pair_of}
use Rattle.matching.specs.declared.Evaluated.{Evaluated}
use Rattle.matching.specs.PairList.{joins}
use Rattle.matching.specs.Match.{pair_holds}

-- One pair further (`found`: an earlier group held; `group`: the present group holds so far): a pair that AND joins goes with the
-- present group, any other ends that group and begins the next.
abbrev pub with_pair : Evaluated → Bool → Bool → Evaluated
with_pair evaluated joined holds =
    record {
      found = evaluated.found || evaluated.group && not joined;
      group = holds && (evaluated.group || not joined);
    }

-- A list evaluated one pair further, by the pair that stands from one place of a body up to another: the first one stands at 0, and its AND
-- is ignored.
abbrev pub evaluate_pair : Shape → List ℕ → ℕ → ℕ → ℕ → Evaluated → Evaluated
evaluate_pair shape body at next «data» evaluated =
    let pair = pair_of body at next in
    with_pair evaluated (joins pair && not (eqb at 0)) (pair_holds shape «data» pair)
