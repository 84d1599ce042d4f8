-- Of a destination only its offset, its length and the bits between count: destinations that differ past their length at most are judged
-- alike. Assumes nothing.
use mathlib.Core.Path.{◌≡◌, refl}
use mathlib.Core.List.{List, [], ◌∷◌}
use Prim.Native.Nat.{ℕ}
use Rattle.std.proofs.Common.{Option, Some, None}
use Rattle.octets.specs.Test.{every}
use Rattle.prefix.specs.Prefix.{Pattern}
use Rattle.prefix.proofs.ContainLaws.{Alike, contains-alike, contained-alike}
use Rattle.route.specs.declared.Origin.{Origin}
use Rattle.route.specs.declared.Settings.{Settings}
use Rattle.route.specs.Route.{Route}
use Rattle.route.specs.Feasible.{covered_by, more_specific, matched, best_match, undisputed, feasible}
use Rattle.route.proofs.FeasibleLaws.{judged-alike}

module _ (w : ℕ) (p q : Pattern) (same : Alike w p q) where
  -- the same routes cover both, and the same lie inside both
  covers-alike : (r : Route) → covered_by w p r ≡ covered_by w q r
  unfolding covered_by
  covers-alike r = contained-alike w p q same r.prefix

  inside-alike : (r : Route) → more_specific w p r ≡ more_specific w q r
  unfolding more_specific
  inside-alike r = rw (contains-alike w p q same r.prefix, same.length)

  best-alike : (routes : List Route) → best_match w p routes ≡ best_match w q routes
  unfolding best_match matched
  best-alike [] = refl
  best-alike (r ∷ routes) = rw (covers-alike r, best-alike routes)

  undisputed-alike : (routes : List Route) (neighbour : ℕ) → undisputed w p neighbour routes ≡ undisputed w q neighbour routes
  unfolding undisputed every
  undisputed-alike [] neighbour = refl
  undisputed-alike (r ∷ routes) neighbour = rw (inside-alike r, undisputed-alike routes neighbour)

-- two destinations that differ past the length at most
abbrev pub AlikeTo : ℕ → Option Pattern → Option Pattern → Type 0
AlikeTo w None None = Unit {0}
AlikeTo w None (Some q) = ⊥
AlikeTo w (Some p) None = ⊥
AlikeTo w (Some p) (Some q) = Alike w p q

pub destinations-alike : (w : ℕ) (settings : Settings) (d e : Option Pattern) (origin : Origin) (routes : List Route) → AlikeTo w d e
    → feasible w settings d origin routes ≡ feasible w settings e origin routes
unfolding feasible
destinations-alike w settings None None origin routes same = refl
destinations-alike w settings None (Some q) origin routes same = absurd same
destinations-alike w settings (Some p) None origin routes same = absurd same
destinations-alike w settings (Some p) (Some q) origin routes same =
    judged-alike w p q origin routes routes (best-alike w p q same routes) (undisputed-alike w p q same routes)
