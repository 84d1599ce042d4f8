-- A list of pairs judged pair by pair is the OR of ANDs that its definition says, whatever the test of a pair. Assumes nothing.
use mathlib.Core.Path.{◌≡◌, refl, sym, ap, ◌∙◌}
use mathlib.Core.Bool.{Bool, true, false, cond, not, ◌&&◌, ◌||◌, and-true, or-false, and_assoc}
use mathlib.Core.List.{List, [], ◌∷◌, ◌++◌}
use Prim.Native.Nat.{ℕ, ◌<◌}
use native.Mathlib.Omega.{arith}
use lib.Dec.{eqb}
use borrow.Author.Tests.{ne_eqb}
use Rattle.octets.specs.Test.{every, one_holds}
use Rattle.rule.specs.Component.{Pair}
use Rattle.octets.proofs.Cases.{by-test}
use Rattle.matching.specs.declared.Evaluated.{Evaluated}
use Rattle.matching.specs.PairList.{joins, groups_from, groups, list_holds}
use Rattle.matching.specs.Evaluation.{with_pair}

module _ (test : Pair → Bool) where
  -- one pair more in a group
  all_more : (group : List Pair) (p : Pair) → every test (group ++ p ∷ []) ≡ every test group && test p
  unfolding every
  all_more [] p = and-true (test p)
  all_more (q ∷ group) p = rw (all_more group p) (sym (and_assoc (test q) (every test group) (test p)))

  -- a list judged pair by pair behind a group of which it is known whether all its pairs hold
  abbrev pub goes_on : Bool → List Pair → Bool
  goes_on group [] = group
  goes_on group (p ∷ ps) = cond (joins p) (goes_on (group && test p) ps) (group || goes_on (test p) ps)

  groups_go_on : (group : List Pair) (ps : List Pair) → one_holds (every test) (groups_from group ps) ≡ goes_on (every test group) ps
  unfolding one_holds groups_from every
  groups_go_on group [] = or-false (every test group)
  groups_go_on group (p ∷ ps) =
      by-test (joins p)
      (λ t. rw (t, groups_from) (groups_go_on (group ++ p ∷ []) ps ∙ ap (λ (b : Bool). goes_on b ps) (all_more group p)))
      (λ t. rw (t, groups_from) (ap (λ (b : Bool). every test group || b) (groups_go_on (p ∷ []) ps ∙ ap (λ (b : Bool). goes_on b ps) (and-true (test p)))))

  -- a list is judged from its first pair on, whatever that pair's AND
  pub from_first : (p : Pair) (ps : List Pair) → list_holds test (p ∷ ps) ≡ goes_on (test p) ps
  unfolding list_holds groups every
  from_first p ps = groups_go_on (p ∷ []) ps ∙ ap (λ (b : Bool). goes_on b ps) (and-true (test p))

-- a pair that begins a group, and one that AND joins; `rest` is what the pairs behind it give
begins : (rest : Bool → Bool) (f g h : Bool) → f || (g || rest h) ≡ f || g && true || rest (h && (g || true))
begins rest true g h = refl
begins rest false true h = refl
begins rest false false true = refl
begins rest false false false = refl

continues : (rest : Bool → Bool) (f g h : Bool) → f || rest (g && h) ≡ f || g && false || rest (h && (g || false))
continues rest true g h = refl
continues rest false true true = refl
continues rest false true false = refl
continues rest false false true = refl
continues rest false false false = refl

-- what a list gives that is judged up to a place: at 0 no pair is
abbrev pub judged_to : (Pair → Bool) → ℕ → Evaluated → List Pair → Bool
judged_to test at evaluated ps = evaluated.found || cond (eqb at 0) (evaluated.group || list_holds test ps) (goes_on test evaluated.group ps)

module _ (test : Pair → Bool) (at : ℕ) (evaluated : Evaluated) where
  abbrev pub further : Pair → Evaluated
  further p = with_pair evaluated (joins p && not (eqb at 0)) (test p)

  one_more : (p : Pair) (ps : List Pair) → judged_to test at evaluated (p ∷ ps) ≡ (further p).found || goes_on test (further p).group ps
  one_more p ps =
      by-test (eqb at 0)
      (λ t. by-test (joins p)
      (λ u. rw (t, u, from_first test p ps) (begins (λ b. goes_on test b ps) evaluated.found evaluated.group (test p)))
      (λ u. rw (t, u, from_first test p ps) (begins (λ b. goes_on test b ps) evaluated.found evaluated.group (test p))))
      (λ t. by-test (joins p)
      (λ u. rw (t, u) (continues (λ b. goes_on test b ps) evaluated.found evaluated.group (test p)))
      (λ u. rw (t, u) (begins (λ b. goes_on test b ps) evaluated.found evaluated.group (test p))))

  -- one pair further, at a place that is not the first
  pub judged-on : (next : ℕ) (p : Pair) (ps : List Pair) → at < next → judged_to test at evaluated (p ∷ ps) ≡ judged_to test next (further p) ps
  judged-on next p ps h = one_more p ps ∙ rw (ne_eqb next 0 (omega arith))

  -- the last pair, and none
  pub judged-last : (p : Pair) → judged_to test at evaluated (p ∷ []) ≡ (further p).found || (further p).group
  judged-last p = one_more p []

  pub judged-none : judged_to test at evaluated [] ≡ evaluated.found || evaluated.group
  unfolding list_holds groups one_holds
  judged-none = by-test (eqb at 0) (λ t. rw (t, or-false evaluated.group)) (λ t. rw t)
