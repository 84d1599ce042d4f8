-- Every refusal of a call with a whole attribute carries a place that is at most 4,095. Assumes nothing.
use mathlib.Core.Path.{◌≡◌, refl, sym, subst}
use mathlib.Core.Bool.{false}
use mathlib.Core.List.{List}
use Prim.Native.Nat.{ℕ}
use lib.ListN.{drop}
use Rattle.octets.specs.Test.{Each}
use Rattle.octets.proofs.Cases.{apart}
use Rattle.rule.specs.declared.Family.{Family}
use Rattle.rule.specs.declared.Refusal.{Refusal}
use Rattle.rule.specs.declared.Refusal.TheVariants.{UnsoundRoutes, UnsoundTable, UnsoundActions, ShortBuffer, UntakenAttribute}
use Rattle.rule.specs.Refusal.{refusal_with}
use Rattle.rule.proofs.Near.{Near, placeless, refusal-with}
use Rattle.rule.proofs.ReadingLaws.{SaysRule, reading-says}
use Rattle.request.specs.Input.{Policy}
use Rattle.flowspec.specs.Checks.{Check, one_to_seven}
use Rattle.attribute.specs.Head.{reach_head, unreach_head}
use Rattle.attribute.specs.Rules.{rule_at, rules_from}
use Rattle.attribute.proofs.RulesLaws.{says, rules-ind}
use Rattle.update.specs.declared.Reached.{Reached}
use Rattle.update.specs.Singles.{Reach, announcing_each, withdrawing_each}
use Rattle.update.specs.Checks.{reach_notes, reach_checks, unreach_checks}
use Rattle.update.specs.Apply.{Left, applied_all, reached, refused_whole, reaching, unreaching}
use Rattle.update.proofs.ApplyLaws.{decided-ind}
use Rattle.std.proofs.Common.{Result, Ok, Err}

-- a check that does not hold has a refusal that is near
abbrev Refuses : Check → Type 0
Refuses c = c.holds ≡ false → Near (refusal_with c.number c.place)

-- the rules of an attribute are all accepted, or the refusal is that of one of them
rules-refuse : (family : Family) (a : List ℕ) (at : ℕ) → Refuses (one_to_seven (rules_from family a at).ending)
rules-refuse family a =
    rules-ind family a (λ at w. Refuses (one_to_seven w.ending)) (λ at e h. apart (cc)) (λ at refusal e h. subst Near (sym (refusal-with refusal)) (near at refusal e))
    (λ at start end w e rest. rest)
  where
    near : (at : ℕ) (refusal : Refusal) → rule_at family a at ≡ Err refusal → Near refusal
    near at refusal e = subst (SaysRule family (drop at a)) (says family a at (Err refusal) e).1 (reading-says family (drop at a))

-- ---- the two calls ----

abbrev Reaches : Result Reached Refusal → Type 0
Reaches (Err refusal) = Near refusal
Reaches (Ok reached) = Unit {0}

pub not-reached : (family : Family) (policy : Policy) (reach : Reach) (t answers : List ℕ) (refusal : Refusal)
    → (reaching family policy reach t answers).answer ≡ Err refusal → Near refusal
unfolding reaching
not-reached family policy reach t answers refusal e =
    subst Reaches e
    (decided-ind (λ (left : Left (Result Reached Refusal)). Reaches left.answer) (reach_checks family policy reach t answers)
    (applied_all (λ n. Ok (reached n (reach_notes reach))) (announcing_each family policy reach t) answers) (refused_whole t answers) (λ hold. tt) each)
  where
    each : Each Refuses (reach_checks family policy reach t answers)
    each = (
      λ h. placeless UnsoundTable refl,
      (
        λ h. placeless UnsoundRoutes refl,
        (
          λ h. placeless UntakenAttribute refl,
          (rules-refuse family reach.attribute reach_head, (λ h. placeless UnsoundActions refl, (λ h. placeless ShortBuffer refl, tt))),
        ),
      ),
    )

abbrev Unreaches : Result ℕ Refusal → Type 0
Unreaches (Err refusal) = Near refusal
Unreaches (Ok count) = Unit {0}

pub not-unreached : (family : Family) (attribute t answers : List ℕ) (refusal : Refusal)
    → (unreaching family attribute t answers).answer ≡ Err refusal → Near refusal
unfolding unreaching
not-unreached family attribute t answers refusal e =
    subst Unreaches e
    (decided-ind (λ (left : Left (Result ℕ Refusal)). Unreaches left.answer) (unreach_checks family attribute t answers)
    (applied_all (λ n. Ok n) (withdrawing_each family attribute t) answers) (refused_whole t answers) (λ hold. tt) each)
  where
    each : Each Refuses (unreach_checks family attribute t answers)
    each = (
      λ h. placeless UnsoundTable refl,
      (
        λ h. placeless UntakenAttribute refl,
        (rules-refuse family attribute unreach_head, (λ h. placeless ShortBuffer refl, tt)),
      ),
    )
