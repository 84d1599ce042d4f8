-- **Each number is given exactly when 01's table says, and no other is given**, of the two calls with whole attributes by their promises: which
-- checks of a call's list held, and which did not, is read off its number. Assumes nothing.
use mathlib.Core.Path.{◌≡◌, refl, subst}
use mathlib.Core.Bool.{false}
use mathlib.Core.List.{List}
use mathlib.Core.Logic.Iff
use mathlib.Core.Logic.{◌↔◌, inl, inr}
use Prim.Native.Nat.{ℕ, ◌<◌, ◌≤◌}
use native.Mathlib.Omega.{arith}
use lib.Dec.{leb, eqb}
use borrow.Author.Tests.{leb-false, lt-leb}
use Rattle.std.proofs.Common.{Result, Ok, Err}
use Rattle.octets.specs.Test.{Each}
use Rattle.rule.specs.declared.Family.{Family}
use Rattle.rule.specs.declared.Refusal.{Refusal}
use Rattle.rule.proofs.RefusalsLaws.{Numbered}
use Rattle.request.specs.Input.{Policy}
use Rattle.flowspec.specs.Told.{Told, done}
use Rattle.flowspec.specs.Checks.{Check, one_to_seven, told}
use Rattle.theorems.specs.Numbers.{Accepts}
use Rattle.theorems.proofs.Numbers.{other, given, far}
use Rattle.theorems.proofs.ChecksLaws.{number_at, value-at, all_hold}
use Rattle.attribute.specs.Head.{reach_head, unreach_head}
use Rattle.attribute.specs.Rules.{rules_from}
use Rattle.attribute.specs.Refusals.{RulesAccepted}
use Rattle.attribute.proofs.RefusalsLaws.{refused-rules, accepted-rules, rules-numbered}
use Rattle.update.specs.declared.Reached.{Reached}
use Rattle.update.specs.Singles.{Reach}
use Rattle.update.specs.Checks.{reach_checks, unreach_checks}
use Rattle.update.specs.Apply.{reached_told, unreached_told}
use Rattle.theorems.specs.AttributeNumbers.{ReachNumber, UnreachNumber, ReachNumbers, UnreachNumbers}
use Rattle.update.specs.Promise.{Reaches, Unreaches}
use Rattle.update.proofs.ApplyLaws.{told_of, decided-ind, accepted-holds}

-- what is checked before a claim stays, and the claim is put in other words
behind : {A B C : Type 0} → B ↔ C → (A × B) ↔ (A × C)
behind = Iff.and Iff.rfl

-- fewer words than are asked for
too_few : (asked words : ℕ) → (leb asked words ≡ false) ↔ (words < asked)
too_few asked words = (leb-false asked words, lt-leb asked words)

-- what is told is 0, or the number of a check that does not hold
told-only : (P : ℕ → Type 0) (cs : List Check) (values : List ℕ) → P 0 → Each (λ c. c.holds ≡ false → P c.number) cs → P (told cs (done values)).number
told-only P cs values none each =
    subst (λ (t : Told). P t.number) (told_of cs (done values)) (decided-ind (λ (t : Told). P t.number) cs _ _ (λ h. none) each)

-- a refusal of 1 to 7 has no number above them
up-to-seven : (c : Result Unit Refusal) → Numbered c → (one_to_seven c).number ≤ 7
up-to-seven (Ok _) h = omega arith
up-to-seven (Err refusal) h = h.1

-- what the check of an attribute's rules says: its number is none of the others, and at most 7, and it holds where all rules are accepted
module _ (family : Family) (a : List ℕ) (head : ℕ) where
  apart_from : (n : ℕ) → 7 < n → eqb (one_to_seven (rules_from family a head).ending).number n ≡ false
  apart_from = other (rules_from family a head).ending (rules-numbered family a head)

  named : (one_to_seven (rules_from family a head).ending).holds ≡ false → 1 ≤ (one_to_seven (rules_from family a head).ending).number
  named = given (rules_from family a head).ending (rules-numbered family a head)

  of-rules : (one_to_seven (rules_from family a head).ending).number ≤ 7
  of-rules = up-to-seven (rules_from family a head).ending (rules-numbered family a head)

  accepted : Accepts (rules_from family a head).ending ↔ RulesAccepted family a head
  accepted = Iff.trans (accepted-holds (rules_from family a head).ending) (accepted-rules family a head)

-- ---- announcing ----

pub reach-numbers : {family : Family} {policy : Policy} {reach : Reach} {table answers : List ℕ} {answer : Result Reached Refusal} {exit words : List ℕ} {kept : List (List ℕ)}
    → Reaches family policy reach table answers answer exit words kept → ReachNumbers family policy reach table answers (reached_told answer)
reach-numbers {family} {policy} {reach} {table} {answers} p =
    let a = reach.attribute in
    let cs = reach_checks family policy reach table answers in
    let not-of-rules = apart_from family a reach_head in
    let all-accepted = accepted family a reach_head in
    rw p.tells (record {
      ten = number_at (done _) 10 (λ e. omega arith) cs 0 (refl, (refl, (refl, (not-of-rules 10 (omega arith), (refl, (refl, tt))))));
      nine = number_at (done _) 9 (λ e. omega arith) cs 1 (refl, (refl, (refl, (not-of-rules 9 (omega arith), (refl, (refl, tt))))));
      nineteen = number_at (done _) 19 (λ e. omega arith) cs 2 (refl, (refl, (refl, (not-of-rules 19 (omega arith), (refl, (refl, tt))))));
      one-to-seven = λ number place h k.
          Iff.trans
          (value-at (done _) number (λ e. omega arith) (rules_from family a reach_head).ending place cs 3 (
            far 10 number k (omega arith),
            (
              far 9 number k (omega arith),
              (far 19 number k (omega arith), (refl, (far 13 number k (omega arith), (far 16 number k (omega arith), tt)))),
            ),
          ))
          (behind (behind (behind (refused-rules family a reach_head number place))));
      thirteen = Iff.trans (number_at (done _) 13 (λ e. omega arith) cs 4 (refl, (refl, (refl, (not-of-rules 13 (omega arith), (refl, (refl, tt)))))))
          (behind (behind (behind (Iff.and all-accepted Iff.rfl))));
      sixteen = Iff.trans (number_at (done _) 16 (λ e. omega arith) cs 5 (refl, (refl, (refl, (not-of-rules 16 (omega arith), (refl, (refl, tt)))))))
          (behind (behind (behind (Iff.and all-accepted (behind (too_few _ _))))));
      zero = all_hold _ cs ((λ h. omega arith), ((λ h. omega arith), ((λ h. omega arith), (named family a reach_head, ((λ h. omega arith), ((λ h. omega arith), tt))))));
      only = told-only ReachNumber cs _ (inl (omega arith)) (
        (λ h. inr (inr (inl refl))),
        (
          (λ h. inr (inl refl)),
          (
            (λ h. inr (inr (inr (inr (inr refl))))),
            ((λ h. inl (of-rules family a reach_head)), ((λ h. inr (inr (inr (inl refl)))), ((λ h. inr (inr (inr (inr (inl refl))))), tt))),
          ),
        ),
      );
    })

-- ---- withdrawing ----

pub unreach-numbers : {family : Family} {attribute table answers : List ℕ} {answer : Result ℕ Refusal} {exit words : List ℕ} {kept : List (List ℕ)}
    → Unreaches family attribute table answers answer exit words kept → UnreachNumbers family attribute table answers (unreached_told answer)
unreach-numbers {family} {attribute} {table} {answers} p =
    let cs = unreach_checks family attribute table answers in
    let not-of-rules = apart_from family attribute unreach_head in
    rw p.tells (record {
      ten = number_at (done _) 10 (λ e. omega arith) cs 0 (refl, (refl, (not-of-rules 10 (omega arith), (refl, tt))));
      nineteen = number_at (done _) 19 (λ e. omega arith) cs 1 (refl, (refl, (not-of-rules 19 (omega arith), (refl, tt))));
      one-to-seven = λ number place h k.
          Iff.trans
          (value-at (done _) number (λ e. omega arith) (rules_from family attribute unreach_head).ending place cs 2
          (far 10 number k (omega arith), (far 19 number k (omega arith), (refl, (far 16 number k (omega arith), tt)))))
          (behind (behind (refused-rules family attribute unreach_head number place)));
      sixteen = Iff.trans (number_at (done _) 16 (λ e. omega arith) cs 3 (refl, (refl, (not-of-rules 16 (omega arith), (refl, tt)))))
          (behind (behind (Iff.and (accepted family attribute unreach_head) (too_few _ _))));
      zero = all_hold _ cs ((λ h. omega arith), ((λ h. omega arith), (named family attribute unreach_head, ((λ h. omega arith), tt))));
      only = told-only UnreachNumber cs _ (inl (omega arith))
          ((λ h. inr (inl refl)), ((λ h. inr (inr (inr refl))), ((λ h. inl (of-rules family attribute unreach_head)), ((λ h. inr (inr (inl refl))), tt))));
    })
