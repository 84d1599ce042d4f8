-- Which check of a list refuses, read off what is told: a number that one check alone of the list has is told exactly where that check is the
-- first that does not hold, and 0 exactly where all hold. Assumes nothing.
use mathlib.Core.Path.{◌≡◌, refl}
use mathlib.Core.Bool.{true, false}
use mathlib.Core.Logic.Iff
use mathlib.Core.Logic.{◌↔◌}
use mathlib.Core.List.{List, [], ◌∷◌}
use Prim.Native.Nat.{ℕ, zero, suc, ◌≤◌}
use native.Mathlib.Omega.{arith}
use lib.Dec.{eqb}
use borrow.Author.Tests.{eqb-false}
use Rattle.std.proofs.Common.{Result, Ok, Err}
use Rattle.octets.specs.Test.{Each}
use Rattle.octets.proofs.Cases.{by-test, apart}
use Rattle.rule.specs.declared.Refusal.{Refusal}
use Rattle.rule.specs.Refusal.{RefusedWith}
use Rattle.flowspec.specs.Told.{Told, done}
use Rattle.flowspec.specs.Checks.{Check, one_to_seven, AllHold, told}

-- so many checks of a list hold, and then a claim
abbrev pub Until : List Check → ℕ → (Check → Type 0) → Type 0
Until [] i P = ⊥
Until (c ∷ cs) zero P = P c
Until (c ∷ cs) (suc i) P = (c.holds ≡ true) × Until cs i P

-- a check of a list is the first that does not hold
abbrev pub RefusedAt : List Check → ℕ → Type 0
RefusedAt cs i = Until cs i (λ c. c.holds ≡ false)

-- no check of a list has a number; the one at a place has it and no other; and that one is a value's, which alone may have it
abbrev Without : ℕ → List Check → Type 0
Without n = Each (λ c. eqb c.number n ≡ false)

abbrev pub Only : ℕ → List Check → ℕ → Type 0
Only n [] i = ⊥
Only n (c ∷ cs) zero = (c.number ≡ n) × Without n cs
Only n (c ∷ cs) (suc i) = (eqb c.number n ≡ false) × Only n cs i

abbrev pub OnlyValue : Result Unit Refusal → ℕ → List Check → ℕ → Type 0
OnlyValue v n [] i = ⊥
OnlyValue v n (c ∷ cs) zero = (c ≡ one_to_seven v) × Without n cs
OnlyValue v n (c ∷ cs) (suc i) = (eqb c.number n ≡ false) × OnlyValue v n cs i

module _ (grant : Told) (n : ℕ) (other : grant.number ≡ n → ⊥) where
  -- a number that no check has, and that is not granted, is not told
  not-told : (cs : List Check) → Without n cs → (told cs grant).number ≡ n → ⊥
  not-told [] w e = other e
  not-told (c ∷ cs) w e =
      by-test c.holds (λ h. not-told cs w.1 (rw h at e)) (λ h. eqb-false c.number n w.0 (rw h at e))

  -- **a number is told exactly where its check refuses**
  pub number_at : (cs : List Check) (i : ℕ) → Only n cs i → ((told cs grant).number ≡ n) ↔ RefusedAt cs i
  number_at [] i a = absurd a
  number_at (c ∷ cs) zero a =
      by-test c.holds
      (λ h. rw h ((λ e. absurd (not-told cs a.1 e)), (λ b. let z : true ≡ false = b in apart (cc))))
      (λ h. rw h ((λ e. refl), (λ b. a.0)))
  number_at (c ∷ cs) (suc i) a =
      by-test c.holds
      (λ h. let rest = number_at cs i a.1 in rw h ((λ e. (refl, rest.0 e)), (λ b. rest.1 b.1)))
      (λ h. rw h ((λ e. absurd (eqb-false c.number n a.0 e)), (λ b. let z : false ≡ true = b.0 in apart (cc))))

  -- **a refusal of a value is told, with its place, exactly where the value's check refuses so**
  pub value-at : (v : Result Unit Refusal) (place : ℕ) (cs : List Check) (i : ℕ) → OnlyValue v n cs i
      → (((told cs grant).number ≡ n) × ((told cs grant).place ≡ place)) ↔ Until cs i (λ c. RefusedWith v n place)
  value-at v place [] i a = absurd a
  value-at v place (c ∷ cs) zero a = rw a.0 (go v)
    where
      go : (w : Result Unit Refusal)
          → (((told (one_to_seven w ∷ cs) grant).number ≡ n) × ((told (one_to_seven w ∷ cs) grant).place ≡ place)) ↔ RefusedWith w n place
      go (Ok _) = ((λ e. absurd (not-told cs a.1 e.0)), (λ b. absurd b))
      go (Err refusal) = Iff.rfl
  value-at v place (c ∷ cs) (suc i) a =
      by-test c.holds
      (λ h. let rest = value-at v place cs i a.1 in rw h ((λ e. (refl, rest.0 e)), (λ b. rest.1 b.1)))
      (λ h. rw h ((λ e. absurd (eqb-false c.number n a.0 e.0)), (λ b. let z : false ≡ true = b.0 in apart (cc))))

-- **0 is told exactly where all checks hold**
pub all_hold : (values : List ℕ) (cs : List Check) → Each (λ c. c.holds ≡ false → 1 ≤ c.number) cs → ((told cs (done values)).number ≡ 0) ↔ AllHold cs
all_hold values [] a = ((λ e. tt), (λ b. refl))
all_hold values (c ∷ cs) a =
    by-test c.holds
    (λ h. let rest = all_hold values cs a.1 in rw h ((λ e. (refl, rest.0 e)), (λ b. rest.1 b.1)))
    (λ h. let some = a.0 h in rw h ((λ e. absurd (omega arith)), (λ b. let z : false ≡ true = b.0 in apart (cc))))
