-- Laws of numbers that may be missing: the first of several in any grouping, nothing behind, and what passes a test.
use Prim.Native.Nat.{ℕ}
use mathlib.Core.Path.{◌≡◌, refl}
use mathlib.Core.Bool.{Bool, true, false, cond, ◌||◌}
use borrow.Author.Tests.{eqb-true}
use Rattle.octets.proofs.Cases.{by-test}
use Rattle.action.specs.declared.Given.{Given}
use Rattle.action.specs.Given.{absent, given, first_of, allowed}

-- The first of three.
pub first-assoc : (a b c : Given) → first_of (first_of a b) c ≡ first_of a (first_of b c)
unfolding first_of
first-assoc a b c = by-test a.present (λ h. rw h) (λ h. rw h)

-- A first that is there is the answer.
pub first-there : (a b g : Given) → a.present ≡ true → g ≡ given a.number → g ≡ first_of a b
unfolding first_of
first-there a b g h k = rw (k, h)

-- What comes after a first that is there does not count.
pub first_one : (n : ℕ) (g : Given) → first_of (given n) g ≡ given n
unfolding first_of
first_one n g = refl

-- Any of three tests.
pub or_assoc : (a b c : Bool) → a || b || c ≡ a || (b || c)
or_assoc true b c = refl
or_assoc false b c = refl

-- A number that passes a test if it is there, and is 0 if it is not.
abbrev pub Fine : (ℕ → Bool) → Given → Type 0
Fine test g = allowed g.present g.number (test g.number) ≡ true

module _ (test : ℕ → Bool) where
  pub fine-absent : Fine test absent
  unfolding allowed
  fine-absent = refl

  pub fine-given : (n : ℕ) → test n ≡ true → Fine test (given n)
  unfolding allowed
  fine-given n h = h

  -- A number that is there passes, and a missing one is 0.
  pub by-allowed : (P : Bool → ℕ → Type 0) → ((n : ℕ) → test n ≡ true → P true n) → P false 0 → (p : Bool) (n : ℕ)
      → allowed p n (test n) ≡ true → P p n
  unfolding allowed
  by-allowed P there gone true n h = there n h
  by-allowed P there gone false n h = rw (eqb-true n 0 h) gone

  pub by-fine : (P : Given → Type 0) → ((n : ℕ) → test n ≡ true → P (given n)) → P absent → (g : Given) → Fine test g → P g
  by-fine P there gone g = by-allowed (λ p n. P (record { present = p; number = n })) there gone g.present g.number

  fine-either : (t : Bool) (a b : Given) → Fine test a → Fine test b → Fine test (cond t a b)
  fine-either true a b p q = p
  fine-either false a b p q = q

  pub fine-first : (a b : Given) → Fine test a → Fine test b → Fine test (first_of a b)
  unfolding first_of
  fine-first a b p q = fine-either a.present a b p q

  -- Nothing after changes nothing.
  pub first_absent : (g : Given) → Fine test g → first_of g absent ≡ g
  unfolding first_of
  first_absent = by-fine (λ g. first_of g absent ≡ g) (λ n h. refl) refl
