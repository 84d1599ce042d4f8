-- The table of component types: how `shape_of` comes to each of its rows, and what holds of every row. Assumes nothing.
use mathlib.Core.Path.{◌≡◌, refl}
use mathlib.Core.Logic.{◌⊎◌, inl, inr}
use Prim.Native.Nat.{ℕ, ◌≤◌}
use native.Mathlib.Omega.{arith}
use lib.Dec.{eqb}
use borrow.Author.Tests.{eqb-false, eq-eqb, ne_eqb}
use Rattle.octets.proofs.Cases.{by-test}
use Rattle.rule.specs.declared.Family.{Family}
use Rattle.rule.specs.Shape.{a_prefix, numeric_pairs, shape_of}

module _ (family : Family) (kind : ℕ) where
  pub prefix-shape : 1 ≤ kind → kind ≤ 2 → a_prefix ≡ shape_of family kind
  unfolding shape_of
  prefix-shape h k = by-test (eqb kind 1) (λ e. rw e) (λ e. let n = eqb-false kind 1 e in rw (e, eq-eqb kind 2 (omega arith)))

  pub other-shape : (kind ≡ 1 → ⊥) → (kind ≡ 2 → ⊥) → (kind ≡ 9 → ⊥) → (kind ≡ 11 → ⊥) → (kind ≡ 12 → ⊥) → numeric_pairs 8 0 ≡ shape_of family kind
  unfolding shape_of
  other-shape a b c d e = rw (ne_eqb kind 1 a, ne_eqb kind 2 b, ne_eqb kind 9 c, ne_eqb kind 11 d, ne_eqb kind 12 e)

  -- a type that ignores bits of a value has values of one octet
  pub one-octet-or-whole : ((shape_of family kind).largest ≤ 1) ⊎ ((shape_of family kind).ignored ≡ 0)
  unfolding shape_of
  one-octet-or-whole =
      by-test (eqb kind 1) (λ a. rw a (inr refl))
      (λ a. by-test (eqb kind 2) (λ b. rw (a, b) (inr refl))
      (λ b. by-test (eqb kind 9) (λ c. rw (a, b, c) (inr refl))
      (λ c. by-test (eqb kind 11) (λ d. rw (a, b, c, d) (inl (omega arith)))
      (λ d. by-test (eqb kind 12) (λ e. rw (a, b, c, d, e) (inl (omega arith))) (λ e. rw (a, b, c, d, e) (inr refl))))))
