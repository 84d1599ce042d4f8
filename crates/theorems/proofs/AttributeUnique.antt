-- For each of the two calls: two results that satisfy its promise are equal, in the answer, in the table, in the answer words and in what is
-- lent to be read alone. Assumes nothing.
use mathlib.Core.Path.{◌≡◌, sym, ◌∙◌}
use mathlib.Core.List.{List}
use Prim.Native.Nat.{ℕ}
use Rattle.std.proofs.Common.{Result}
use Rattle.rule.specs.declared.Family.{Family}
use Rattle.rule.specs.declared.Refusal.{Refusal}
use Rattle.request.specs.Input.{Policy}
use Rattle.update.specs.declared.Reached.{Reached}
use Rattle.update.specs.Singles.{Reach}
use Rattle.update.specs.Promise.{Reaches, Unreaches}

module _ (family : Family) (table answers x y u v : List ℕ) (k l : List (List ℕ)) where
  pub one-reach : (policy : Policy) (reach : Reach) (a b : Result Reached Refusal) → Reaches family policy reach table answers a x u k
      → Reaches family policy reach table answers b y v l → (a ≡ b) × ((x ≡ y) × ((u ≡ v) × (k ≡ l)))
  one-reach policy reach a b p q =
      (p.is ∙ sym q.is, (p.leaves ∙ sym q.leaves, (p.lists ∙ sym q.lists, p.keeps ∙ sym q.keeps)))

  pub one-unreach : (attribute : List ℕ) (a b : Result ℕ Refusal) → Unreaches family attribute table answers a x u k → Unreaches family attribute table answers b y v l
      → (a ≡ b) × ((x ≡ y) × ((u ≡ v) × (k ≡ l)))
  one-unreach attribute a b p q =
      (p.is ∙ sym q.is, (p.leaves ∙ sym q.leaves, (p.lists ∙ sym q.lists, p.keeps ∙ sym q.keeps)))
