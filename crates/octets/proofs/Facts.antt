-- Facts of all 256 octets, by computing them one after the other. Assumes nothing.
use mathlib.Core.Path.{◌≡◌, refl, sym}
use mathlib.Core.Bool.{Bool, true, false, ◌&&◌, beq}
use mathlib.Core.List.{List, [], ◌∷◌, ◌++◌}
use mathlib.Core.Logic.{◌⊎◌, inl, inr, ⊎_elim}
use Prim.Native.Nat.{ℕ, zero, suc, ◌<◌}
use native.Mathlib.Omega.{arith}
use native.Mathlib.Decide.{dec_lt}
use lib.Dec.{eqb}
use borrow.Author.Tests.{eqb-true}
pub use Rattle.octets.specs.Number.{Octets}
use Rattle.octets.proofs.Cases.{both}

-- the test passes at every number below n
abbrev pub all_below : ℕ → (ℕ → Bool) → Bool
all_below zero f = true
all_below (suc n) f = f n && all_below n f

last-or-below : (x n : ℕ) → x < suc n → (x ≡ n) ⊎ (x < n)
last-or-below x n h = elim (dec_lt x n) [ yes l ↦ inr l | no g ↦ inl (omega arith) ]

pub below : (n : ℕ) (f : ℕ → Bool) → all_below n f ≡ true → (x : ℕ) → x < n → f x ≡ true
below zero f t x h = absurd (omega arith)
below (suc n) f t x h = let ts = both (f n) (all_below n f) t in ⊎_elim (λ e. rw e ts.0) (λ l. below n f ts.1 x l) (last-or-below x n h)

-- two functions that agree at every octet, by computation
pub octet : (f g : ℕ → ℕ) → all_below 256 (λ x. eqb (f x) (g x)) ≡ true → (x : ℕ) → x < 256 → f x ≡ g x
octet f g t x h = eqb-true (f x) (g x) (below 256 (λ x. eqb (f x) (g x)) t x h)

beq_same : (a b : Bool) → beq a b ≡ true → a ≡ b
beq_same true true e = refl
beq_same true false e = sym e
beq_same false true e = e
beq_same false false e = refl

-- two tests that agree at every octet, by computation
pub octet-test : (f g : ℕ → Bool) → all_below 256 (λ x. beq (f x) (g x)) ≡ true → (x : ℕ) → x < 256 → f x ≡ g x
octet-test f g t x h = beq_same (f x) (g x) (below 256 (λ x. beq (f x) (g x)) t x h)

-- octets after octets
pub octets-append : (a b : List ℕ) → Octets a → Octets b → Octets (a ++ b)
octets-append [] b f g = g
octets-append (x ∷ a) b f g = first (octets-append a b (λ j. f (suc j)) g)
  where
    first : Octets (a ++ b) → Octets (x ∷ a ++ b)
    first h zero = f 0
    first h (suc i) = h i
