-- For each public call: two results that satisfy its promise are equal, in the answer and in every lent octet and word. Assumes nothing.
use mathlib.Core.Path.{◌≡◌, sym, ◌∙◌}
use mathlib.Core.List.{List}
use Prim.Native.Nat.{ℕ}
use Rattle.lines.specs.declared.Served.{Served}
use Rattle.lines.specs.declared.Gathered.{Gathered}
use Rattle.lines.specs.Promise.{Serves, Gathers}

pub one-service : (line : List ℕ) (used : ℕ) (routes table out : List ℕ) (a b : Served) (r s t u o p : List ℕ) (k m : List (List ℕ))
    → Serves line used routes table out a r t o k → Serves line used routes table out b s u p m
    → (a ≡ b) × ((r ≡ s) × ((t ≡ u) × ((o ≡ p) × (k ≡ m))))
one-service line used routes table out a b r s t u o p k m x y =
    (x.is ∙ sym y.is, (x.leaves_routes ∙ sym y.leaves_routes, (x.leaves_table ∙ sym y.leaves_table, (x.prints ∙ sym y.prints, x.keeps ∙ sym y.keeps))))

pub one-gathering : (block line : List ℕ) (held : ℕ) (a b : Gathered) (l m : List ℕ) (k n : List (List ℕ)) → Gathers block line held a l k
    → Gathers block line held b m n → (a ≡ b) × ((l ≡ m) × (k ≡ n))
one-gathering block line held a b l m k n x y = (x.is ∙ sym y.is, (x.leaves ∙ sym y.leaves, x.keeps ∙ sym y.keeps))
