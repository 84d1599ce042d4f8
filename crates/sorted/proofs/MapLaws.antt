-- Tables whose records are mapped, each to one under the same key: inserting, removing and looking up give the mapped table what they give
-- the table, and the one is sorted where the other is. These hold of any comparison of keys. Assumes nothing.
use mathlib.Core.Path.{◌≡◌, refl, ap}
use mathlib.Core.List.{List, [], ◌∷◌, map}
use mathlib.Core.Logic.{◌↔◌}
use mathlib.Core.Option
use Prim.Native.Nat.{Ordering}
use Rattle.sorted.specs.Table.{lookup, insert, remove, Below, Sorted, below, sorted}
use Rattle.sorted.proofs.Cases.{by-order}

module _ {K R S : Type 0} (cmp : K → K → Ordering) (key : R → K) (keyed : S → K) (f : R → S) (keeps : (r : R) → keyed (f r) ≡ key r) where
  pub insert-map : (r : R) (t : List R) → insert cmp keyed (f r) (map f t) ≡ map f (insert cmp key r t)
  insert-map r [] = refl
  insert-map r (x ∷ t) =
      rw (keeps r, keeps x)
      (by-order (cmp (key r) (key x)) (λ e. rw e) (λ e. rw e) (λ e. rw e (ap (λ (u : List S). f x ∷ u) (insert-map r t))))

  pub remove-map : (k : K) (t : List R) → remove cmp keyed k (map f t) ≡ map f (remove cmp key k t)
  remove-map k [] = refl
  remove-map k (x ∷ t) =
      rw (keeps x) (by-order (cmp k (key x)) (λ e. rw e) (λ e. rw e) (λ e. rw e (ap (λ (u : List S). f x ∷ u) (remove-map k t))))

  pub lookup-map : (k : K) (t : List R) → lookup cmp keyed k (map f t) ≡ Option.map f (lookup cmp key k t)
  lookup-map k [] = refl
  lookup-map k (x ∷ t) = rw (keeps x) (by-order (cmp k (key x)) (λ e. rw e) (λ e. rw e) (λ e. rw e (lookup-map k t)))

  -- a key comes before the mapped table where it comes before the table
  below-map : (k : K) (t : List R) → Below cmp keyed k (map f t) ↔ Below cmp key k t
  below-map k [] = (λ b. b, λ b. b)
  below-map k (x ∷ t) = (λ b. rw (keeps x) at b, λ b. rw (keeps x) b)

  pub sorted-map : (t : List R) → Sorted cmp keyed (map f t) ↔ Sorted cmp key t
  sorted-map [] = (λ s. s, λ s. s)
  sorted-map (x ∷ t) =
      (λ s. ((below-map (key x) t).0 (rw (keeps x) at s.0), (sorted-map t).0 s.1), λ s. (rw (keeps x) ((below-map (key x) t).1 s.0), (sorted-map t).1 s.1))

  -- the same of the tests
  below-test-map : (k : K) (t : List R) → below cmp keyed k (map f t) ≡ below cmp key k t
  below-test-map k [] = refl
  below-test-map k (x ∷ t) = rw (keeps x)

  pub sorted-test-map : (t : List R) → sorted cmp keyed (map f t) ≡ sorted cmp key t
  sorted-test-map [] = refl
  sorted-test-map (x ∷ t) = rw (keeps x, below-test-map (key x) t, sorted-test-map t)
