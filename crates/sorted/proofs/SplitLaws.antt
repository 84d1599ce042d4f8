-- Where a key stands in a table: the records before it, and those from there on, whose first is the key's own record if it is held.
-- In these words insert and remove are changes at one place. These hold of any list of records. Assumes nothing.
use mathlib.Core.Path.{◌≡◌, refl, ap}
use mathlib.Core.List.{List, [], ◌∷◌, ◌++◌}
use mathlib.Core.Option.{none, some}
use Prim.Native.Nat.{Ordering}
use Rattle.sorted.specs.Table.{by_order, lookup, insert, remove}
use Rattle.sorted.proofs.Cases.{by-order}

module _ {K R : Type 0} (cmp : K → K → Ordering) (key : R → K) where
  -- the records that come before a key
  abbrev pub front : K → List R → List R
  front k [] = []
  front k (x ∷ t) = by_order (cmp k (key x)) [] [] (x ∷ front k t)

  -- the records from the key's place on
  abbrev pub rear : K → List R → List R
  rear k [] = []
  rear k (x ∷ t) = by_order (cmp k (key x)) (x ∷ t) (x ∷ t) (rear k t)

  -- what is left without the first record, if that is the key's own
  abbrev pub skip : K → List R → List R
  skip k [] = []
  skip k (x ∷ t) = by_order (cmp k (key x)) (x ∷ t) t (x ∷ t)

module _ {K R : Type 0} (cmp : K → K → Ordering) (key : R → K) where
  pub front-rear : (k : K) (t : List R) → front cmp key k t ++ rear cmp key k t ≡ t
  front-rear k [] = refl
  front-rear k (x ∷ t) =
      by-order (cmp k (key x)) (λ e. rw e) (λ e. rw e) (λ e. rw e (ap (λ (u : List R). x ∷ u) (front-rear k t)))

  pub insert-split : (r : R) (t : List R)
      → insert cmp key r t ≡ front cmp key (key r) t ++ r ∷ skip cmp key (key r) (rear cmp key (key r) t)
  insert-split r [] = refl
  insert-split r (x ∷ t) =
      by-order (cmp (key r) (key x)) (λ e. rw (e, e)) (λ e. rw (e, e)) (λ e. rw e (ap (λ (u : List R). x ∷ u) (insert-split r t)))

  pub remove-split : (k : K) (t : List R) → remove cmp key k t ≡ front cmp key k t ++ skip cmp key k (rear cmp key k t)
  remove-split k [] = refl
  remove-split k (x ∷ t) =
      by-order (cmp k (key x)) (λ e. rw (e, e)) (λ e. rw (e, e)) (λ e. rw e (ap (λ (u : List R). x ∷ u) (remove-split k t)))

  -- where the key is held, its record is the first from its place on
  pub held-split : (k : K) (t : List R) (x : R) → lookup cmp key k t ≡ some x
      → rear cmp key k t ≡ x ∷ skip cmp key k (rear cmp key k t)
  held-split k [] x h = cc
  held-split k (y ∷ t) x h =
      by-order (cmp k (key y)) (λ e. cc) (λ e. cc) (λ e. rw e (held-split k t x (rw e at h)))

  -- where it is not, nothing is left out
  pub absent-split : (k : K) (t : List R) → lookup cmp key k t ≡ none → skip cmp key k (rear cmp key k t) ≡ rear cmp key k t
  absent-split k [] h = refl
  absent-split k (y ∷ t) h =
      by-order (cmp k (key y)) (λ e. rw (e, e)) (λ e. cc) (λ e. rw e (absent-split k t (rw e at h)))
