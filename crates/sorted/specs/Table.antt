-- Tables: lists of records in which each key stands at most once, in the order of the keys. `key` says under which key a record stands
-- and `cmp k j` which of two keys comes first. These definitions go down the list and stop where the key would stand; that they do
-- what their names say, given the laws of an order, is in proofs/.
use Prim.Native.Nat.{Ordering}
use Rattle.std.specs.Prelude.{◌≡◌, Bool, true, false, ◌&&◌, List, [], ◌∷◌}
use Rattle.std.proofs.Math.Option.{Option, none, some}

-- One of three, by how a comparison came out: the first comes first, they tie, the second comes first.
abbrev pub by_order : {A : Type 0} → Ordering → A → A → A → A
by_order Ordering.lt first same second = first
by_order Ordering.eq first same second = same
by_order Ordering.gt first same second = second

module _ {K R : Type 0} (cmp : K → K → Ordering) (key : R → K) where
  -- The record that stands under a key, if there is one.
  abbrev pub lookup : K → List R → Option R
  lookup k [] = none
  lookup k (x ∷ t) = by_order (cmp k (key x)) none (some x) (lookup k t)

  -- The table with a record, which takes the place of the one under its key if there is one.
  abbrev pub insert : R → List R → List R
  insert r [] = r ∷ []
  insert r (x ∷ t) = by_order (cmp (key r) (key x)) (r ∷ x ∷ t) (r ∷ t) (x ∷ insert r t)

  -- The table without the record under a key.
  abbrev pub remove : K → List R → List R
  remove k [] = []
  remove k (x ∷ t) = by_order (cmp k (key x)) (x ∷ t) t (x ∷ remove k t)

  -- A key comes before all records of a sorted table when it comes before the first one.
  abbrev pub Below : K → List R → Type 0
  Below k [] = Unit {0}
  Below k (x ∷ t) = cmp k (key x) ≡ Ordering.lt

  -- The keys rise strictly.
  abbrev pub Sorted : List R → Type 0
  Sorted [] = Unit {0}
  Sorted (x ∷ t) = Below (key x) t × Sorted t

  -- Whether a key comes before the first record, as a test.
  abbrev pub below : K → List R → Bool
  below k [] = true
  below k (x ∷ t) = by_order (cmp k (key x)) true false false

  -- Whether the keys rise strictly, as a test.
  abbrev pub sorted : List R → Bool
  sorted [] = true
  sorted (x ∷ t) = below (key x) t && sorted t
