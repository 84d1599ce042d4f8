-- Which records are in a table: those that are found under their keys. What every record passes as a test it passes in the changed
-- table. Assumes nothing.
use mathlib.Core.Path.{◌≡◌, refl, ap, sym, ◌∙◌}
use mathlib.Core.Bool.{Bool, true}
use mathlib.Core.List.Memᴰ
use mathlib.Core.List.{List, [], ◌∷◌, Memᴰ}
use mathlib.Core.Logic.{◌⊎◌, inl, inr, ⊎_elim}
use mathlib.Core.Option.{some}
use Prim.Native.Nat.{Ordering}
use Rattle.octets.specs.Test.{every}
use Rattle.octets.proofs.Cases.{apart}
use Rattle.octets.proofs.OrderLaws.{IsOrder}
use Rattle.octets.proofs.TestLaws.{every-both}
use Rattle.sorted.specs.Table.{lookup, insert, remove, Below, Sorted}
use Rattle.sorted.proofs.Cases.{by-order}
use Rattle.sorted.proofs.TableLaws.{below-trans}

-- every record passes a test exactly where each record that is in the table does
pub every_in : {R : Type 0} (test : R → Bool) (t : List R) → every test t ≡ true → (x : R) → Memᴰ x t → test x ≡ true
every_in test [] g x m = absurd (Memᴰ.not-nil m)
every_in test (y ∷ t) g x m =
    let gs = every-both test y t g in ⊎_elim (λ f. rw f gs.0) (λ n. every_in test t gs.1 x n) (Memᴰ.cases_cons m)

in-every : {R : Type 0} (test : R → Bool) (t : List R) → ((x : R) → Memᴰ x t → test x ≡ true) → every test t ≡ true
unfolding every
in-every test [] f = refl
in-every test (y ∷ t) f = rw (f y (Memᴰ.head refl)) (in-every test t (λ x m. f x (Memᴰ.tail m)))

module _ {K R : Type 0} (cmp : K → K → Ordering) (key : R → K) where
  -- what is in a table after an insertion was inserted or was in it before
  pub in_insert : (r x : R) (t : List R) → Memᴰ x (insert cmp key r t) → (x ≡ r) ⊎ Memᴰ x t
  in_insert r x [] m = Memᴰ.cases_cons m
  in_insert r x (y ∷ t) m =
      by-order
      (cmp (key r) (key y))
      (λ e. Memᴰ.cases_cons (rw e at m))
      (λ e. ⊎_elim (λ f. inl f) (λ n. inr (Memᴰ.tail n)) (Memᴰ.cases_cons (rw e at m)))
      (λ e.
      ⊎_elim
      (λ f. inr (Memᴰ.head f))
      (λ n. ⊎_elim (λ f. inl f) (λ l. inr (Memᴰ.tail l)) (in_insert r x t n))
      (Memᴰ.cases_cons (rw e at m)))

  -- what is in a table after a removal was in it before
  pub in_remove : (k : K) (x : R) (t : List R) → Memᴰ x (remove cmp key k t) → Memᴰ x t
  in_remove k x [] m = m
  in_remove k x (y ∷ t) m =
      by-order
      (cmp k (key y))
      (λ e. rw e at m)
      (λ e. Memᴰ.tail (rw e at m))
      (λ e. ⊎_elim (λ f. Memᴰ.head f) (λ n. Memᴰ.tail (in_remove k x t n)) (Memᴰ.cases_cons (rw e at m)))

  -- a test that every record passes and a new one too, every record passes with that one put in, and with one taken out
  pub every-insert : (test : R → Bool) (r : R) (t : List R) → test r ≡ true → every test t ≡ true → every test (insert cmp key r t) ≡ true
  every-insert test r t n g =
      in-every test (insert cmp key r t) (λ x m. ⊎_elim (λ f. rw f n) (λ l. every_in test t g x l) (in_insert r x t m))

  pub every-remove : (test : R → Bool) (k : K) (t : List R) → every test t ≡ true → every test (remove cmp key k t) ≡ true
  every-remove test k t g = in-every test (remove cmp key k t) (λ x m. every_in test t g x (in_remove k x t m))

module _ {K R : Type 0} (cmp : K → K → Ordering) (key : R → K) (O : IsOrder cmp) where
  -- what is found under a key is in the table, and the key is its own
  pub found_in : (k : K) (x : R) (t : List R) → lookup cmp key k t ≡ some x → Memᴰ x t × (key x ≡ k)
  found_in k x [] h = apart (cc)
  found_in k x (y ∷ t) h =
      by-order
      (cmp k (key y))
      (λ e. apart (cc))
      (λ e. let f : x ≡ y = cc in (Memᴰ.head f, rw f (sym (O.only k (key y) e))))
      (λ e. let m = found_in k x t (rw e at h) in (Memᴰ.tail m.0, m.1))

  below_all : (k : K) (x : R) (t : List R) → Below cmp key k t → Sorted cmp key t → Memᴰ x t → cmp k (key x) ≡ Ordering.lt
  below_all k x [] b s m = absurd (Memᴰ.not-nil m)
  below_all k x (y ∷ t) b s m =
      ⊎_elim
      (λ f. rw f b)
      (λ n. below_all k x t (below-trans cmp key O k (key y) t b s.0) s.1 n)
      (Memᴰ.cases_cons m)

  -- what is in a sorted table is found under its key
  pub in-found : (x : R) (t : List R) → Sorted cmp key t → Memᴰ x t → lookup cmp key (key x) t ≡ some x
  in-found x [] s m = absurd (Memᴰ.not-nil m)
  in-found x (y ∷ t) s m =
      ⊎_elim
      (λ f. let tie : cmp (key x) (key y) ≡ Ordering.eq = ap (λ (z : R). cmp (key z) (key y)) f ∙ O.same (key y) in rw tie (ap some (sym f)))
      (λ n.
      let later : cmp (key x) (key y) ≡ Ordering.gt = O.flip (key y) (key x) ∙ rw (below_all (key y) x t s.0 s.1 n) in
      rw later (in-found x t s.1 n))
      (Memᴰ.cases_cons m)
