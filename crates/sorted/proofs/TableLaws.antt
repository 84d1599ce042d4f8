-- The laws of tables: inserting and removing keep the order, what is found afterwards, and that what is found at every key settles the
-- table. Assumes nothing.
use mathlib.Core.Path.{◌≡◌, refl, ap, ap₂, sym, ◌∙◌}
use mathlib.Core.Bool.{true}
use mathlib.Core.List.{List, [], ◌∷◌}
use mathlib.Core.Option.{none, some}
use Prim.Native.Nat.{Ordering}
use Rattle.octets.proofs.Cases.{by-test, apart}
use Rattle.octets.proofs.OrderLaws.{IsOrder}
use Rattle.sorted.specs.Table.{by_order, lookup, insert, remove, Below, Sorted, below, sorted}
use Rattle.sorted.proofs.Cases.{by-order, turned}

module _ {K R : Type 0} (cmp : K → K → Ordering) (key : R → K) where
  -- the test says what the claim says
  pub below-test : (k : K) (t : List R) → below cmp key k t ≡ true → Below cmp key k t
  below-test k [] e = tt
  below-test k (x ∷ t) e = by-order (cmp k (key x)) (λ f. f) (λ f. cc) (λ f. cc)

  pub test_below : (k : K) (t : List R) → Below cmp key k t → below cmp key k t ≡ true
  test_below k [] b = refl
  test_below k (x ∷ t) b = rw b

  pub sorted-test : (t : List R) → sorted cmp key t ≡ true → Sorted cmp key t
  sorted-test [] e = tt
  sorted-test (x ∷ t) e =
      by-test (below cmp key (key x) t) (λ f. (below-test (key x) t f, sorted-test t (rw f at e))) (λ f. apart (cc))

  pub test-sorted : (t : List R) → Sorted cmp key t → sorted cmp key t ≡ true
  test-sorted [] s = refl
  test-sorted (x ∷ t) s = rw (test_below (key x) t s.0) (test-sorted t s.1)

  -- a key before all records is not found
  pub below_none : (k : K) (t : List R) → Below cmp key k t → lookup cmp key k t ≡ none
  below_none k [] b = refl
  below_none k (x ∷ t) b = rw b

  -- removing a key that is not held changes nothing
  pub remove_absent : (k : K) (t : List R) → lookup cmp key k t ≡ none → remove cmp key k t ≡ t
  remove_absent k [] e = refl
  remove_absent k (x ∷ t) e =
      by-order (cmp k (key x)) (λ f. rw f) (λ f. apart (cc)) (λ f. rw f (ap (λ (u : List R). x ∷ u) (remove_absent k t (rw f at e))))

module _ {K R : Type 0} (cmp : K → K → Ordering) (key : R → K) (O : IsOrder cmp) where
  -- after an insertion the record is found under its key, and under every other key what was found before
  pub lookup-insert : (k : K) (r : R) (t : List R)
      → lookup cmp key k (insert cmp key r t) ≡ by_order (cmp k (key r)) (lookup cmp key k t) (some r) (lookup cmp key k t)
  lookup-insert k r [] = refl
  lookup-insert k r (x ∷ t) =
      by-order
      (cmp (key r) (key x))
      (λ e. by-order (cmp k (key r)) (λ f. rw (e, f, O.trans k (key r) (key x) f e)) (λ f. rw (e, f)) (λ f. rw (e, f)))
      (λ e. let same = O.only (key r) (key x) e in by-order (cmp k (key r)) (λ f. rw (e, ← same, f)) (λ f. rw (e, ← same, f)) (λ f. rw (e, ← same, f)))
      (λ e.
      let later = turned cmp O (key r) (key x) e in
      by-order
      (cmp k (key x))
      (λ f. rw (e, f, O.trans k (key x) (key r) f later))
      (λ f. rw (e, f, O.only k (key x) f, later))
      (λ f. rw (e, f) (lookup-insert k r t)))

  -- what comes before a key that comes before all records comes before them too
  pub below-trans : (j k : K) (t : List R) → cmp j k ≡ Ordering.lt → Below cmp key k t → Below cmp key j t
  below-trans j k [] e b = tt
  below-trans j k (x ∷ t) e b = O.trans j k (key x) e b

  below-insert : (k : K) (r : R) (t : List R) → cmp k (key r) ≡ Ordering.lt → Below cmp key k t → Below cmp key k (insert cmp key r t)
  below-insert k r [] h b = h
  below-insert k r (x ∷ t) h b = by-order (cmp (key r) (key x)) (λ e. rw e h) (λ e. rw e h) (λ e. rw e b)

  pub insert-sorted : (r : R) (t : List R) → Sorted cmp key t → Sorted cmp key (insert cmp key r t)
  insert-sorted r [] s = (tt, tt)
  insert-sorted r (x ∷ t) s =
      by-order
      (cmp (key r) (key x))
      (λ e. rw e (e, s))
      (λ e. rw e (rw (O.only (key r) (key x) e) s.0, s.1))
      (λ e. rw e (below-insert (key x) r t (turned cmp O (key r) (key x) e) s.0, insert-sorted r t s.1))

  below-remove : (k j : K) (t : List R) → Sorted cmp key t → Below cmp key k t → Below cmp key k (remove cmp key j t)
  below-remove k j [] s b = tt
  below-remove k j (x ∷ t) s b = by-order (cmp j (key x)) (λ e. rw e b) (λ e. rw e (below-trans k (key x) t b s.0)) (λ e. rw e b)

  pub remove-sorted : (k : K) (t : List R) → Sorted cmp key t → Sorted cmp key (remove cmp key k t)
  remove-sorted k [] s = tt
  remove-sorted k (x ∷ t) s =
      by-order
      (cmp k (key x))
      (λ e. rw e s)
      (λ e. rw e s.1)
      (λ e. rw e (below-remove (key x) k t s.1 s.0, remove-sorted k t s.1))

  -- after a removal nothing is found under the key, and under every other key what was found before
  pub lookup-remove : (k j : K) (t : List R) → Sorted cmp key t
      → lookup cmp key k (remove cmp key j t) ≡ by_order (cmp k j) (lookup cmp key k t) none (lookup cmp key k t)
  lookup-remove k j [] s = by-order (cmp k j) (λ f. rw f) (λ f. rw f) (λ f. rw f)
  lookup-remove k j (x ∷ t) s =
      by-order
      (cmp j (key x))
      (λ e. by-order (cmp k j) (λ f. rw (e, f)) (λ f. rw (e, f, O.only k j f, e)) (λ f. rw (e, f)))
      (λ e.
      let same = O.only j (key x) e in
      by-order
      (cmp k (key x))
      (λ f. rw (e, same, f) (below_none cmp key k t (below-trans k (key x) t f s.0)))
      (λ f. rw (e, same, f, O.only k (key x) f) (below_none cmp key (key x) t s.0))
      (λ f. rw (e, same, f)))
      (λ e.
      let later = turned cmp O j (key x) e in
      by-order
      (cmp k (key x))
      (λ f. rw (e, f, O.trans k (key x) j f later))
      (λ f. rw (e, f, O.only k (key x) f, later))
      (λ f. rw (e, f) (lookup-remove k j t s.1)))

  -- two sorted tables in which the same is found at every key are equal
  pub same-table : (s t : List R) → Sorted cmp key s → Sorted cmp key t → ((k : K) → lookup cmp key k s ≡ lookup cmp key k t) → s ≡ t
  same-table [] [] p q f = refl
  same-table [] (y ∷ t) p q f = let e = f (key y) in let g = O.same (key y) in apart (cc)
  same-table (x ∷ s) [] p q f = let e = f (key x) in let g = O.same (key x) in apart (cc)
  same-table (x ∷ s) (y ∷ t) p q f =
      by-order
      (cmp (key x) (key y))
      (λ e. let a = f (key x) in let b = O.same (key x) in apart (cc))
      (λ e.
      let same = O.only (key x) (key y) e in
      let one : x ≡ y = let a = f (key x) in let b = O.same (key x) in cc in
      ap₂ (λ (a : R) (l : List R). a ∷ l) one (same-table s t p.1 q.1 (rest same)))
      (λ e. let a = f (key y) in let b = O.same (key y) in let c = turned cmp O (key x) (key y) e in apart (cc))
    where
      rest : key x ≡ key y → (k : K) → lookup cmp key k s ≡ lookup cmp key k t
      rest same k =
          by-order
          (cmp k (key x))
          (λ e. below_none cmp key k s (below-trans k (key x) s e p.0) ∙ sym (below_none cmp key k t (below-trans k (key y) t (rw same at e) q.0)))
          (λ e. let i = O.only k (key x) e in rw i (below_none cmp key (key x) s p.0 ∙ rw same (sym (below_none cmp key (key y) t q.0))))
          (λ e. let g = f k in let d : cmp k (key y) ≡ Ordering.gt = rw same at e in cc)

  -- of two insertions under one key the later stands; the same record a second time changes nothing
  pub insert-again : (r x : R) (t : List R) → key r ≡ key x → insert cmp key r (insert cmp key x t) ≡ insert cmp key r t
  insert-again r x [] same = rw (same, O.same (key x))
  insert-again r x (y ∷ t) same =
      let tie : cmp (key r) (key x) ≡ Ordering.eq = rw same (O.same (key x)) in
      by-order
      (cmp (key x) (key y))
      (λ e. let f : cmp (key r) (key y) ≡ Ordering.lt = rw same e in rw (e, f, tie))
      (λ e. let f : cmp (key r) (key y) ≡ Ordering.eq = rw same e in rw (e, f, tie))
      (λ e. let f : cmp (key r) (key y) ≡ Ordering.gt = rw same e in rw (e, f) (ap (λ (u : List R). y ∷ u) (insert-again r x t same)))

  -- inserting and then removing under one key is removing
  pub remove-insert : (r : R) (t : List R) → remove cmp key (key r) (insert cmp key r t) ≡ remove cmp key (key r) t
  remove-insert r [] = rw (O.same (key r))
  remove-insert r (x ∷ t) =
      by-order
      (cmp (key r) (key x))
      (λ e. rw (e, O.same (key r)))
      (λ e. rw (e, O.same (key r)))
      (λ e. rw (e, e) (ap (λ (u : List R). x ∷ u) (remove-insert r t)))

  -- the order of two insertions under different keys does not matter
  pub insert-swap : (r x : R) (t : List R) → Sorted cmp key t → (key r ≡ key x → ⊥)
      → insert cmp key r (insert cmp key x t) ≡ insert cmp key x (insert cmp key r t)
  insert-swap r x t s apart-keys =
      same-table
      (insert cmp key r (insert cmp key x t))
      (insert cmp key x (insert cmp key r t))
      (insert-sorted r (insert cmp key x t) (insert-sorted x t s))
      (insert-sorted x (insert cmp key r t) (insert-sorted r t s))
      (λ k. rw (lookup-insert k r (insert cmp key x t), lookup-insert k x (insert cmp key r t), lookup-insert k x t, lookup-insert k r t) (at k))
    where
      at : (k : K)
          → by_order (cmp k (key r)) (by_order (cmp k (key x)) (lookup cmp key k t) (some x) (lookup cmp key k t)) (some r) (by_order (cmp k (key x)) (lookup cmp key k t) (some x) (lookup cmp key k t))
          ≡ by_order (cmp k (key x)) (by_order (cmp k (key r)) (lookup cmp key k t) (some r) (lookup cmp key k t)) (some x) (by_order (cmp k (key r)) (lookup cmp key k t) (some r) (lookup cmp key k t))
      at k =
          by-order
          (cmp k (key r))
          (λ e. by-order (cmp k (key x)) (λ f. rw (e, f)) (λ f. rw (e, f)) (λ f. rw (e, f)))
          (λ e. by-order (cmp k (key x)) (λ f. rw (e, f)) (λ f. absurd (apart-keys (sym (O.only k (key r) e) ∙ O.only k (key x) f))) (λ f. rw (e, f)))
          (λ e. by-order (cmp k (key x)) (λ f. rw (e, f)) (λ f. rw (e, f)) (λ f. rw (e, f)))
