-- What a history leaves, given that each of its calls was answered as `apply` answers it (`Ran`): a sorted table that holds exactly the
-- records in force, so that two histories which leave the same in force at every key leave equal tables. A call that is answered 11
-- changes nothing and does not count, so that no law here asks that there be none. Assumes nothing.
use mathlib.Core.Path.{◌≡◌, refl, sym, ◌∙◌}
use mathlib.Core.Bool.{Bool, true, false, cond, ◌&&◌}
use mathlib.Core.List.{List, [], ◌∷◌, ◌++◌, Memᴰ}
use mathlib.Core.Logic.{◌↔◌}
use mathlib.Core.Option.{Option, none, some}
use Prim.Native.Nat.{ℕ, ◌+◌, ◌≤◌, Ordering}
use native.Mathlib.Omega.{arith}
use lib.Dec.{leb, compare_is_eq}
use borrow.Author.Tests.{leb-true}
use Rattle.octets.specs.Test.{every}
use Rattle.octets.proofs.Cases.{by-test}
use Rattle.octets.proofs.OrderLaws.{IsOrder}
use Rattle.sorted.specs.Table.{by_order, lookup, insert, remove, Sorted}
use Rattle.sorted.specs.History.{Op, refuse, announce, withdraw, costs, is_held, counts, in_force, leaves_in_force, is_about, is_counted, last_from, in_force_after, apply, run, Ran}
use Rattle.sorted.proofs.Cases.{by-order}
use Rattle.sorted.proofs.MemberLaws.{every-insert, every-remove, found_in, in-found}
use Rattle.sorted.proofs.TableLaws.{insert-sorted, remove-sorted, lookup-insert, lookup-remove, remove_absent, same-table}

by_tie : {A : Type 0} (o : Ordering) (a b : A) → by_order o a b a ≡ cond (compare_is_eq o) b a
by_tie Ordering.lt a b = refl
by_tie Ordering.eq a b = refl
by_tie Ordering.gt a b = refl

-- where none is held there is no record
pub not-held : {R : Type 0} (o : Option R) → is_held o ≡ false → o ≡ none
not-held none e = refl
not-held (some x) e = cc

-- the room that tables take
pub costs-append : {R : Type 0} (cost : R → ℕ) (s t : List R) → costs cost (s ++ t) ≡ costs cost s + costs cost t
costs-append cost [] t = omega arith
costs-append cost (x ∷ s) t = omega (arith, costs-append cost s t)

pub costs-remove : {K R : Type 0} (cmp : K → K → Ordering) (key : R → K) (cost : R → ℕ) (k : K) (t : List R)
    → costs cost (remove cmp key k t) ≤ costs cost t
costs-remove cmp key cost k [] = omega arith
costs-remove cmp key cost k (x ∷ t) =
    by-order (cmp k (key x)) (λ e. rw e (omega arith)) (λ e. rw e (omega arith)) (λ e. rw e (omega (arith, costs-remove cmp key cost k t)))

-- a record that is announced passes a test
abbrev pub Brings : {K R : Type 0} → (R → Bool) → Op K R → Type 0
Brings test (refuse number) = Unit {0}
Brings test (announce r feasible) = test r ≡ true
Brings test (withdraw k) = Unit {0}

-- one call, whatever the order
module _ {K R : Type 0} (cmp : K → K → Ordering) (key : R → K) (cost : R → ℕ) (room : ℕ) where
  -- a withdrawal leaves the table without its key, also where that is not held
  pub withdraw-removes : (k : K) (t : List R) → (apply cmp key cost room (withdraw k) t).table ≡ remove cmp key k t
  withdraw-removes k t =
      by-test
      (is_held (lookup cmp key k t))
      (λ e. rw e)
      (λ e. rw e (sym (remove_absent cmp key k t (not-held (lookup cmp key k t) e))))

  -- a table that has room for its records has room for those that a call leaves
  pub apply-room : (op : Op K R) (t : List R) → costs cost t ≤ room → costs cost (apply cmp key cost room op t).table ≤ room
  apply-room (refuse number) t h = h
  apply-room (announce r true) t h =
      by-test (leb (costs cost (insert cmp key r t)) room) (λ e. rw e (leb-true (costs cost (insert cmp key r t)) room e)) (λ e. rw e h)
  apply-room (announce r false) t h = omega (arith, costs-remove cmp key cost (key r) t)
  apply-room (withdraw k) t h = rw (withdraw-removes k t) (omega (arith, costs-remove cmp key cost k t))

  -- a test that every record passes, and what is announced too, every record passes afterwards
  pub apply-every : (test : R → Bool) (op : Op K R) (t : List R) → Brings test op → every test t ≡ true
      → every test (apply cmp key cost room op t).table ≡ true
  apply-every test (refuse number) t b g = g
  apply-every test (announce r true) t b g =
      by-test (leb (costs cost (insert cmp key r t)) room) (λ e. rw e (every-insert cmp key test r t b g)) (λ e. rw e g)
  apply-every test (announce r false) t b g = every-remove cmp key test (key r) t g
  apply-every test (withdraw k) t b g = rw (withdraw-removes k t) (every-remove cmp key test k t g)

-- one call, by an order
module _ {K R : Type 0} (cmp : K → K → Ordering) (key : R → K) (cost : R → ℕ) (room : ℕ) (O : IsOrder cmp) where
  removed : (k j : K) (t : List R) → Sorted cmp key t
      → lookup cmp key k (remove cmp key j t) ≡ cond (compare_is_eq (cmp k j)) none (lookup cmp key k t)
  removed k j t s = lookup-remove cmp key O k j t s ∙ by_tie (cmp k j) (lookup cmp key k t) none

  -- a counted call settles what is found under its key, and no call changes what is found under another
  apply-lookup : (k : K) (op : Op K R) (t : List R) → Sorted cmp key t
      → lookup cmp key k (apply cmp key cost room op t).table
      ≡ cond (counts op (apply cmp key cost room op t).answer && is_about cmp key k op) (in_force op) (lookup cmp key k t)
  apply-lookup k (refuse number) t s = refl
  apply-lookup k (announce r true) t s =
      by-test
      (leb (costs cost (insert cmp key r t)) room)
      (λ e. rw e (lookup-insert cmp key O k r t ∙ by_tie (cmp k (key r)) (lookup cmp key k t) (some r)))
      (λ e. rw e)
  apply-lookup k (announce r false) t s = removed k (key r) t s
  apply-lookup k (withdraw j) t s =
      rw (withdraw-removes cmp key cost room j t) (removed k j t s ∙ by-test (is_held (lookup cmp key j t)) (λ e. rw e) (λ e. rw e))

  pub apply-sorted : (op : Op K R) (t : List R) → Sorted cmp key t → Sorted cmp key (apply cmp key cost room op t).table
  apply-sorted (refuse number) t s = s
  apply-sorted (announce r true) t s =
      by-test (leb (costs cost (insert cmp key r t)) room) (λ e. rw e (insert-sorted cmp key O r t s)) (λ e. rw e s)
  apply-sorted (announce r false) t s = remove-sorted cmp key O (key r) t s
  apply-sorted (withdraw k) t s = rw (withdraw-removes cmp key cost room k t) (remove-sorted cmp key O k t s)

-- any history whose calls were answered so
module _ {K R M : Type 0} (cmp : K → K → Ordering) (key : R → K) (cost : R → ℕ) (room : ℕ) (view : M → Op K R) (told : M → ℕ) (O : IsOrder cmp) where
  stands : (b : Bool) (m : M) (before : Option M) (o : Option R) → o ≡ leaves_in_force view before
      → cond b (in_force (view m)) o ≡ leaves_in_force view (cond b (some m) before)
  stands true m before o e = refl
  stands false m before o e = e

  -- from any sorted table in which is found what earlier calls left in force
  run-from : (h : List M) (t : List R) (before : K → Option M) → Ran cmp key cost room view told h t → Sorted cmp key t
      → ((k : K) → lookup cmp key k t ≡ leaves_in_force view (before k))
      → Sorted cmp key (run cmp key cost room view h t)
      × ((k : K) → lookup cmp key k (run cmp key cost room view h t) ≡ leaves_in_force view (last_from cmp key view told (before k) k h))
  run-from [] t before ran s f = (s, f)
  run-from (m ∷ h) t before ran s f =
      run-from
      h
      (apply cmp key cost room (view m) t).table
      (λ k. cond (is_counted cmp key view told k m) (some m) (before k))
      ran.1
      (apply-sorted cmp key cost room O (view m) t s)
      (λ k.
      apply-lookup cmp key cost room O k (view m) t s
      ∙ rw (← ran.0) (stands (is_counted cmp key view told k m) m (before k) (lookup cmp key k t) (f k)))

  module _ (h : List M) (ran : Ran cmp key cost room view told h []) where
    -- after it the table is sorted
    run-sorted : Sorted cmp key (run cmp key cost room view h [])
    run-sorted = (run-from h [] (λ k. none) ran tt (λ k. refl)).0

    -- and under each key is found what the last counted call about it left in force
    pub run-lookup : (k : K) → lookup cmp key k (run cmp key cost room view h []) ≡ in_force_after cmp key view told h k
    run-lookup = (run-from h [] (λ k. none) ran tt (λ k. refl)).1

    -- so that it holds exactly the records in force
    pub run_holds : (x : R) → Memᴰ x (run cmp key cost room view h []) ↔ (in_force_after cmp key view told h (key x) ≡ some x)
    run_holds x = (
      λ m. sym (run-lookup (key x)) ∙ in-found cmp key O x (run cmp key cost room view h []) run-sorted m,
      λ e. (found_in cmp key O (key x) x (run cmp key cost room view h []) (run-lookup (key x) ∙ e)).0,
    )

  -- two histories that leave the same in force at every key leave equal tables
  pub run_agree : (h g : List M) → Ran cmp key cost room view told h [] → Ran cmp key cost room view told g []
      → ((k : K) → in_force_after cmp key view told h k ≡ in_force_after cmp key view told g k)
      → run cmp key cost room view h [] ≡ run cmp key cost room view g []
  run_agree h g ran also f =
      same-table
      cmp
      key
      O
      (run cmp key cost room view h [])
      (run cmp key cost room view g [])
      (run-sorted h ran)
      (run-sorted g also)
      (λ k. run-lookup h ran k ∙ f k ∙ sym (run-lookup g also k))
