-- Histories: calls that announce records to a table and withdraw keys from it, the oldest first, and what they leave. A call stands as
-- it was made: `view` gives what it asked of the table once its input was read and judged, and `told` the number it was answered with.
-- `cost` is the room that a record takes, and `room` the room that there is. Answers: 0 done, 8 infeasible, 11 no room, 14 not held; a
-- call that was refused before has its own number.
use Prim.Native.Nat.{ℕ, ◌+◌, Ordering}
use Rattle.std.specs.Prelude.{◌≡◌, Bool, true, false, cond, ◌&&◌, ◌||◌, List, [], ◌∷◌, leb, eqb}
use Rattle.std.proofs.Math.Option.{Option, none, some}
use Rattle.std.proofs.Math.Dec.{compare_is_eq}
use Rattle.sorted.specs.Table.{lookup, insert, remove}

-- What a call asks: nothing, since it was refused with a number; to announce a record, which is feasible or not; to withdraw a key.
pub data Op (K R : Type 0) : Type 0 where
  refuse : ℕ → Op K R
  announce : R → Bool → Op K R
  withdraw : K → Op K R

-- What a call leaves.
pub record Outcome (R : Type 0) : Type 0 where
  pub table : List R
  pub answer : ℕ

-- The room that a table takes.
abbrev pub costs : {R : Type 0} → (R → ℕ) → List R → ℕ
costs cost [] = 0
costs cost (x ∷ t) = cost x + costs cost t

-- Whether there is a record.
abbrev pub is_held : {R : Type 0} → Option R → Bool
is_held none = false
is_held (some x) = true

-- 01: "A counted call is an announcement answered 0 or 8, or a withdrawal answered 0 or 14."
abbrev pub counts : {K R : Type 0} → Op K R → ℕ → Bool
counts (refuse number) answer = false
counts (announce r feasible) answer = eqb answer 0 || eqb answer 8
counts (withdraw k) answer = eqb answer 0 || eqb answer 14

-- The record that a call leaves in force under its key: that of a feasible announcement.
abbrev pub in_force : {K R : Type 0} → Op K R → Option R
in_force (refuse number) = none
in_force (announce r true) = some r
in_force (announce r false) = none
in_force (withdraw k) = none

-- The record that the last counted call about a key leaves in force, if there was such a call.
abbrev pub leaves_in_force : {M K R : Type 0} → (M → Op K R) → Option M → Option R
leaves_in_force view none = none
leaves_in_force view (some m) = in_force (view m)

module _ {K R : Type 0} (cmp : K → K → Ordering) (key : R → K) where
  -- Whether a call is about a key: it announces a record under it, or withdraws it.
  abbrev pub is_about : K → Op K R → Bool
  is_about k (refuse number) = false
  is_about k (announce r feasible) = compare_is_eq (cmp k (key r))
  is_about k (withdraw j) = compare_is_eq (cmp k j)

  module _ {M : Type 0} (view : M → Op K R) (told : M → ℕ) where
    -- Whether a call counts and is about a key.
    abbrev pub is_counted : K → M → Bool
    is_counted k m = counts (view m) (told m) && is_about k (view m)

    -- The last counted call about a key, and `before` where a history has none.
    abbrev pub last_from : Option M → K → List M → Option M
    last_from before k [] = before
    last_from before k (m ∷ h) = last_from (cond (is_counted k m) (some m) before) k h

    -- The last counted call about a key in a history, if it has one.
    abbrev pub last_counted : K → List M → Option M
    last_counted k h = last_from none k h

    -- The record in force under a key after a history.
    abbrev pub in_force_after : List M → K → Option R
    in_force_after h k = leaves_in_force view (last_counted k h)

  module _ (cost : R → ℕ) (room : ℕ) where
    -- What a call does to a table. 01: "Refusals change nothing, except that 8 removes a held equal rule"; "no room means exactly that the
    -- costs after the call would pass" the room.
    abbrev pub apply : Op K R → List R → Outcome R
    apply (refuse number) t = record { table = t; answer = number }
    apply (announce r true) t =
        cond (leb (costs cost (insert cmp key r t)) room) (record { table = insert cmp key r t; answer = 0 }) (record { table = t; answer = 11 })
    apply (announce r false) t = record { table = remove cmp key (key r) t; answer = 8 }
    apply (withdraw k) t = cond (is_held (lookup cmp key k t)) (record { table = remove cmp key k t; answer = 0 }) (record { table = t; answer = 14 })

    module _ {M : Type 0} (view : M → Op K R) where
      -- The table after a history that begins at a table.
      abbrev pub run : List M → List R → List R
      run [] t = t
      run (m ∷ h) t = run h (apply (view m) t).table

      -- Each call of a history that begins at a table was told what `apply` answers on the table that the calls before it left.
      abbrev pub Ran : (M → ℕ) → List M → List R → Type 0
      Ran told [] t = Unit {0}
      Ran told (m ∷ h) t = (told m ≡ (apply (view m) t).answer) × Ran told h (apply (view m) t).table
