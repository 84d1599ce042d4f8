-- A table's octets when a record is cut out, put in or written over: the same change to its list of entries. Assumes nothing.
use mathlib.Core.Path.{◌≡◌, refl, sym, ap, ap₂, ◌∙◌}
use mathlib.Core.List.{List, [], ◌∷◌, ◌++◌, append_assoc}
use Prim.Native.Nat.{ℕ, zero, suc, ◌+◌, ◌-◌, ◌≤◌}
use native.Mathlib.Omega.{arith}
use lib.ListN.{length, take, drop, replicate, length-append, length-drop, length-replicate, replicate-append-replicate, take-append-drop}
use lib.Seq.{take_at, drop_at, take-append-add, take-append-le, drop-append-le, drop-drop, take-add, take-take, length-take-le}
use Rattle.octets.specs.Store.{stored, cut_out, gap_opened}
use Rattle.octets.proofs.StoreLaws.{stored-opened}
use Rattle.sorted.specs.History.{costs}
use Rattle.sorted.proofs.HistoryLaws.{costs-append}
use Rattle.entry.specs.Entry.{Entry}
use Rattle.entry.specs.Record.{record_of}
use Rattle.entry.proofs.CodecLaws.{length-record}
use Rattle.table.specs.Sound.{cost, records_of, table_of}

pub length-joined : (es : List Entry) → length (records_of es) ≡ costs cost es
unfolding records_of
length-joined [] = refl
length-joined (e ∷ es) = length-append (record_of e) (records_of es) ∙ ap₂ (λ a b. a + b) (length-record e) (length-joined es)

pub joined-append : (a b : List Entry) → records_of (a ++ b) ≡ records_of a ++ records_of b
unfolding records_of
joined-append [] b = refl
joined-append (e ∷ a) b = ap (λ (l : List ℕ). record_of e ++ l) (joined-append a b) ∙ sym (append_assoc (record_of e) (records_of a) (records_of b))

pub length-table : (n : ℕ) (es : List Entry) → costs cost es ≤ n → length (table_of n es) ≡ n
unfolding table_of
length-table n es h = simp (length-append, length-joined, length-replicate) (omega arith)

take-zeros : (m k : ℕ) → m ≤ k → take m (replicate {A = ℕ} k 0) ≡ replicate m 0
take-zeros zero k h = refl
take-zeros (suc m) zero h = absurd (omega arith)
take-zeros (suc m) (suc k) h = ap (λ (l : List ℕ). 0 ∷ l) (take-zeros m k (omega arith))

zeros-as-many : (m n : ℕ) → m ≡ n → replicate {A = ℕ} m 0 ≡ replicate n 0
zeros-as-many m n h = ap (λ (k : ℕ). replicate {A = ℕ} k 0) h

drop-zeros : (m k : ℕ) → drop m (replicate {A = ℕ} k 0) ≡ replicate (k - m) 0
drop-zeros zero k = zeros-as-many k (k - 0) (omega arith)
drop-zeros (suc m) zero = zeros-as-many 0 (0 - suc m) (omega arith)
drop-zeros (suc m) (suc k) = drop-zeros m k ∙ zeros-as-many (k - m) (suc k - suc m) (omega arith)

-- a change within the front of a buffer whose rest is zeros is the change in the whole buffer
module _ (b : List ℕ) (used : ℕ) (zeros : drop used b ≡ replicate (length b - used) 0) (at size : ℕ) where
  pub cut-front : at + size ≤ used → used ≤ length b → cut_out (take used b) at size ++ drop used b ≡ cut_out b at size
  unfolding cut_out
  cut-front h k =
      let long = length-take-le used b k in
      let behind : drop (at + size) b ≡ drop (at + size) (take used b) ++ drop used b
      = ap (drop (at + size)) (sym (take-append-drop used b)) ∙ drop-append-le (at + size) (take used b) (drop used b) (omega arith) in
      let part : List ℕ = drop (at + size) (take used b) in
      let spare : List ℕ = replicate (length b - used) 0 in
      let turned : replicate size 0 ++ spare ≡ spare ++ replicate size 0
      = replicate-append-replicate {A = ℕ} size (length b - used) 0 ∙ zeros-as-many (size + (length b - used)) (length b - used + size) (omega arith)
      ∙ sym (replicate-append-replicate {A = ℕ} (length b - used) size 0) in
      rw (take-take at used b (omega arith), behind, zeros)
      (append_assoc (take at b) (part ++ replicate size 0) spare
      ∙ ap (λ (l : List ℕ). take at b ++ l)
      (append_assoc part (replicate size 0) spare ∙ ap (λ (l : List ℕ). part ++ l) turned ∙ sym (append_assoc part spare (replicate size 0))))

  pub gap-front : at ≤ used → used + size ≤ length b → gap_opened (take (used + size) b) at size ++ drop (used + size) b ≡ gap_opened b at size
  unfolding gap_opened
  gap-front h k =
      let long = length-take-le (used + size) b k in
      let moved : used + size - (at + size) ≡ used - at = omega arith in
      let inside : used - at ≤ length (drop at (take (used + size) b)) = simp length-drop (omega arith) in
      let part : take (used - at) (drop at (take (used + size) b)) ≡ take (used - at) (drop at b)
      = sym (ap (λ (l : List ℕ). take (used - at) (drop at l)) (sym (take-append-drop (used + size) b))
      ∙ ap (take (used - at)) (drop-append-le at (take (used + size) b) (drop (used + size) b) (omega arith))
      ∙ take-append-le (used - at) (drop at (take (used + size) b)) (drop (used + size) b) inside) in
      let spare : ℕ = length b - (used + size) in
      let all : length b - (at + size) ≡ used - at + spare = omega arith in
      let here : at + (used - at) ≡ used = omega arith in
      let end : drop (used + size) b ≡ replicate spare 0
      = sym (drop-drop size used b) ∙ ap (drop size) zeros ∙ drop-zeros size (length b - used) ∙ zeros-as-many (length b - used - size) spare (omega arith) in
      let rest : take (length b - (at + size)) (drop at b) ≡ take (used - at) (drop at b) ++ drop (used + size) b
      = rw (all, take-add (used - at) spare (drop at b), drop-drop (used - at) at b, here, zeros, take-zeros spare (length b - used) (omega arith), end) in
      rw (long, take-take (at + size) (used + size) b (omega arith), moved, part, rest) (append_assoc (take (at + size) b) (take (used - at) (drop at b)) (drop (used + size) b))

-- behind the records there are zeros
pub table-rest : (n : ℕ) (es : List Entry) → drop (costs cost es) (table_of n es) ≡ replicate (n - costs cost es) 0
unfolding table_of
table-rest n es = drop_at (records_of es) _ (costs cost es) (length-joined es)

-- the octets of a table from the place behind some of its entries on
module _ (n : ℕ) (f r : List Entry) where
  split : table_of n (f ++ r) ≡ records_of f ++ (records_of r ++ replicate (n - costs cost (f ++ r)) 0)
  unfolding table_of
  split = rw (joined-append f r) (append_assoc (records_of f) (records_of r) (replicate (n - costs cost (f ++ r)) 0))

  pub table-front : take (costs cost f) (table_of n (f ++ r)) ≡ records_of f
  table-front = rw split (take_at (records_of f) _ (costs cost f) (length-joined f))

  pub table-rear : drop (costs cost f) (table_of n (f ++ r)) ≡ records_of r ++ replicate (n - costs cost (f ++ r)) 0
  table-rear = rw split (drop_at (records_of f) _ (costs cost f) (length-joined f))

-- a record in a table: its own octets, and those behind it
module _ (n : ℕ) (f : List Entry) (x : Entry) (r : List Entry) where
  record-rear : drop (costs cost f) (table_of n (f ++ x ∷ r)) ≡ record_of x ++ (records_of r ++ replicate (n - costs cost (f ++ x ∷ r)) 0)
  unfolding records_of
  record-rear = table-rear n f (x ∷ r) ∙ append_assoc (record_of x) (records_of r) _

  pub table-record : take (cost x) (drop (costs cost f) (table_of n (f ++ x ∷ r))) ≡ record_of x
  table-record = rw record-rear (take_at (record_of x) _ (cost x) (length-record x))

  table-behind : drop (costs cost f + cost x) (table_of n (f ++ x ∷ r)) ≡ records_of r ++ replicate (n - costs cost (f ++ x ∷ r)) 0
  table-behind =
      sym (drop-drop (cost x) (costs cost f) (table_of n (f ++ x ∷ r))) ∙ ap (drop (cost x)) record-rear
      ∙ drop_at (record_of x) _ (cost x) (length-record x)

  -- cutting a record out
  pub table-cut : costs cost (f ++ x ∷ r) ≤ n → cut_out (table_of n (f ++ x ∷ r)) (costs cost f) (cost x) ≡ table_of n (f ++ r)
  unfolding cut_out
  table-cut h =
      let c = costs-append cost f (x ∷ r) in
      let d = costs-append cost f r in
      let zeros : n - costs cost (f ++ x ∷ r) + cost x ≡ n - costs cost (f ++ r) = omega arith in
      rw (
        table-front n f (x ∷ r),
        table-behind,
        append_assoc (records_of r) (replicate (n - costs cost (f ++ x ∷ r)) 0) (replicate (cost x) 0),
        replicate-append-replicate {A = ℕ} (n - costs cost (f ++ x ∷ r)) (cost x) 0,
        zeros,
      )
      (sym (split n f r))

  -- writing a record over one that costs as much
  pub table-over : (y : Entry) → cost y ≡ cost x → stored (table_of n (f ++ x ∷ r)) (costs cost f) (record_of y) ≡ table_of n (f ++ y ∷ r)
  unfolding stored records_of
  table-over y same =
      let c = costs-append cost f (x ∷ r) in
      let d = costs-append cost f (y ∷ r) in
      let size : length (record_of y) ≡ cost x = length-record y ∙ same in
      let zeros : n - costs cost (f ++ y ∷ r) ≡ n - costs cost (f ++ x ∷ r) = omega arith in
      rw (size, table-front n f (x ∷ r), table-behind)
      (append_assoc (records_of f) (record_of y) _ ∙ ap (λ (l : List ℕ). records_of f ++ l) (sym (append_assoc (record_of y) (records_of r) _) ∙ rw (← zeros))
      ∙ sym (split n f (y ∷ r)))

-- putting a record in
pub table-put : (n : ℕ) (f : List Entry) (x : Entry) (r : List Entry) → costs cost (f ++ x ∷ r) ≤ n
    → stored (gap_opened (table_of n (f ++ r)) (costs cost f) (cost x)) (costs cost f) (record_of x) ≡ table_of n (f ++ x ∷ r)
unfolding records_of
table-put n f x r h =
    let c = costs-append cost f (x ∷ r) in
    let d = costs-append cost f r in
    let long = length-table n (f ++ r) (omega arith) in
    let size = length-record x in
    let spare = n - costs cost (f ++ x ∷ r) in
    let m : length (table_of n (f ++ r)) - (costs cost f + cost x) ≡ length (records_of r) + spare = omega (arith, length-joined r) in
    let kept : take (length (records_of r) + spare) (drop (costs cost f) (table_of n (f ++ r))) ≡ records_of r ++ replicate spare 0
    = rw (table-rear n f r, take-append-add (records_of r) (replicate (n - costs cost (f ++ r)) 0) spare, take-zeros spare (n - costs cost (f ++ r)) (omega arith)) in
    let opened : stored (gap_opened (table_of n (f ++ r)) (costs cost f) (cost x)) (costs cost f) (record_of x)
    ≡ take (costs cost f) (table_of n (f ++ r))
    ++ (record_of x ++ take (length (table_of n (f ++ r)) - (costs cost f + cost x)) (drop (costs cost f) (table_of n (f ++ r))))
    = rw size at (stored-opened (table_of n (f ++ r)) (costs cost f) (record_of x) (omega arith)) in
    opened
    ∙ rw (m, table-front n f r, kept) (ap (λ (l : List ℕ). records_of f ++ l) (sym (append_assoc (record_of x) (records_of r) (replicate spare 0))) ∙ sym (split n f (x ∷ r)))
