-- The entries of a table as its octets have them: where a record's value stands, what a record costs, and that entries are ordered as
-- their plain values are. Assumes nothing.
use mathlib.Core.Path.{◌≡◌, sym, ap₂, ◌∙◌}
use mathlib.Core.Bool.{true}
use mathlib.Core.List.{List, [], ◌∷◌, map}
use Prim.Native.Nat.{ℕ, zero, suc, ◌+◌, ◌-◌, ◌^◌, ◌≤◌}
use native.Mathlib.Omega.{arith}
use native.Mathlib.Nat.{sub-zero}
use lib.Dec.{ltb}
use lib.ListN.{length, take, drop, length-take, length-drop}
use lib.Seq.{drop-drop, take-nil}
use Rattle.octets.proofs.Cases.{both}
use Rattle.octets.proofs.Facts.{Octets}
use Rattle.octets.proofs.NumberLaws.{number-part}
use Rattle.rule.specs.declared.Family.{Family}
use Rattle.rule.specs.Family.{Fits}
use Rattle.rule.specs.Value.{between}
use Rattle.order.specs.Precedence.{plain_order, precedence}
use Rattle.order.specs.Key.{keys_of, key_order}
use Rattle.order.proofs.KeyLaws.{one-order}
use Rattle.action.specs.Possible.{could_be}
use Rattle.entry.specs.Entry.{Entry, plain_value, possible}
use Rattle.entry.specs.Record.{length_width, head_cost, entry_of, Measured, good_record}
use Rattle.table.specs.Walk.{record_at, records_from}
use Rattle.table.specs.Sound.{cost}
use Rattle.entry.proofs.CodecLaws.{good-possible}
use Rattle.entry.proofs.ValueLaws.{held}
use Rattle.table.proofs.WalkLaws.{was-found}
use Rattle.std.proofs.Common.{Ok, Some}

-- the entries from a place on
abbrev pub entries_from : List ℕ → ℕ → List Entry
entries_from t at = map entry_of (records_from t at).items

drop-take : (m n : ℕ) (l : List ℕ) → drop m (take n l) ≡ take (n - m) (drop m l)
drop-take zero n l = rw (sub-zero n)
drop-take (suc m) zero l = let z : 0 - suc m ≡ 0 = omega arith in rw z
drop-take (suc m) (suc n) [] = sym (take-nil (suc n - suc m))
drop-take (suc m) (suc n) (x ∷ l) = let e : suc n - suc m ≡ n - m = omega arith in rw e (drop-take m n l)

module _ (t : List ℕ) (at next : ℕ) (found : record_at t at ≡ Ok (Some next)) where
  bounds : (at + head_cost ≤ next) × (next ≤ length t) × (at ≤ length t)
  bounds =
      let f = was-found t at next found in
      let s = f.size in
      let w = f.within in
      let n = f.some in
      (omega arith, omega arith, omega arith)

  -- the value of a record stands behind its head
  pub value_there : (entry_of (between t at next)).value ≡ between t (at + head_cost) next
  unfolding entry_of
  value_there =
      let e : next - at - head_cost ≡ next - (at + head_cost) = omega arith in
      drop-take head_cost (next - at) (drop at t) ∙ rw (drop-drop head_cost at t, e)

  pub length-there : length (between t at next) ≡ next - at
  length-there = simp (length-take, length-drop) (omega (arith, bounds))

  -- a record is as long as its length field says
  pub measured-there : Measured (between t at next)
  measured-there =
      let f = was-found t at next found in
      let size = f.size in
      let number = number-part length_width (next - at) at t (omega arith) in
      let long = length-there in
      omega arith

  -- a record costs what it takes
  pub cost-there : at + cost (entry_of (between t at next)) ≡ next
  unfolding entry_of
  cost-there = simp (length-drop, length-there) (omega (arith, bounds))

-- two plain values are ordered as their keys are
pub plain-order : (family : Family) → Fits family → (v w : List ℕ) → Octets v → Octets w → plain_value family v ≡ true → plain_value family w ≡ true
    → plain_order family v w ≡ key_order (keys_of family v) (keys_of family w)
unfolding precedence
plain-order family fits v w o p h k =
    let a = held family v h in
    let b = held family w k in
    ap₂ (plain_order family) (sym a.spelled) (sym b.spelled) ∙ one-order family fits v w o p

-- what a record that could be says of its entry's value
pub good-value : (family : Family) (r : List ℕ) → good_record family r ≡ true → plain_value family (entry_of r).value ≡ true
unfolding possible
good-value family r e =
    let p = good-possible family r e in
    (both (could_be (entry_of r).actions) (plain_value family (entry_of r).value) (both (ltb (entry_of r).origin.originator (2 ^ 32)) _ p).1).1
