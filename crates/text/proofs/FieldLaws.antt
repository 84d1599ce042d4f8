-- The fields of a line: the first of them and those behind it, and what a search for a mark knows at each turn. Assumes nothing.
use mathlib.Core.Path.{◌≡◌, refl, sym, ◌∙◌}
use mathlib.Core.Bool.{cond}
use mathlib.Core.List.{List, [], ◌∷◌}
use Prim.Native.Nat.{ℕ, suc, ◌+◌, ◌-◌, ◌<◌, ◌≤◌}
use native.Mathlib.Omega.{arith}
use native.Mathlib.Numerals.{add-one}
use native.Mathlib.Decide.{dec_lt}
use lib.Dec.{eqb, ltb, leb-suc-suc}
use lib.ListN.{length, take, drop, length-drop}
use lib.Seq.{drop-drop, take_all}
use Rattle.std.specs.List.{AllWithin, HoldsAt}
use Rattle.std.specs.Option.{MatchOption, unwrap_or}
use Rattle.std.proofs.Common.{Option, ◌≢◌}
use Rattle.std.proofs.lemmas.Iterator.{index_from_first}
use borrow.Author.Tests.{lt-ltb, le-ltb, eq-eqb, ne_eqb}
use Rattle.octets.proofs.Cases.{by-test}
use Rattle.text.specs.Field.{fields, place_of, field_end}

-- the first field of a text, and those behind its tab
fields-first : (t : List ℕ) → fields t ≡ take (place_of 9 t) t ∷ cond (ltb (place_of 9 t) (length t)) (fields (drop (place_of 9 t + 1) t)) []
unfolding fields place_of
fields-first [] = refl
fields-first (x ∷ t) =
    by-test (eqb x 9)
    (λ e. rw (e, lt-ltb 0 (suc (length t)) (omega arith)))
    (λ e. rw (e, fields-first t, add-one (place_of 9 t), add-one (suc (place_of 9 t)), leb-suc-suc (suc (place_of 9 t)) (length t)))

-- the field of a line that begins at a place, and those behind it
pub fields-from : (line : List ℕ) (from end : ℕ) → from ≤ length line → end ≡ field_end line from
    → fields (drop from line) ≡ take (end - from) (drop from line) ∷ cond (ltb end (length line)) (fields (drop (end + 1) line)) []
fields-from line from end h e =
    let b : ℕ = place_of 9 (drop from line) in
    let k : end - from ≡ b = omega arith in
    let l : end + 1 ≡ from + (b + 1) = omega arith in
    let inside : ltb b (length line - from) ≡ ltb end (length line) =
    elim (dec_lt b (length line - from)) [
      | yes m ↦ lt-ltb b (length line - from) m ∙ sym (lt-ltb end (length line) (omega arith))
      | no m ↦ le-ltb b (length line - from) (omega arith) ∙ sym (le-ltb end (length line) (omega arith))
    ]
    in
    fields-first (drop from line) ∙ rw (k, l, drop-drop (b + 1) from line, length-drop from line, inside)

-- a mark stands within its text
pub place-within : (mark : ℕ) (s : List ℕ) → place_of mark s ≤ length s
unfolding place_of
place-within mark [] = omega arith
place-within mark (x ∷ s) = by-test (eqb x mark) (λ e. rw e (omega arith)) (λ e. rw e (omega (arith, place-within mark s)))

-- a field ends at the first tab of the rest of its line
pub field-ends : (line : List ℕ) (from size : ℕ) → from ≤ length line
    → (size ≡ place_of 9 (take (length line - from) (drop from line))) × (size ≤ length (take (length line - from) (drop from line)))
    → (from + size ≡ field_end line from) × (from ≤ from + size) × (from + size ≤ length line)
field-ends line from size h p =
    let rest : take (length line - from) (drop from line) ≡ drop from line = take_all (length line - from) (drop from line) (simp length-drop (omega arith)) in
    let e = rw rest at p.0 in
    let l = simp length-drop at (rw rest at p.1) in
    (rw e, omega arith, omega arith)

-- the first octet that is a mark, as a search finds it
pub mark-found : (mark : ℕ) (s : List ℕ) (found : Option ℕ) (r : ℕ)
    → MatchOption found (AllWithin (λ x. x ≢ mark) s 0 (length s)) (λ i. (i < length s) × HoldsAt (λ x. x ≡ mark) s i × AllWithin (λ x. x ≢ mark) s 0 i)
    → r ≡ unwrap_or found (length s) → (r ≡ place_of mark s) × (r ≤ length s)
unfolding place_of
mark-found mark s found r first is =
    let e : r ≡ place_of mark s =
    is
    ∙ sym (index_from_first (place_of mark) (λ x. x ≡ mark) (λ x. x ≢ mark) refl (λ x s h. rw (eq-eqb x mark h))
    (λ x s h. rw (ne_eqb x mark h) (sym (add-one _))) s found first)
    in
    (e, rw e (place-within mark s))
