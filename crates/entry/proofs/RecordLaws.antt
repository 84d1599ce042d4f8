-- Fields of fixed widths, one behind the other: how long they are, that reading and writing them undo one another, and how they are
-- written into a buffer one after the other, for any list of widths; and that a record is its head and the value behind it. Assumes nothing.
use mathlib.Core.Path.{◌≡◌, refl, sym, ap, ap₂, ◌∙◌}
use mathlib.Core.List.{List, [], ◌∷◌, ◌++◌, append_assoc, map}
use Prim.Native.Nat.{ℕ, ◌+◌, ◌^◌, ◌<◌, ◌≤◌}
use native.Mathlib.Omega.{arith}
use native.Mathlib.Numerals.{add-one}
use lib.ListN.{length, get_or, take, drop, length-append, drop_of_length-le}
use lib.Seq.{take-add, drop-cons, drop-drop}
use Rattle.octets.specs.Number.{octets_of}
use Rattle.octets.specs.Store.{stored}
use Rattle.octets.proofs.Facts.{Octets}
use Rattle.octets.proofs.NumberLaws.{length-octets_of, number-octets, octets-number}
use Rattle.octets.proofs.StoreLaws.{stored-none, stored-then, length-stored}
use Rattle.action.specs.Actions.{values_of}
use Rattle.entry.specs.Entry.{Entry}
use Rattle.std.proofs.lemmas.List.{get_or-map, length-map}
use Rattle.entry.specs.Record.{head_widths, width_of, head_cost, written_fields, written, read_fields, spare, head_numbers, record_of}

-- as many numbers as widths, each within its width
abbrev pub Fit : List ℕ → List ℕ → Type 0
Fit [] [] = Unit {0}
Fit [] (n ∷ ns) = ⊥
Fit (w ∷ ws) [] = ⊥
Fit (w ∷ ws) (n ∷ ns) = (n < 256 ^ w) × Fit ws ns

pub length-written : (ws ns : List ℕ) → length ns ≡ length ws → length (written_fields ws ns) ≡ width_of ws
unfolding written_fields
length-written [] ns h = refl
length-written (w ∷ ws) [] h = absurd (omega arith)
length-written (w ∷ ws) (n ∷ ns) h = simp length-append (omega (arith, length-octets_of w n, length-written ws ns (omega arith)))

-- fields that are written, within any octets, are read again
pub fields_back : (p ws ns s : List ℕ) → Fit ws ns → read_fields ws (p ++ written_fields ws ns ++ s) (length p) ≡ ns
unfolding read_fields written_fields
fields_back p [] [] s f = refl
fields_back p [] (n ∷ ns) s f = absurd f
fields_back p (w ∷ ws) [] s f = absurd f
fields_back p (w ∷ ws) (n ∷ ns) s f =
    let q : List ℕ = p ++ octets_of w n in
    let r : List ℕ = written_fields ws ns in
    let first : p ++ (octets_of w n ++ r) ++ s ≡ p ++ octets_of w n ++ (r ++ s) = simp append_assoc in
    let rest : p ++ (octets_of w n ++ r) ++ s ≡ q ++ r ++ s = simp append_assoc in
    let l : length p + w ≡ length q = simp length-append (omega (arith, length-octets_of w n)) in
    ap₂ (λ (m : ℕ) (ms : List ℕ). m ∷ ms)
    (rw first (number-octets p w n (r ++ s) f.0))
    (rw (rest, l) (fields_back q ws ns s f.1))

-- fields that are read are written as they stood
pub back_fields : (ws s : List ℕ) (at : ℕ) → Octets s → at + width_of ws ≤ length s → written_fields ws (read_fields ws s at) ≡ take (width_of ws) (drop at s)
unfolding read_fields written_fields
back_fields [] s at o h = refl
back_fields (w ∷ ws) s at o h =
    rw (octets-number w s at o (omega arith), back_fields ws s (at + w) o (omega arith), ← drop-drop w at s)
    (sym (take-add w (width_of ws) (drop at s)))

-- the first i fields are written, and what is left to write gives the same
pub record WritingFields (ws ns start b : List ℕ) (at i place : ℕ) : Type 0 where
  pub within : i ≤ length ws
  pub long : length b ≡ length start
  pub room : place + length (written_fields (drop i ws) (drop i ns)) ≤ length b
  pub gives : stored start at (written_fields ws ns) ≡ stored b place (written_fields (drop i ws) (drop i ns))

pub writing-starts : (ws ns b : List ℕ) (at : ℕ) → at + length (written_fields ws ns) ≤ length b → WritingFields ws ns b b at 0 at
writing-starts ws ns b at h = record { within = omega arith; long = refl; room = h; gives = refl }

module _ (ws ns start b : List ℕ) (at i place : ℕ) (f : WritingFields ws ns start b at i place) (inside : i < length ws) (same : length ws ≡ length ns) where
  abbrev left : List ℕ
  left = written_fields (drop (i + 1) ws) (drop (i + 1) ns)

  one_field : written_fields (drop i ws) (drop i ns) ≡ octets_of (get_or ws i 0) (get_or ns i 0) ++ left
  unfolding written_fields
  one_field = rw (drop-cons ws i 0 inside, drop-cons ns i 0 (omega arith), add-one)

  pub field_room : place + get_or ws i 0 ≤ length b
  field_room =
      let r : place + length (octets_of (get_or ws i 0) (get_or ns i 0) ++ left) ≤ length b = rw one_field at f.room in
      omega (arith, simp length-append at r, length-octets_of (get_or ws i 0) (get_or ns i 0))

  pub writing-on : (c : List ℕ) → c ≡ stored b place (octets_of (get_or ws i 0) (get_or ns i 0)) → WritingFields ws ns start c at (i + 1) (place + get_or ws i 0)
  writing-on c is =
      let s : List ℕ = octets_of (get_or ws i 0) (get_or ns i 0) in
      let l : length s ≡ get_or ws i 0 = length-octets_of (get_or ws i 0) (get_or ns i 0) in
      let here = field_room in
      let kept : length c ≡ length b = ap length is ∙ length-stored b place s (omega arith) in
      let r : place + length (s ++ left) ≤ length b = rw one_field at f.room in
      let n = simp length-append at r in
      record {
        within = omega arith;
        long = kept ∙ f.long;
        room = omega arith;
        gives = f.gives ∙ rw (one_field, is) (sym (stored-then b place s left (omega arith)) ∙ ap (λ n. stored (stored b place s) (place + n) left) l);
      }

pub written_all : (ws ns start b : List ℕ) (at i place : ℕ) → WritingFields ws ns start b at i place → length ws ≤ i → b ≡ stored start at (written_fields ws ns)
unfolding written_fields
written_all ws ns start b at i place f h = sym (f.gives ∙ rw (drop_of_length-le ws h) (stored-none b place))

-- the same where width and number of each field stand in pairs
module _ (fs : List (ℕ × ℕ)) (start b : List ℕ) (at i place : ℕ)
    (f : WritingFields (map (λ (f : ℕ × ℕ). f.0) fs) (map (λ (f : ℕ × ℕ). f.1) fs) start b at i place) where
  module _ (here : i < length fs) where
    abbrev pair : ℕ × ℕ
    pair = get_or fs i (0, 0)

    width-there : get_or (map (λ (f : ℕ × ℕ). f.0) fs) i 0 ≡ pair.0
    width-there = get_or-map (λ (f : ℕ × ℕ). f.0) fs i (0, 0) 0 here

    number-there : get_or (map (λ (f : ℕ × ℕ). f.1) fs) i 0 ≡ pair.1
    number-there = get_or-map (λ (f : ℕ × ℕ). f.1) fs i (0, 0) 0 here

    inside : i < length (map (λ (f : ℕ × ℕ). f.0) fs)
    inside = omega (arith, length-map fs (λ (f : ℕ × ℕ). f.0))

    same : length (map (λ (f : ℕ × ℕ). f.0) fs) ≡ length (map (λ (f : ℕ × ℕ). f.1) fs)
    same = length-map fs (λ (f : ℕ × ℕ). f.0) ∙ sym (length-map fs (λ (f : ℕ × ℕ). f.1))

    pub pair-room : place + pair.0 ≤ length b
    pair-room = rw width-there at (field_room _ _ start b at i place f inside same)

    pub pair-on : (c : List ℕ) → c ≡ stored b place (octets_of pair.0 pair.1)
        → WritingFields (map (λ (f : ℕ × ℕ). f.0) fs) (map (λ (f : ℕ × ℕ). f.1) fs) start c at (i + 1) (place + pair.0)
    pair-on c is = rw width-there at (writing-on _ _ start b at i place f inside same c (rw (width-there, number-there) is))

  pub pairs-all : length fs ≤ i → b ≡ stored start at (written fs)
  pairs-all h = written_all _ _ start b at i place f (omega (arith, length-map fs (λ (f : ℕ × ℕ). f.0)))

-- how `write_record` comes to its record: there is room for the head, and the value is stored right behind it
pub head-room : (at size room : ℕ) (numbers : List ℕ) → length numbers ≡ length head_widths → at + (head_cost + size) ≤ room
    → at + length (written_fields head_widths numbers) ≤ room
head-room at size room numbers n h = omega (arith, length-written head_widths numbers n)

pub record-stored : (t head all values : List ℕ) (at : ℕ) (e : Entry) → values ≡ values_of e.actions → at + (head_cost + length e.value) ≤ length t
    → head
    ≡ stored t at
    (written_fields head_widths
    (length e.value ∷ e.origin.originator ∷ get_or values 0 0 ∷ get_or values 1 0 ∷ get_or values 2 0 ∷ get_or values 3 0 ∷ get_or values 4 0 ∷ get_or values 5 0 ∷ spare))
    → all ≡ stored head (at + head_cost) e.value → all ≡ stored t at (record_of e)
unfolding record_of head_numbers
record-stored t head all values at e is room h k =
    let w : List ℕ = written_fields head_widths (head_numbers e) in
    let l : length w ≡ head_cost = length-written head_widths (head_numbers e) refl in
    k ∙ rw (h, is) (ap (λ n. stored (stored t at w) (at + n) e.value) (sym l) ∙ stored-then t at w e.value (omega arith))
