-- What a change to a buffer leaves: octets stored, cleared, cut out, or moved up from a gap. Assumes nothing.
use mathlib.Core.Path.{◌≡◌, ap, sym, ◌∙◌}
use mathlib.Core.List.{List, [], ◌∷◌, ◌++◌, append_assoc, append-nil}
use Prim.Native.Nat.{ℕ, suc, ◌+◌, ◌-◌, ◌<◌, ◌≤◌, min}
use native.Mathlib.Omega.{arith}
use native.Mathlib.Nat.{add-zero}
use native.Mathlib.Decide.{dec_lt}
use native.Mathlib.Numerals.{add-one}
use lib.ListN.{length, get_or, set, take, drop, replicate, length-append, length-take, length-drop, take-append-drop, drop_of_length-le}
use lib.Seq.{paste, paste-suc, take-length, take_all, take_at, drop_at, take-append-le, length-take-le, take-take, drop-cons, take-set-le, drop-set-lt, get_or-set_same, lt-length-set, drop-append-add, drop-drop}
use borrow.Rule.Slice.PartMut.{put_mid}
use Rattle.std.specs.List.{copy_within}
use Rattle.octets.specs.Store.{stored, cleared, cut_out, gap_opened}

-- storing, from the first octet on
pub paste_more : (b d : List ℕ) (at : ℕ) (s : List ℕ) (i v : ℕ) → at + i < length d → i < length s → b ≡ paste d at s i → v ≡ get_or s i 0
    → set b (at + i) v ≡ paste d at s (i + 1)
paste_more b d at s i v h k e f = rw (e, f, add-one) (paste-suc d at s i 0 h k)

pub paste_all : (b d : List ℕ) (at : ℕ) (s : List ℕ) (i : ℕ) → i ≡ length s → b ≡ paste d at s i → b ≡ stored d at s
unfolding stored
paste_all b d at s i h e = e ∙ rw (h, take-length s)

-- what stands from the place of a store on
drop-set-here : (b : List ℕ) (i v : ℕ) → i < length b → drop i (set b i v) ≡ v ∷ drop (suc i) b
drop-set-here b i v h = rw (drop-cons (set b i v) i 0 (lt-length-set b i v h), get_or-set_same b i v 0 h, drop-set-lt (suc i) b i v (omega arith))

-- storing, from the last octet on
pub stored_last : (b : List ℕ) (at : ℕ) (s : List ℕ) (v : ℕ) → at + length s < length b
    → stored b at (s ++ (v ∷ [])) ≡ stored (set b (at + length s) v) at s
unfolding stored
stored_last b at s v h =
    let e : at + length (s ++ (v ∷ [])) ≡ suc (at + length s) = simp length-append (omega arith) in
    rw (e, drop-set-here b (at + length s) v h, take-set-le at b (at + length s) v (omega arith)) (simp append_assoc)

-- two stores in a row, the second right behind the first
pub stored-then : (b : List ℕ) (at : ℕ) (s t : List ℕ) → at + length s ≤ length b → stored (stored b at s) (at + length s) t ≡ stored b at (s ++ t)
unfolding stored
stored-then b at s t h =
    let front : List ℕ = take at b ++ s in
    let l : length front ≡ at + length s = simp length-append (omega (arith, length-take-le at b (omega arith))) in
    let behind : drop (at + length s + length t) (front ++ drop (at + length s) b) ≡ drop (at + length s + length t) b
    = ap (λ n. drop (n + length t) (front ++ drop (at + length s) b)) (sym l)
    ∙ drop-append-add front (drop (at + length s) b) (length t) ∙ drop-drop (length t) (at + length s) b in
    let end : at + length s + length t ≡ at + (length s + length t) = omega arith in
    rw (take_at front (drop (at + length s) b) (at + length s) l, behind) (simp (length-append, append_assoc) (rw end))

pub length-stored : (b : List ℕ) (at : ℕ) (s : List ℕ) → at + length s ≤ length b → length (stored b at s) ≡ length b
unfolding stored
length-stored b at s h = simp (length-append, length-take, length-drop) (omega arith)

pub stored-none : (b : List ℕ) (at : ℕ) → stored b at [] ≡ b
unfolding stored
stored-none b at = rw (add-zero, append-nil) (take-append-drop at b)

-- a place that may lie past the end, and the end in place of it
take-within : (b : List ℕ) (from start : ℕ) → start ≡ min from (length b) → take start b ≡ take from b
take-within b from start e =
    elim (dec_lt (length b) from) [
      | yes l ↦ let k : start ≡ length b = omega arith in rw (k, take-length b, take_all from b (omega arith))
      | no g ↦ let k : start ≡ from = omega arith in rw k
    ]

pub drop-within : (b : List ℕ) (from start : ℕ) → start ≡ min from (length b) → drop start b ≡ drop from b
drop-within b from start e =
    elim (dec_lt (length b) from) [
      | yes l ↦
          let here : length b ≤ start = omega arith in
          let past : length b ≤ from = omega arith in
          drop_of_length-le b here ∙ sym (drop_of_length-le b past)
      | no g ↦ let k : start ≡ from = omega arith in rw k
    ]

-- clearing: a part of the buffer that was filled with zeros
pub put-cleared : (b : List ℕ) (from start n : ℕ) (t : List ℕ) → start ≡ min from (length b) → n ≡ length b - start → t ≡ replicate n 0
    → put_mid start n b t ≡ cleared b from
unfolding cleared
put-cleared b from start n t is k e =
    let l : n ≡ length b - from = omega arith in
    let past : length b ≤ start + n = omega arith in
    rw (e, drop-drop n start b, drop_of_length-le b past, append-nil, take-within b from start is, l)

-- all that follows a part, moved down over it
abbrev moved_down : List ℕ → ℕ → ℕ → List ℕ
moved_down b at size = take at b ++ (drop (at + size) b ++ drop (length b - size) b)

moved : (b : List ℕ) (at size : ℕ) → at + size ≤ length b → copy_within b (at + size) (length b) at ≡ moved_down b at size
moved b at size h =
    let n : ℕ = length b - (at + size) in
    let k : at + n ≡ length b - size = omega arith in
    rw (take_all n (drop (at + size) b) (simp length-drop (omega arith)), k) (append_assoc (take at b) (drop (at + size) b) (drop (length b - size) b))

length-moved_down : (b : List ℕ) (at size : ℕ) → at + size ≤ length b → length (moved_down b at size) ≡ length b
length-moved_down b at size h = simp (length-append, length-take, length-drop) (omega arith)

take-moved_down : (b : List ℕ) (at size : ℕ) → at + size ≤ length b → take (length b - size) (moved_down b at size) ≡ take at b ++ drop (at + size) b
take-moved_down b at size h =
    ap (take (length b - size)) (sym (append_assoc (take at b) (drop (at + size) b) (drop (length b - size) b)))
    ∙ take_at (take at b ++ drop (at + size) b) (drop (length b - size) b) (length b - size) (simp (length-append, length-take, length-drop) (omega arith))

-- what is moved down and cleared at the end is cut out
pub cut : (b c d : List ℕ) (at size : ℕ) → d ≡ cleared c (length c - size) → c ≡ copy_within b (at + size) (length b) at → at + size ≤ length b
    → d ≡ cut_out b at size
unfolding cleared cut_out
cut b c d at size f is h =
    let e : c ≡ moved_down b at size = is ∙ moved b at size h in
    let l : length c ≡ length b = ap length e ∙ length-moved_down b at size h in
    let k : length b - (length b - size) ≡ size = omega arith in
    f ∙ rw (l, k, e, take-moved_down b at size h) (append_assoc (take at b) (drop (at + size) b) (replicate size 0))

-- what is moved up opens a gap
pub opened : (b : List ℕ) (at size : ℕ) → at + size ≤ length b → copy_within b at (length b - size) (at + size) ≡ gap_opened b at size
unfolding gap_opened
opened b at size h =
    let n : ℕ = length b - (at + size) in
    let k : length b - size - at ≡ n = omega arith in
    let past : length b ≤ at + size + n = omega arith in
    rw (k, drop_of_length-le b past, append-nil)

-- octets stored in a gap that was opened for them
pub stored-opened : (b : List ℕ) (at : ℕ) (s : List ℕ) → at + length s ≤ length b
    → stored (gap_opened b at (length s)) at s ≡ take at b ++ (s ++ take (length b - (at + length s)) (drop at b))
unfolding stored gap_opened
stored-opened b at s h =
    let r : List ℕ = take (length b - (at + length s)) (drop at b) in
    let k : length (take (at + length s) b) ≡ at + length s = length-take-le (at + length s) b h in
    rw (take-append-le at (take (at + length s) b) r (omega arith), take-take at (at + length s) b (omega arith), drop_at (take (at + length s) b) r (at + length s) k, append_assoc)
