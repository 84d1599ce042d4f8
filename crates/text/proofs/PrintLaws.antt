-- What printing leaves in a buffer: octet by octet, one text behind another, and from the front on. Assumes nothing.
use mathlib.Core.Path.{◌≡◌, refl, ap, sym, ◌∙◌}
use mathlib.Core.List.{List, [], ◌∷◌, ◌++◌}
use Prim.Native.Nat.{ℕ, suc, ◌+◌, ◌-◌, ◌*◌, ◌/◌, ◌%◌, ◌<◌, ◌≤◌}
use native.Mathlib.Omega.{arith}
use native.Mathlib.Nat.{add-zero, zero-add, sub-zero}
use native.Mathlib.Numerals.{add-one}
use native.Mathlib.Decide.{dec_lt}
use lib.ListN.{length, get_or, set, take, drop, length-set, length-take, drop_of_length-le, replicate, length-replicate, get_or-replicate, get_or-append, get_or-eq_default}
use lib.Seq.{sets, length-sets, sets-eq, set_out, take-nil, take_all, drop-cons, get_or-take, get_or-drop, get_or-append-add}
use Rattle.octets.specs.Number.{number_at}
use Rattle.octets.specs.Store.{stored}
use Rattle.octets.proofs.NumberLaws.{number-alike}
use Rattle.octets.proofs.StoreLaws.{stored-none}
use Rattle.text.specs.Hex.{hex_value, hex_digit, octets_in, hex_of}
use Rattle.text.specs.Print.{laid}
use Rattle.text.proofs.HexLaws.{octets-next}

-- past the buffer's end nothing is set
sets-out : (t b : List ℕ) (at : ℕ) → length b ≤ at → sets b at t ≡ b
sets-out [] b at h = refl
sets-out (x ∷ t) b at h = rw (set_out b at x h) (sets-out t b (suc at) (omega arith))

-- setting stops at the buffer's end
sets-cut : (t b : List ℕ) (at : ℕ) → at ≤ length b → sets b at (take (length b - at) t) ≡ sets b at t
sets-cut [] b at h = rw take-nil
sets-cut (x ∷ t) b at h =
    elim (dec_lt at (length b)) [
      | yes l ↦
          let k : length b - at ≡ suc (length b - suc at) = omega arith in
          let m : length (set b at x) ≡ length b = length-set b at x in
          rw k (rw m at (sets-cut t (set b at x) (suc at) (rw m l)))
      | no l ↦
          let k : length b - at ≡ 0 = omega arith in
          rw k (sym (sets-out (x ∷ t) b at (omega arith)))
    ]

-- a text is laid by setting each of its octets at its place
laid-sets : (b : List ℕ) (at : ℕ) (t : List ℕ) → laid b at t ≡ sets b at t
unfolding laid stored
laid-sets b at t =
    elim (dec_lt at (length b)) [
      | yes l ↦
          let h : at + length (take (length b - at) t) ≤ length b = simp length-take (omega arith) in
          sym (sets-eq (take (length b - at) t) b at h) ∙ sets-cut t b at (omega arith)
      | no l ↦
          let k : length b - at ≡ 0 = omega arith in
          rw k (stored-none b at ∙ sym (sets-out t b at (omega arith)))
    ]

-- the buffer keeps its length
pub length-laid : (b : List ℕ) (at : ℕ) (t : List ℕ) → length (laid b at t) ≡ length b
length-laid b at t = rw (laid-sets b at t) (length-sets b at t)

-- nothing is printed
pub laid_none : (b : List ℕ) (at : ℕ) → laid b at [] ≡ b
laid_none b at = laid-sets b at []

-- one octet is printed
pub laid_one : (b : List ℕ) (at x : ℕ) → laid b at (x ∷ []) ≡ set b at x
laid_one b at x = laid-sets b at (x ∷ [])

-- one text behind another
pub laid-append : (b : List ℕ) (at : ℕ) (s t : List ℕ) → laid b at (s ++ t) ≡ laid (laid b at s) (at + length s) t
laid-append b at s t = laid-sets b at (s ++ t) ∙ run b at s ∙ rw (laid-sets b at s, laid-sets (sets b at s) (at + length s) t)
  where
    run : (b : List ℕ) (at : ℕ) (s : List ℕ) → sets b at (s ++ t) ≡ sets (sets b at s) (at + length s) t
    run b at [] = rw (add-zero at)
    run b at (x ∷ s) = let k : at + suc (length s) ≡ suc at + length s = omega arith in rw k (run (set b at x) (suc at) s)

-- a text that is printed behind another
pub laid-behind : (b e f s t : List ℕ) (at next : ℕ) → e ≡ laid b at s → next ≡ at + length s → f ≡ laid e next t → f ≡ laid b at (s ++ t)
laid-behind b e f s t at next first to second = second ∙ rw (first, to) (sym (laid-append b at s t))

-- a text that fits the buffer is stored whole
pub laid-stored : (b : List ℕ) (at : ℕ) (t : List ℕ) → at + length t ≤ length b → laid b at t ≡ stored b at t
unfolding laid
laid-stored b at t h = rw (take_all (length b - at) t (omega arith))

-- a text is printed octet by octet
pub laid_next : (w b e : List ℕ) (at next x : ℕ) (t : List ℕ) → w ≡ laid b at (x ∷ t) → e ≡ laid b at (x ∷ []) → next ≡ at + 1 → w ≡ laid e next t
laid_next w b e at next x t f g n = f ∙ laid-append b at (x ∷ []) t ∙ rw (g, n)

pub put-more : (w b e s : List ℕ) (at next i : ℕ) → i < length s → w ≡ laid b at (drop i s) → e ≡ laid b at (get_or s i 0 ∷ []) → next ≡ at + 1
    → w ≡ laid e next (drop (i + 1) s)
put-more w b e s at next i h f g n = laid_next w b e at next (get_or s i 0) (drop (i + 1) s) (f ∙ rw (drop-cons s i 0 h, add-one)) g n

pub hex-more : (w b e f s : List ℕ) (at second next i high low : ℕ) → i < length s → w ≡ laid b at (hex_of (drop i s))
    → high ≡ hex_digit (get_or s i 0 / 16) → low ≡ hex_digit (get_or s i 0 % 16) → e ≡ laid b at (high ∷ []) → second ≡ at + 1
    → f ≡ laid e second (low ∷ []) → next ≡ second + 1 → w ≡ laid f next (hex_of (drop (i + 1) s))
unfolding hex_of
hex-more w b e f s at second next i high low h so_far is-high is-low one to two on =
    let step : w ≡ laid e second (low ∷ hex_of (drop (i + 1) s)) =
    laid_next w b e at second high (low ∷ hex_of (drop (i + 1) s)) (so_far ∙ rw (drop-cons s i 0 h, hex_of, is-high, is-low, add-one)) one to
    in
    laid_next w e f second next low (hex_of (drop (i + 1) s)) step two on

pub read_more : (w b e t pair rest : List ℕ) (at next high low : ℕ) → t ≡ pair ++ rest → length pair ≡ 2 → w ≡ laid b at (octets_in t)
    → high ≡ hex_value (get_or pair 0 0) → low ≡ hex_value (get_or pair 1 0) → e ≡ laid b at ((high * 16 + low) ∷ []) → next ≡ at + 1
    → w ≡ laid e next (octets_in rest)
read_more w b e t pair rest at next high low cut two so_far is-high is-low one on =
    laid_next w b e at next (high * 16 + low) (octets_in rest) (so_far ∙ rw (octets-next t pair rest cut two, is-high, is-low)) one on

pub put_all : (w b t : List ℕ) (at : ℕ) → t ≡ [] → w ≡ laid b at t → b ≡ w
put_all w b t at e f = sym (f ∙ rw e (laid_none b at))

-- the front of the buffer takes the text as far as it reaches, the rest is kept
pub laid-front : (b t : List ℕ) → laid b 0 t ≡ take (length b) t ++ drop (length t) b
unfolding laid stored
laid-front b t =
    rw (sub-zero (length b))
    (elim (dec_lt (length b) (length t)) [
      | yes l ↦
          let cut : length b ≤ 0 + length (take (length b) t) = simp length-take (omega arith) in
          let past : length b ≤ length t = omega arith in
          rw (drop_of_length-le b cut, drop_of_length-le b past)
      | no l ↦ rw (take_all (length b) t (omega arith), zero-add)
    ])

-- a number whose octets are laid in zeros
pub number-laid : (n : ℕ) (s room : List ℕ) → room ≡ laid (replicate n 0) 0 s → number_at n room 0 ≡ number_at n s 0
number-laid n s room e = number-alike n room s 0 (λ i h. rw (zero-add i, e, laid-front zeros s, length-replicate {A = ℕ} n 0) (at i h))
  where
    zeros : List ℕ
    zeros = replicate n 0

    at : (i : ℕ) → i < n → get_or (take n s ++ drop (length s) zeros) i 0 ≡ get_or s i 0
    at i h =
        elim (dec_lt i (length s)) [
          | yes l ↦ get_or-append (take n s) (drop (length s) zeros) 0 i (simp length-take (omega arith)) ∙ get_or-take n s i 0 h
          | no l ↦
              let k : i ≡ length s + (i - length s) = omega arith in
              let past : length s ≤ i = omega arith in
              let in-zeros : get_or (drop (length s) zeros) (i - length s) 0 ≡ 0 = get_or-drop (length s) zeros (i - length s) 0 ∙ rw (← k) (get_or-replicate n i 0 0 h) in
              ap (λ (l : List ℕ). get_or (l ++ drop (length s) zeros) i 0) (take_all n s (omega arith))
              ∙ ap (λ (j : ℕ). get_or (s ++ drop (length s) zeros) j 0) k
              ∙ get_or-append-add s (drop (length s) zeros) (i - length s) 0
              ∙ in-zeros
              ∙ sym (get_or-eq_default s 0 past)
        ]
