-- Numbers in octets: their size, one octet more, the first octet, that reading and writing a number are inverse to each other, and that
-- equal numbers have equal octets and equal octets are equal numbers. Assumes nothing.
use mathlib.Core.Path.{◌≡◌, refl, sym, ap, ◌∙◌}
use mathlib.Core.List.{List, [], ◌∷◌, ◌++◌, append_assoc}
use Prim.Native.Nat.{ℕ, zero, suc, ◌+◌, ◌-◌, ◌*◌, ◌/◌, ◌%◌, ◌<◌, ◌≤◌, ◌^◌}
use native.Mathlib.Omega.{arith}
use native.Mathlib.Numerals.{add-one}
use native.Mathlib.Nat.{pow-suc, pow-le-pow_right, add-zero, add-suc, zero-add, add_assoc, mul-suc, zero-mul, mul-one, mul_comm, mul_assoc, mod-eq_of_lt}
use native.Mathlib.Decide.{dec_lt}
use lib.Pow.{pow-add, pow_pos, shl_lt}
use lib.Dec.{lit<}
use lib.ListN.{length, get_or, set, take, drop, length-append, length-drop, get_or-append, get_or-eq_default}
use lib.Seq.{get_or_at, get_or-drop, get_or-take, get_or-append-add, take-suc, length-take-le}
use Rattle.octets.specs.Number.{number_at, octets_of}
use Rattle.octets.specs.Store.{stored}
use Rattle.octets.proofs.Facts.{Octets, octets-append}
use Rattle.octets.proofs.StoreLaws.{stored_last, stored-none}

-- one octet more
pub number_more : (n : ℕ) (s : List ℕ) (at : ℕ) → number_at (n + 1) s at ≡ number_at n s at * 256 + get_or s (at + n) 0
unfolding number_at
number_more n s at = rw (add-one, number_at)

-- a number of n octets and one octet more stay within n + 1 octets
pub grows : (n x y : ℕ) → x < 256 ^ n → y < 256 → x * 256 + y < 256 ^ (n + 1)
grows n x y h k = rw (add-one, pow-suc) (omega arith)

-- at most seven octets and one more stay within eight
pub fits : (n x : ℕ) → n ≤ 7 → x < 256 ^ n → x * 256 + 255 < 2 ^ 64
fits n x h k = let p : 256 ^ n ≤ 256 ^ 7 = pow-le-pow_right {n = 256} (lit< tt) h in omega arith

pub length-octets_of : (n x : ℕ) → length (octets_of n x) ≡ n
unfolding octets_of
length-octets_of zero x = refl
length-octets_of (suc n) x = simp length-append (omega (arith, length-octets_of n (x / 256)))

pub octets-octets_of : (n x : ℕ) → Octets (octets_of n x)
unfolding octets_of
octets-octets_of zero x = λ i. omega arith
octets-octets_of (suc n) x = octets-append (octets_of n (x / 256)) (x % 256 ∷ []) (octets-octets_of n (x / 256)) (one (x % 256) (omega arith))
  where
    one : (y : ℕ) → y < 256 → Octets (y ∷ [])
    one y h zero = h
    one y h (suc i) = omega arith

-- a number that is written, within any octets, is read again
pub number-octets : (p : List ℕ) (n x : ℕ) (s : List ℕ) → x < 256 ^ n → number_at n (p ++ octets_of n x ++ s) (length p) ≡ x
unfolding number_at octets_of
number-octets p zero x s h = omega arith
number-octets p (suc n) x s h =
    let q : List ℕ = p ++ octets_of n (x / 256) in
    let k : x / 256 < 256 ^ n = let m = rw pow-suc at h in omega arith in
    let e : p ++ octets_of (suc n) x ++ s ≡ q ++ x % 256 ∷ s = simp append_assoc in
    let l : length q ≡ length p + n = simp length-append (omega (arith, length-octets_of n (x / 256))) in
    rw (e, get_or_at q (x % 256) s 0 (length p + n) l, number-octets p n (x / 256) (x % 256 ∷ s) k) (omega arith)

-- a number that is read is written as it stood
pub octets-number : (n : ℕ) (s : List ℕ) (at : ℕ) → Octets s → at + n ≤ length s → octets_of n (number_at n s at) ≡ take n (drop at s)
unfolding number_at octets_of
octets-number zero s at o h = refl
octets-number (suc n) s at o h =
    let x : ℕ = number_at n s at in
    let y : ℕ = get_or s (at + n) 0 in
    let q : (x * 256 + y) / 256 ≡ x = omega (arith, o (at + n)) in
    let r : (x * 256 + y) % 256 ≡ y = omega (arith, o (at + n)) in
    rw (q, r, octets-number n s at o (omega arith), take-suc (drop at s) n 0 (simp length-drop (omega arith)), get_or-drop at s n 0)

-- writing, from the last octet on
pub write-more : (t b : List ℕ) (at i j rest : ℕ) → 0 < i → at + i ≤ length b → j ≡ i - 1 → t ≡ stored b at (octets_of i rest)
    → t ≡ stored (set b (at + j) (rest % 256)) at (octets_of j (rest / 256))
unfolding octets_of
write-more t b at zero j rest h k q e = absurd (omega arith)
write-more t b at (suc i) j rest h k q e =
    let m : j ≡ i = omega arith in
    let s : List ℕ = octets_of i (rest / 256) in
    let l : length s ≡ i = length-octets_of i (rest / 256) in
    e ∙ stored_last b at s (rest % 256) (omega arith) ∙ rw (m, l)

pub write-all : (t b : List ℕ) (at i rest : ℕ) → i ≤ 0 → t ≡ stored b at (octets_of i rest) → b ≡ t
unfolding octets_of
write-all t b at i rest h e = let z : i ≡ 0 = omega arith in sym (e ∙ rw z (stored-none b at))

-- n octets are 8 * n bits
pub octets-bits : (n : ℕ) → 256 ^ n ≡ 2 ^ (8 * n)
octets-bits zero = refl
octets-bits (suc n) = rw (pow-suc 256 n, octets-bits n, mul-suc 8 n, pow-add 2 (8 * n) 8)

-- a number of n octets is below 256 ^ n
pub number_small : (n : ℕ) (s : List ℕ) (at : ℕ) → Octets s → number_at n s at < 256 ^ n
unfolding number_at
number_small zero s at o = lit< tt
number_small (suc n) s at o = rw (add-one n) at (grows n (number_at n s at) (get_or s (at + n) 0) (number_small n s at o) (o (at + n)))

-- the first octet, and the number behind it
pub number-first : (n : ℕ) (s : List ℕ) (at : ℕ) → number_at (suc n) s at ≡ get_or s at 0 * 256 ^ n + number_at n s (at + 1)
unfolding number_at
number-first zero s at = rw (add-zero at) (omega arith)
number-first (suc n) s at =
    let e : at + suc n ≡ at + 1 + n = omega arith in
    ap (λ x. x * 256 + get_or s (at + suc n) 0) (number-first n s at) ∙ rw (e, pow-suc 256 n) (omega arith)

-- the octets before the number are no matter
pub number_behind : (n : ℕ) (p s : List ℕ) (at : ℕ) → number_at n (p ++ s) (length p + at) ≡ number_at n s at
unfolding number_at
number_behind zero p s at = refl
number_behind (suc n) p s at = rw (number_behind n p s at, add_assoc, get_or-append-add p s (at + n) 0)

-- nor are those behind it
pub number-before : (n : ℕ) (p s : List ℕ) (at : ℕ) → at + n ≤ length p → number_at n (p ++ s) at ≡ number_at n p at
unfolding number_at
number-before zero p s at h = refl
number-before (suc n) p s at h = rw (number-before n p s at (omega arith), get_or-append p s 0 (at + n) (omega arith))

-- the number in an octet and those behind it
pub first-octet : (n x : ℕ) (s : List ℕ) → number_at (suc n) (x ∷ s) 0 ≡ x * 2 ^ (8 * n) + number_at n s 0
first-octet n x s = number-first n (x ∷ s) 0 ∙ rw (octets-bits n, number_behind n (x ∷ []) s 0)

-- a number in a part is the number at the part's place
pub number-part : (n m at : ℕ) (s : List ℕ) → n ≤ m → number_at n (take m (drop at s)) 0 ≡ number_at n s at
unfolding number_at
number-part zero m at s h = refl
number-part (suc n) m at s h =
    rw (number-part n m at s (omega arith), zero-add n, get_or-take m (drop at s) n 0 (omega arith), get_or-drop at s n 0)

-- octets past the end add zeros
pub number_past : (n j : ℕ) (s : List ℕ) (at : ℕ) → length s ≤ at + n → number_at (n + j) s at ≡ number_at n s at * 256 ^ j
unfolding number_at
number_past n zero s at h = rw (add-zero n) (sym (mul-one (number_at n s at)))
number_past n (suc j) s at h =
    let past = get_or-eq_default s 0 {n = at + (n + j)} (omega arith) in
    rw (add-suc n j, number_past n j s at h, past, pow-suc, ← mul_assoc (number_at n s at) (256 ^ j) 256) (add-zero _)

-- a number of one octet is the octet
pub one-octet : (s : List ℕ) (at : ℕ) → number_at 1 s at ≡ get_or s at 0
unfolding number_at
one-octet s at = let e : get_or s (at + 0) 0 ≡ get_or s at 0 = rw add-zero in omega arith

-- where there are no octets the number is 0
pub number-none : (n at : ℕ) → number_at n [] at ≡ 0
unfolding number_at
number-none zero at = refl
number-none (suc n) at = rw (number-none n at)

-- equal numbers of n octets have equal octets
pub number-only : (n : ℕ) (s t : List ℕ) (at : ℕ) → Octets s → Octets t → number_at n s at ≡ number_at n t at → (i : ℕ) → i < n
    → get_or s (at + i) 0 ≡ get_or t (at + i) 0
unfolding number_at
number-only zero s t at o p e i h = absurd (omega arith)
number-only (suc n) s t at o p e i h =
    let a = o (at + n) in
    let b = p (at + n) in
    elim (dec_lt i n) [
      | yes l ↦ number-only n s t at o p (omega arith) i l
      | no l ↦ let q : i ≡ n = omega arith in rw q (omega arith)
    ]

-- equal octets are equal numbers
pub number-alike : (n : ℕ) (s t : List ℕ) (at : ℕ) → ((i : ℕ) → i < n → get_or s (at + i) 0 ≡ get_or t (at + i) 0) → number_at n s at ≡ number_at n t at
unfolding number_at
number-alike zero s t at e = refl
number-alike (suc n) s t at e = rw (number-alike n s t at (λ i h. e i (omega arith)), e n (omega arith))

-- how `number_at` comes to each of its answers: the octets are all there, none is, or the last `missing` are not
abbrev pub IsNumber : ℕ → List ℕ → ℕ → ℕ → Type 0
IsNumber n s at number = (number ≡ number_at n s at) × (number < 256 ^ n)

pub number-there : (n m at number : ℕ) (s p : List ℕ) → at + n ≤ length s → m ≡ n → p ≡ take m (drop at s) → IsNumber (length p) p 0 number → IsNumber n s at number
number-there n m at number s p h e part is =
    let l : length p ≡ n = rw part (length-take-le m (drop at s) (simp length-drop (omega arith)) ∙ e) in
    (is.0 ∙ rw (l, part) (number-part n m at s (omega arith)), rw l at is.1)

pub number-out : (n at : ℕ) (s : List ℕ) → length s ≤ at → IsNumber n s at 0
unfolding number_at
number-out n at s h =
    let e = number_past 0 n s at (omega arith) in
    let z : 0 + n ≡ n = zero-add n in
    (sym (rw z at e ∙ zero-mul (256 ^ n)), rw (octets-bits n) (pow_pos (8 * n)))

pub number_cut : (n missing at number : ℕ) (s : List ℕ) → n ≤ 8 → length s + missing ≡ at + n → at < length s → IsNumber (length s - at) s at number
    → IsNumber n s at (number * 2 ^ (missing * 8) % 2 ^ 64)
number_cut n missing at number s few e inside is =
    let m : ℕ = length s - at in
    let k : m + missing ≡ n = omega arith in
    let bits : 8 * n ≡ 8 * m + missing * 8 = omega arith in
    let small : number * 2 ^ (missing * 8) < 256 ^ n = rw (octets-bits n, bits) (shl_lt (8 * m) (missing * 8) (rw (octets-bits m) at is.1)) in
    let most : 256 ^ n ≤ 256 ^ 8 = pow-le-pow_right {n = 256} (lit< tt) few in
    let whole : number * 2 ^ (missing * 8) % 2 ^ 64 ≡ number * 2 ^ (missing * 8) = mod-eq_of_lt (omega arith) in
    (whole ∙ rw (← k, number_past m missing s at (omega arith), ← is.0, octets-bits missing, mul_comm 8 missing), rw whole small)
