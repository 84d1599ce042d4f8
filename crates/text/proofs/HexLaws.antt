-- Octets in hex: what a digit stands for, that reading and writing octets are inverse to each other, how long both are, and what a loop
-- along a text knows at each turn. Assumes nothing.
use mathlib.Core.Path.{◌≡◌, refl, sym, ◌∙◌}
use mathlib.Core.Bool.{and-eq-true_iff, Bool, true, false, ◌&&◌, ◌||◌, not}
use mathlib.Core.List.{List, [], ◌∷◌, ◌++◌}
use Prim.Native.Nat.{ℕ, zero, suc, ◌+◌, ◌-◌, ◌*◌, ◌/◌, ◌%◌, ◌<◌, ◌≤◌}
use native.Mathlib.Omega.{arith}
use native.Mathlib.Numerals.{add-one}
use native.Mathlib.Decide.{dec_lt}
use lib.Dec.{eqb, ltb, leb}
use lib.ListN.{length, get_or, drop, drop_of_length-le}
use lib.Seq.{drop-cons}
use borrow.Author.Tests.{leb-true, ltb-true, eqb-true, eq-eqb, ne_eqb, not-true, not-false, le-leb, lt-leb}
use Rattle.octets.specs.Test.{every}
use Rattle.octets.proofs.Facts.{below, Octets}
use Rattle.octets.proofs.Cases.{apart}
use Rattle.text.specs.Spelling.{is_from}
use Rattle.text.specs.Hex.{is_hex_digit, hex_value, hex_digit, are_octets, octets_in, hex_of}

-- a sign from one to another
pub from-range : (low high x : ℕ) → is_from low high x ≡ true → (low ≤ x) × (x ≤ high)
from-range low high x e = let h = (and-eq-true_iff (leb low x) (leb x high)).0 e in (leb-true low x h.0, leb-true x high h.1)

-- every digit stands for a number below 16
pub value-small : (x : ℕ) → x < 256 → hex_value x < 16
unfolding hex_value
value-small x h = ltb-true (hex_value x) 16 (below 256 (λ x. ltb (hex_value x) 16) refl x h)

-- what a sign stands for, by the range it is in
module _ (x : ℕ) (decimal : Bool) (is-decimal : decimal ≡ is_from 0x30 0x39 x) where
  pub low-decimal : decimal ≡ true → 0x30 ≤ x
  low-decimal d = (from-range 0x30 0x39 x (sym is-decimal ∙ d)).0

  pub value-decimal : decimal ≡ true → (x - 0x30 ≡ hex_value x) × (x - 0x30 < 16)
  unfolding hex_value
  value-decimal d = let e : is_from 0x30 0x39 x ≡ true = sym is-decimal ∙ d in let r = from-range 0x30 0x39 x e in (rw e, omega arith)

  module _ (letter : Bool) (is-letter : letter ≡ is_from 0x61 0x66 x) (d : decimal ≡ false) where
    pub low-letter : letter ≡ true → 0x61 ≤ x
    low-letter l = let r = from-range 0x61 0x66 x (sym is-letter ∙ l) in omega arith

    pub value-letter : letter ≡ true → (x - 0x61 + 10 ≡ hex_value x) × (x - 0x61 + 10 < 16)
    unfolding hex_value
    value-letter l =
        let e : is_from 0x61 0x66 x ≡ true = sym is-letter ∙ l in
        let r = from-range 0x61 0x66 x e in
        (rw (sym is-decimal ∙ d, e), omega arith)

    pub value_none : letter ≡ false → (0 ≡ hex_value x) × (0 < 16)
    unfolding hex_value
    value_none l = (rw (sym is-decimal ∙ d, sym is-letter ∙ l), omega arith)

-- the digit for a number, by its range
pub digit-decimal : (n : ℕ) → n < 10 → 0x30 + n ≡ hex_digit n
unfolding hex_digit
digit-decimal n h = eqb-true (0x30 + n) (hex_digit n) (below 10 (λ n. eqb (0x30 + n) (hex_digit n)) refl n h)

pub digit-letter : (n : ℕ) → 10 ≤ n → n < 16 → 0x61 + (n - 10) ≡ hex_digit n
unfolding hex_digit
digit-letter n l h =
    let t = below 6 (λ k. eqb (0x61 + k) (hex_digit (k + 10))) refl (n - 10) (omega arith) in
    let e : n - 10 + 10 ≡ n = omega arith in
    eqb-true (0x61 + (n - 10)) (hex_digit (n - 10 + 10)) t ∙ rw e

-- a number below 16 is what its digit stands for
pub value-digit : (n : ℕ) → n < 16 → hex_value (hex_digit n) ≡ n
unfolding hex_value hex_digit
value-digit n h = eqb-true (hex_value (hex_digit n)) n (below 16 (λ n. eqb (hex_value (hex_digit n)) n) refl n h)

pub digit-is : (n : ℕ) → n < 16 → is_hex_digit (hex_digit n) ≡ true
unfolding is_hex_digit hex_digit
digit-is n h = below 16 (λ n. is_hex_digit (hex_digit n)) refl n h

-- a digit is a sign below 256
digit-octet : (x : ℕ) → is_hex_digit x ≡ true → x < 256
unfolding is_hex_digit
digit-octet x e =
    elim (dec_lt x 256) [
      | yes h ↦ h
      | no h ↦
          let l : 102 < x = omega arith in
          let k : 48 ≤ x = omega arith in
          let m : 57 < x = omega arith in
          let o : 97 ≤ x = omega arith in
          let f : false ≡ true = rw (le-leb 48 x k, lt-leb x 57 m, le-leb 97 x o, lt-leb x 102 l) at e in
          apart (cc)
    ]

-- a digit is that of the number it stands for
pub digit_value : (x : ℕ) → is_hex_digit x ≡ true → hex_digit (hex_value x) ≡ x
unfolding is_hex_digit hex_value hex_digit
digit_value x e =
    let t : not (is_hex_digit x) || eqb (hex_digit (hex_value x)) x ≡ true = below 256 (λ x. not (is_hex_digit x) || eqb (hex_digit (hex_value x)) x) refl x (digit-octet x e) in
    eqb-true (hex_digit (hex_value x)) x (rw e at t)

-- two digits an octet
pub length-hex_of : (s : List ℕ) → length (hex_of s) ≡ 2 * length s
unfolding hex_of
length-hex_of [] = refl
length-hex_of (x ∷ s) = omega (arith, length-hex_of s)

pub length-octets_in : (t : List ℕ) → length (octets_in t) ≡ length t / 2
unfolding octets_in
length-octets_in [] = refl
length-octets_in (x ∷ []) = refl
length-octets_in (x ∷ y ∷ t) = omega (arith, length-octets_in t)

-- octets that are written are read again
pub octets-hex : (s : List ℕ) → Octets s → octets_in (hex_of s) ≡ s
unfolding octets_in hex_of
octets-hex [] o = refl
octets-hex (x ∷ s) o =
    let h : x < 256 = o 0 in
    let e : x / 16 * 16 + x % 16 ≡ x = omega arith in
    rw (value-digit (x / 16) (omega arith), value-digit (x % 16) (omega arith), e, octets-hex s (λ i. o (suc i)))

pub hex-are : (s : List ℕ) → Octets s → are_octets (hex_of s) ≡ true
unfolding are_octets hex_of every
hex-are s o = rw (eq-eqb (length (hex_of s) % 2) 0 (omega (arith, length-hex_of s))) (signs s o)
  where
    signs : (s : List ℕ) → Octets s → every is_hex_digit (hex_of s) ≡ true
    signs [] o = refl
    signs (x ∷ s) o = let h : x < 256 = o 0 in rw (digit-is (x / 16) (omega arith), digit-is (x % 16) (omega arith)) (signs s (λ i. o (suc i)))

-- octets that are read are written as they stood
pub hex-octets : (t : List ℕ) → are_octets t ≡ true → hex_of (octets_in t) ≡ t
unfolding are_octets hex_of octets_in every
hex-octets t e =
    let h = (and-eq-true_iff (eqb (length t % 2) 0) (every is_hex_digit t)).0 e in
    pairs t (eqb-true (length t % 2) 0 h.0) h.1
  where
    pairs : (t : List ℕ) → length t % 2 ≡ 0 → every is_hex_digit t ≡ true → hex_of (octets_in t) ≡ t
    pairs [] l e = refl
    pairs (x ∷ []) l e = absurd (omega arith)
    pairs (x ∷ y ∷ t) l e =
        let h = (and-eq-true_iff (is_hex_digit x) (is_hex_digit y && every is_hex_digit t)).0 e in
        let k = (and-eq-true_iff (is_hex_digit y) (every is_hex_digit t)).0 h.1 in
        let a : ℕ = hex_value x in
        let b : ℕ = hex_value y in
        let small : b < 16 = value-small y (digit-octet y k.0) in
        let q : (a * 16 + b) / 16 ≡ a = omega arith in
        let r : (a * 16 + b) % 16 ≡ b = omega arith in
        rw (q, r, digit_value x h.0, digit_value y k.0, pairs t (omega arith) k.1)

-- what is read is octets
pub octets-octets_in : (t : List ℕ) → Octets t → Octets (octets_in t)
unfolding octets_in
octets-octets_in [] o i = omega arith
octets-octets_in (x ∷ []) o i = omega arith
octets-octets_in (x ∷ y ∷ t) o zero = omega (arith, value-small x (o 0), value-small y (o 1))
octets-octets_in (x ∷ y ∷ t) o (suc i) = octets-octets_in t (λ j. o (suc (suc j))) i

-- and so it is where digits alone are read
pub digits-octets : (t : List ℕ) → are_octets t ≡ true → Octets (octets_in t)
unfolding are_octets every
digits-octets t e =
    octets-octets_in t (signs t ((and-eq-true_iff (eqb (length t % 2) 0) (every is_hex_digit t)).0 e).1)
  where
    signs : (t : List ℕ) → every is_hex_digit t ≡ true → Octets t
    signs [] e i = omega arith
    signs (x ∷ t) e zero = digit-octet x ((and-eq-true_iff (is_hex_digit x) (every is_hex_digit t)).0 e).0
    signs (x ∷ t) e (suc i) = signs t ((and-eq-true_iff (is_hex_digit x) (every is_hex_digit t)).0 e).1 i

-- a test of each sign, from the first on
module _ (test : ℕ → Bool) (s : List ℕ) (i : ℕ) (r : Bool) (so_far : r ≡ every test (drop i s)) where
  module _ (found : Bool) (is : found ≡ test (get_or s i 0)) (inside : i < length s) where
    pub sign-more : not found ≡ false → r ≡ every test (drop (i + 1) s)
    unfolding every
    sign-more f = so_far ∙ rw (drop-cons s i 0 inside, every, sym is ∙ not-false found f, add-one)

    pub sign-not : not found ≡ true → false ≡ r
    unfolding every
    sign-not f = sym (so_far ∙ rw (drop-cons s i 0 inside, every, sym is ∙ not-true found f))

  pub sign-all : length s ≤ i → true ≡ r
  unfolding every
  sign-all h = sym (so_far ∙ rw (drop_of_length-le s h, every))

-- the next two digits
pub octets-next : (t pair rest : List ℕ) → t ≡ pair ++ rest → length pair ≡ 2
    → octets_in t ≡ (hex_value (get_or pair 0 0) * 16 + hex_value (get_or pair 1 0)) ∷ octets_in rest
unfolding octets_in
octets-next t [] rest e h = absurd (omega arith)
octets-next t (x ∷ []) rest e h = absurd (omega arith)
octets-next t (x ∷ y ∷ []) rest e h = rw e
octets-next t (x ∷ y ∷ z ∷ s) rest e h = absurd (omega arith)

pub octets-count : (t pair rest : List ℕ) → t ≡ pair ++ rest → length pair ≡ 2 → length (octets_in t) ≡ length (octets_in rest) + 1
octets-count t pair rest e h = rw (octets-next t pair rest e h, add-one)

-- no two digits are left
pub octets-none : (t : List ℕ) → length t < 2 → octets_in t ≡ []
unfolding octets_in
octets-none [] h = refl
octets-none (x ∷ []) h = refl
octets-none (x ∷ y ∷ t) h = absurd (omega arith)

-- whether a text is octets, by its length
pub are-odd : (t : List ℕ) → (length t % 2 ≡ 0 → ⊥) → false ≡ are_octets t
unfolding are_octets
are-odd t h = rw (ne_eqb (length t % 2) 0 h)

pub are-even : (t : List ℕ) → length t % 2 ≡ 0 → are_octets t ≡ every is_hex_digit t
unfolding are_octets
are-even t h = rw (eq-eqb (length t % 2) 0 h)
