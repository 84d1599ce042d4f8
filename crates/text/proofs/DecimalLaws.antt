-- Numbers in decimal: that reading and writing a number are inverse to each other, how long a number is, and what a loop along a text
-- knows at each turn. Assumes nothing.
use mathlib.Core.Path.{◌≡◌, refl, sym, ◌∙◌}
use mathlib.Core.Bool.{Bool, true, false, cond, ◌&&◌, not, and-false, and-eq-true_iff}
use mathlib.Core.List.{List, [], ◌∷◌, ◌++◌, append_assoc, append-nil}
use Prim.Native.Nat.{ℕ, zero, suc, ◌+◌, ◌-◌, ◌*◌, ◌/◌, ◌%◌, ◌<◌, ◌≤◌, ◌^◌}
use native.Mathlib.Omega.{arith}
use native.Mathlib.Numerals.{add-one}
use native.Mathlib.Decide.{dec_lt}
use native.Mathlib.Nat.{pow-suc, zero-add}
use lib.Dec.{eqb, lit<, ltb}
use lib.ListN.{length, get_or, drop, length-append, drop_of_length-le}
use lib.Seq.{drop-cons}
use borrow.Author.Tests.{le-leb, lt-ltb, le-ltb, ne_eqb, eqb-false, not-true, not-false}
use Rattle.octets.specs.Test.{every}
use Rattle.octets.proofs.Cases.{by-test, apart}
use Rattle.std.proofs.Common.{Option, Some, None}
use Rattle.text.specs.Decimal.{number_from, number_in, starts_well, is_number, read_number, digits_of, decimal_of}
use Rattle.text.specs.Spelling.{is_digit}
use Rattle.text.specs.Print.{laid}
use Rattle.text.proofs.HexLaws.{from-range, sign-more, sign-not, sign-all}
use Rattle.text.proofs.PrintLaws.{laid-behind}

-- more steps than a number change nothing
steps : (f g n : ℕ) → n < f → n < g → digits_of f n ≡ digits_of g n
unfolding digits_of
steps zero g n h k = absurd (omega arith)
steps (suc f) zero n h k = absurd (omega arith)
steps (suc f) (suc g) n h k =
    elim (dec_lt n 10) [
      | yes l ↦ rw (digits_of, lt-ltb n 10 l)
      | no l ↦ rw (digits_of, le-ltb n 10 (omega arith), steps f g (n / 10) (omega arith) (omega arith))
    ]

pub decimal-one : (n : ℕ) → n < 10 → decimal_of n ≡ (0x30 + n) ∷ []
unfolding decimal_of digits_of
decimal-one n h = rw (add-one n, digits_of, lt-ltb n 10 h)

pub decimal-more : (n : ℕ) → 10 ≤ n → decimal_of n ≡ decimal_of (n / 10) ++ ((0x30 + n % 10) ∷ [])
unfolding decimal_of digits_of
decimal-more n h = rw (add-one n, digits_of, le-ltb n 10 h, steps n (n / 10 + 1) (n / 10) (omega arith) (omega arith))

pub length-one : (n : ℕ) → n < 10 → length (decimal_of n) ≡ 1
length-one n h = rw (decimal-one n h)

pub length_more : (n : ℕ) → 10 ≤ n → length (decimal_of n) ≡ length (decimal_of (n / 10)) + 1
length_more n h = rw (decimal-more n h) (length-append (decimal_of (n / 10)) ((0x30 + n % 10) ∷ []))

-- printing a number, its last digit behind the others
pub put_one : (b e : List ℕ) (at r n : ℕ) → n < 10 → e ≡ laid b at ((0x30 + n) ∷ []) → r ≡ at + 1
    → (e ≡ laid b at (decimal_of n)) × (r ≡ at + length (decimal_of n))
put_one b e at r n h f g = rw (decimal-one n h) (f, g)

pub put_last : (b e f : List ℕ) (at m r n : ℕ) → 10 ≤ n → e ≡ laid b at (decimal_of (n / 10)) → m ≡ at + length (decimal_of (n / 10))
    → f ≡ laid e m ((0x30 + n % 10) ∷ []) → r ≡ m + 1 → (f ≡ laid b at (decimal_of n)) × (r ≡ at + length (decimal_of n))
put_last b e f at m r n h others to last on =
    (laid-behind b e f (decimal_of (n / 10)) ((0x30 + n % 10) ∷ []) at m others to last ∙ rw (decimal-more n h), omega (arith, length_more n h))

-- what holds of each number below 10, and of each other number if it holds of its tenth, holds of every number
by-tenths : (P : ℕ → Type 0) → ((n : ℕ) → n < 10 → P n) → ((n : ℕ) → 10 ≤ n → P (n / 10) → P n) → (n : ℕ) → P n
by-tenths P one more n = bounded (suc n) n (omega arith)
  where
    bounded : (f n : ℕ) → n < f → P n
    bounded zero n h = absurd (omega arith)
    bounded (suc f) n h =
        elim (dec_lt n 10) [
          | yes l ↦ one n l
          | no l ↦ more n (omega arith) (bounded f (n / 10) (omega arith))
        ]

-- digits behind digits
number_append : (n : ℕ) (s t : List ℕ) → number_from n (s ++ t) ≡ number_from (number_from n s) t
unfolding number_from
number_append n [] t = refl
number_append n (x ∷ s) t = number_append (n * 10 + (x - 0x30)) s t

-- a number that is written is read again
pub number-decimal : (n : ℕ) → number_in (decimal_of n) ≡ n
unfolding number_in number_from
number-decimal =
    by-tenths (λ n. number_from 0 (decimal_of n) ≡ n)
    (λ n h. rw (decimal-one n h) (omega arith))
    (λ n h e. rw (decimal-more n h, number_append 0 (decimal_of (n / 10)) ((0x30 + n % 10) ∷ []), e) (omega arith))

-- each sign of a number is a digit
sign-append : (test : ℕ → Bool) (s t : List ℕ) → every test s ≡ true → every test t ≡ true → every test (s ++ t) ≡ true
unfolding every
sign-append test [] t d e = e
sign-append test (x ∷ s) t d e = let h = (and-eq-true_iff (test x) (every test s)).0 d in rw h.0 (sign-append test s t h.1 e)

one-digit : (n : ℕ) → n < 10 → every is_digit ((0x30 + n) ∷ []) ≡ true
unfolding every
one-digit n h = rw (le-leb 0x30 (0x30 + n) (omega arith), le-leb (0x30 + n) 0x39 (omega arith))

decimal-digits : (n : ℕ) → every is_digit (decimal_of n) ≡ true
decimal-digits =
    by-tenths (λ n. every is_digit (decimal_of n) ≡ true)
    (λ n h. rw (decimal-one n h) (one-digit n h))
    (λ n h e. rw (decimal-more n h) (sign-append is_digit (decimal_of (n / 10)) ((0x30 + n % 10) ∷ []) e (one-digit (n % 10) (omega arith))))

-- a text that begins with a sign that is no 0
abbrev Leads : List ℕ → Type 0
Leads [] = ⊥
Leads (x ∷ t) = x ≡ 0x30 → ⊥

leads-append : (s t : List ℕ) → Leads s → Leads (s ++ t)
leads-append [] t l = absurd l
leads-append (x ∷ s) t l = l

leads-well : (s : List ℕ) → Leads s → starts_well s ≡ true
unfolding starts_well
leads-well [] l = absurd l
leads-well (x ∷ []) l = refl
leads-well (x ∷ y ∷ s) l = rw (ne_eqb x 0x30 l)

decimal-leads : (n : ℕ) → 0 < n → Leads (decimal_of n)
decimal-leads =
    by-tenths (λ n. 0 < n → Leads (decimal_of n))
    (λ n h k. rw (decimal-one n h) (λ e. omega arith))
    (λ n h l k. rw (decimal-more n h) (leads-append (decimal_of (n / 10)) ((0x30 + n % 10) ∷ []) (l (omega arith))))

decimal-well : (n : ℕ) → starts_well (decimal_of n) ≡ true
unfolding starts_well
decimal-well zero = rw (decimal-one 0 (lit< tt))
decimal-well (suc n) = leads-well (decimal_of (suc n)) (decimal-leads (suc n) (omega arith))

-- a number within 32 bits is written as one
pub decimal-is : (n : ℕ) → n < 2 ^ 32 → is_number (decimal_of n) ≡ true
unfolding is_number
decimal-is n h = rw (decimal-well n, decimal-digits n, number-decimal n) (lt-ltb n (2 ^ 32) h)

-- digits behind a number are written behind it
decimal-behind : (n : ℕ) (t : List ℕ) → 0 < n → every is_digit t ≡ true → decimal_of (number_from n t) ≡ decimal_of n ++ t
unfolding number_from every
decimal-behind n [] h e = sym (append-nil (decimal_of n))
decimal-behind n (x ∷ t) h e =
    let d = (and-eq-true_iff (is_digit x) (every is_digit t)).0 e in
    let r = from-range 0x30 0x39 x d.0 in
    let m : ℕ = n * 10 + (x - 0x30) in
    let q : m / 10 ≡ n = omega arith in
    let l : 0x30 + m % 10 ≡ x = omega arith in
    decimal-behind m t (omega arith) d.1 ∙ rw (decimal-more m (omega arith), q, l) (append_assoc (decimal_of n) (x ∷ []) t)

-- a number that is read is written as it stood
pub decimal-number : (t : List ℕ) → is_number t ≡ true → decimal_of (number_in t) ≡ t
unfolding is_number number_in number_from starts_well every
decimal-number t e =
    let h = (and-eq-true_iff (starts_well t) (every is_digit t && ltb (number_from 0 t) (2 ^ 32))).0 e in
    whole t h.0 ((and-eq-true_iff (every is_digit t) (ltb (number_from 0 t) (2 ^ 32))).0 h.1).0
  where
    alone : (x : ℕ) → is_digit x ≡ true → decimal_of (x - 0x30) ≡ x ∷ []
    alone x e = let r = from-range 0x30 0x39 x e in let l : 0x30 + (x - 0x30) ≡ x = omega arith in decimal-one (x - 0x30) (omega arith) ∙ rw l

    whole : (t : List ℕ) → starts_well t ≡ true → every is_digit t ≡ true → decimal_of (number_from 0 t) ≡ t
    whole [] w e = apart (cc)
    whole (x ∷ []) w e = rw (zero-add (x - 0x30)) (alone x ((and-eq-true_iff (is_digit x) true).0 e).0)
    whole (x ∷ y ∷ t) w e =
        let d = (and-eq-true_iff (is_digit x) (every is_digit (y ∷ t))).0 e in
        let r = from-range 0x30 0x39 x d.0 in
        let n = eqb-false x 0x30 (not-true (eqb x 0x30) w) in
        rw (zero-add (x - 0x30)) (decimal-behind (x - 0x30) (y ∷ t) (omega arith) d.1 ∙ rw (alone x d.0))

-- k digits hold each number below 10 ^ k
pub length-decimal : (k n : ℕ) → 0 < k → n < 10 ^ k → length (decimal_of n) ≤ k
length-decimal zero n h l = absurd (omega arith)
length-decimal (suc k) n h l =
    elim (dec_lt n 10) [
      | yes m ↦ rw (decimal-one n m) (omega arith)
      | no m ↦
          let p = rw pow-suc at l in
          let small : n / 10 < 10 ^ k = omega arith in
          rw (decimal-more n (omega arith)) (simp length-append (omega (arith, length-decimal k (n / 10) (positive k (omega arith) small) small)))
    ]
  where
    positive : (k : ℕ) → 0 < n / 10 → n / 10 < 10 ^ k → 0 < k
    positive zero h l = absurd (omega arith)
    positive (suc k) h l = omega arith

-- 20 digits hold each number of 64 bits
pub decimal-short : (n : ℕ) → n < 2 ^ 64 → length (decimal_of n) ≤ 20
decimal-short n h = length-decimal 20 n (omega arith) (omega arith)

-- a number only grows with the digits behind it
number-rises : (n : ℕ) (t : List ℕ) → n ≤ number_from n t
unfolding number_from
number-rises n [] = omega arith
number-rises n (x ∷ t) = omega (arith, number-rises (n * 10 + (x - 0x30)) t)

-- the first digit, by the text's length
pub well-none : (t : List ℕ) → length t ≡ 0 → false ≡ starts_well t
unfolding starts_well
well-none [] e = refl
well-none (x ∷ t) e = absurd (omega arith)

pub well-one : (t : List ℕ) → length t ≡ 1 → true ≡ starts_well t
unfolding starts_well
well-one [] e = absurd (omega arith)
well-one (x ∷ []) e = refl
well-one (x ∷ y ∷ t) e = absurd (omega arith)

pub well-many : (t : List ℕ) → 2 ≤ length t → not (eqb (get_or t 0 0) 0x30) ≡ starts_well t
unfolding starts_well
well-many [] h = absurd (omega arith)
well-many (x ∷ []) h = absurd (omega arith)
well-many (x ∷ y ∷ t) h = refl

-- what reading digits behind those that spell n answers
abbrev pub goes_on : ℕ → List ℕ → Option ℕ
goes_on n t = cond (every is_digit t && ltb (number_from n t) (2 ^ 32)) (Some (number_from n t)) None

module _ (t : List ℕ) (found : Bool) (is : found ≡ starts_well t) where
  pub number-starts : not found ≡ false → read_number t ≡ goes_on 0 (drop 0 t)
  unfolding read_number is_number number_in
  number-starts f = rw (sym is ∙ not-false found f)

  pub number-not : not found ≡ true → None ≡ read_number t
  unfolding read_number is_number
  number-not f = rw (sym is ∙ not-true found f)

number-next : (t : List ℕ) (i n : ℕ) → i < length t → number_from n (drop i t) ≡ number_from (n * 10 + (get_or t i 0 - 0x30)) (drop (i + 1) t)
unfolding number_from
number-next t i n h = rw (drop-cons t i 0 h, number_from, add-one)

number-all : (t : List ℕ) (i n : ℕ) → length t ≤ i → number_from n (drop i t) ≡ n
unfolding number_from
number-all t i n h = rw (drop_of_length-le t h)

-- what is past 32 bits stays so
large : (n : ℕ) (t : List ℕ) → 2 ^ 32 ≤ n → goes_on n t ≡ None
large n t h = rw (le-ltb (number_from n t) (2 ^ 32) (omega (arith, number-rises n t)), and-false (every is_digit t))

-- reading a number, from its first digit on
module _ (t : List ℕ) (i n : ℕ) (r : Option ℕ) (so_far : r ≡ goes_on n (drop i t)) where
  module _ (found : Bool) (is : found ≡ is_digit (get_or t i 0)) (inside : i < length t) where
    pub goes-more : (m : ℕ) → not found ≡ false → m ≡ n * 10 + (get_or t i 0 - 0x30) → r ≡ goes_on m (drop (i + 1) t)
    goes-more m f e = so_far ∙ rw (number-next t i n inside, ← e, sign-more is_digit t i (every is_digit (drop i t)) refl found is inside f)

    pub goes-past : not found ≡ false → 2 ^ 32 ≤ n * 10 + (get_or t i 0 - 0x30) → None ≡ r
    goes-past f h = sym (goes-more (n * 10 + (get_or t i 0 - 0x30)) f refl ∙ large (n * 10 + (get_or t i 0 - 0x30)) (drop (i + 1) t) h)

    pub goes-not : not found ≡ true → None ≡ r
    goes-not f = sym (so_far ∙ rw (← sign-not is_digit t i (every is_digit (drop i t)) refl found is inside f))

  pub goes-all : length t ≤ i → n < 2 ^ 32 → Some n ≡ r
  goes-all h k = sym (so_far ∙ rw (← sign-all is_digit t i (every is_digit (drop i t)) refl h, number-all t i n h, lt-ltb n (2 ^ 32) k))

-- what a caller knows by the answer
module _ (t : List ℕ) where
  pub was_read : (n : ℕ) → Some n ≡ read_number t → (is_number t ≡ true) × (n ≡ number_in t)
  unfolding read_number
  was_read n e = by-test (is_number t) (λ h. (h, let z : Some n ≡ Some (number_in t) = e ∙ rw h in cc)) (λ h. let z : Some n ≡ None = e ∙ rw h in apart (cc))

  pub was-none : None ≡ read_number t → is_number t ≡ false
  unfolding read_number
  was-none e = by-test (is_number t) (λ h. let z : None ≡ Some (number_in t) = e ∙ rw h in apart (cc)) (λ h. h)
