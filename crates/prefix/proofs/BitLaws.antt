-- The bits of an address, as a list and as a number. Assumes nothing.
use mathlib.Core.Path.{◌≡◌, refl, ap, sym, subst, ◌∙◌}
use mathlib.Core.Bool.{true, ◌&&◌}
use mathlib.Core.List.{List, [], ◌∷◌}
use Prim.Native.Nat.{ℕ, zero, suc, ◌+◌, ◌-◌, ◌*◌, ◌/◌, ◌%◌, ◌^◌, ◌≤◌, ◌<◌}
use native.Mathlib.Omega.{arith}
use native.Mathlib.Decide.{dec_lt}
use native.Mathlib.Nat.{mod-lt, mod-one, add_comm, add-suc, sub-zero, zero-sub, suc-sub-suc}
use native.Mathlib.Numerals.{add-one}
use lib.Dec.{eqb}
use lib.ListN.{length, take, drop}
use lib.Seq.{take_all, take-nil, length-take-le}
use lib.Pow.{pow_pos, split, high, low, mod-pow-add, field, shr-shr}
use borrow.Author.Tests.{eq-eqb, eqb-true}
use Rattle.octets.specs.Test.{same_list}
use Rattle.octets.proofs.Cases.{both, same_test}
use Rattle.prefix.specs.Prefix.{bits, bits_between}

-- the first n bits of an address of w bits
abbrev pub first_bits : ℕ → ℕ → ℕ → List ℕ
first_bits w n a = take n (bits w a)

-- there are w bits
pub length-bits : (w a : ℕ) → length (bits w a) ≡ w
unfolding bits
length-bits zero a = refl
length-bits (suc w) a = ap suc (length-bits w a)

-- the first n bits are the bits of the address shifted until only they are left
pub first-shifted : (k n a : ℕ) → first_bits (k + n) n a ≡ bits n (a / 2 ^ k)
unfolding bits
first-shifted k zero a = refl
first-shifted k (suc n) a = rw (add-suc k n) (λ i. (sym (shr-shr a k n) i % 2) ∷ first-shifted k n a i)

-- two numbers are equal where their high and their low parts are
pub eqb-parts : (k x y u v : ℕ) → u < 2 ^ k → v < 2 ^ k → eqb (x * 2 ^ k + u) (y * 2 ^ k + v) ≡ eqb x y && eqb u v
eqb-parts k x y u v h l =
    same_test (eqb (x * 2 ^ k + u) (y * 2 ^ k + v)) (eqb x y && eqb u v)
    (λ t.
    let e = eqb-true (x * 2 ^ k + u) (y * 2 ^ k + v) t in
    rw (eq-eqb x y (sym (high x k h) ∙ ap (λ (n : ℕ). n / 2 ^ k) e ∙ high y k l))
    (eq-eqb u v (sym (low x k h) ∙ ap (λ (n : ℕ). n % 2 ^ k) e ∙ low y k l)))
    (λ t.
    let p = both (eqb x y) (eqb u v) t in
    eq-eqb (x * 2 ^ k + u) (y * 2 ^ k + v) (λ i. eqb-true x y p.0 i * 2 ^ k + eqb-true u v p.1 i))

-- numbers with k clear bits are equal where they are once shifted
pub same-clear : (k a b : ℕ) → a / 2 ^ k ≡ b / 2 ^ k → a % 2 ^ k ≡ 0 → b % 2 ^ k ≡ 0 → a ≡ b
same-clear k a b e u v = let x = split a k in let y = rw (← e) at (split b k) in omega arith

-- a number of one bit more is that bit, then the rest
pub top_bit : (n a : ℕ) → a % 2 ^ suc n ≡ a / 2 ^ n % 2 * 2 ^ n + a % 2 ^ n
top_bit n a = rw (← add-one n, add_comm n 1) (mod-pow-add a 1 n)

-- the same bits are equal numbers
pub same_number : (n a b : ℕ) → same_list (bits n a) (bits n b) ≡ eqb (a % 2 ^ n) (b % 2 ^ n)
unfolding bits same_list
same_number zero a b = rw (mod-one a, mod-one b)
same_number (suc n) a b =
    rw (same_number n a b, top_bit n a, top_bit n b)
    (sym (eqb-parts n (a / 2 ^ n % 2) (b / 2 ^ n % 2) (a % 2 ^ n) (b % 2 ^ n) (mod-lt a (pow_pos n)) (mod-lt b (pow_pos n))))

-- an address of w bits, shifted until only its first n are left
module _ (w n a : ℕ) (h : n ≤ w) where
  pub first_of : first_bits w n a ≡ bits n (a / 2 ^ (w - n))
  first_of = let e : w - n + n ≡ w = omega arith in subst (λ (v : ℕ). first_bits v n a ≡ bits n (a / 2 ^ (w - n))) e (first-shifted (w - n) n a)

  pub cut-shifted : a / 2 ^ (w - n) % 2 ^ n ≡ a % 2 ^ w / 2 ^ (w - n)
  cut-shifted =
      let e : n + (w - n) ≡ w = omega arith in
      sym (subst (λ (v : ℕ). a % 2 ^ v / 2 ^ (w - n) ≡ a / 2 ^ (w - n) % 2 ^ n) e (field a n (w - n)))

-- the first n bits of two addresses are the same where the addresses, cut to their w bits and so shifted, are equal
same-shifted : (w n a b : ℕ) → n ≤ w
    → same_list (first_bits w n a) (first_bits w n b) ≡ eqb (a % 2 ^ w / 2 ^ (w - n)) (b % 2 ^ w / 2 ^ (w - n))
same-shifted w n a b h = rw (first_of w n a h, first_of w n b h, same_number, cut-shifted w n a h, cut-shifted w n b h)

-- the bits down to where the first n reach are the first n, or all of them
reached : (w n a : ℕ) → first_bits w (w - (w - n)) a ≡ first_bits w n a
reached w n a =
    elim (dec_lt n w) [
      | yes h ↦ let e : w - (w - n) ≡ n = omega arith in rw e
      | no h ↦
          let e : w - (w - n) ≡ w = omega arith in
          let l = length-bits w a in
          rw (e, take_all w (bits w a) (omega arith), take_all n (bits w a) (omega arith))
    ]

-- the first n bits of two addresses, or all of them, are the same where what is left when the others are taken away is equal
same_first : (w n lowest a b : ℕ) → lowest ≡ w - n → eqb (a % 2 ^ w / 2 ^ lowest) (b % 2 ^ w / 2 ^ lowest) ≡ same_list (first_bits w n a) (first_bits w n b)
same_first w n lowest a b is =
    let e : w - (w - (w - n)) ≡ lowest = omega arith in
    rw (← reached w n a, ← reached w n b) (sym (same-shifted w (w - (w - n)) a b (omega arith) ∙ rw e))

-- behind the first m bits stand the lower ones
drop_bits : (w m a : ℕ) → drop m (bits w a) ≡ bits (w - m) a
unfolding bits
drop_bits w zero a = rw (sub-zero w)
drop_bits zero (suc m) a = rw (zero-sub (suc m))
drop_bits (suc w) (suc m) a = rw (suc-sub-suc w m) (drop_bits w m a)

drop-take : {A : Type 0} (m n : ℕ) (l : List A) → drop m (take n l) ≡ take (n - m) (drop m l)
drop-take zero n l = rw (sub-zero n)
drop-take (suc m) zero l = rw (zero-sub (suc m))
drop-take (suc m) (suc n) [] = sym (take-nil (suc n - suc m))
drop-take (suc m) (suc n) (x ∷ l) = rw (suc-sub-suc n m) (drop-take m n l)

-- the bits from m up to n are the first n - m of those behind the first m
pub between_first : (w m n a : ℕ) → bits_between w m n a ≡ first_bits (w - m) (n - m) a
between_first w m n a = drop-take m n (bits w a) ∙ ap (take (n - m)) (drop_bits w m a)

pub length-between : (w m n a : ℕ) → n ≤ w → length (bits_between w m n a) ≡ n - m
length-between w m n a h =
    let e = length-bits (w - m) a in
    rw (between_first w m n a) (length-take-le (n - m) (bits (w - m) a) (omega arith))

-- no bits are the same bits
pub no_bits : (w m n a b : ℕ) → n ≤ m → true ≡ same_list (bits_between w m n a) (bits_between w m n b)
unfolding same_list
no_bits w m n a b h = let e : n - m ≡ 0 = omega arith in rw (between_first w m n a, between_first w m n b, e)

-- the bits of two addresses from m up to n are the same where what is left when those before and behind are taken away is equal
pub same-between : (w m n a b : ℕ) → m ≤ n
    → same_list (bits_between w m n a) (bits_between w m n b) ≡ eqb (a % 2 ^ (w - m) / 2 ^ (w - n)) (b % 2 ^ (w - m) / 2 ^ (w - n))
same-between w m n a b h =
    rw (between_first w m n a, between_first w m n b) (sym (same_first (w - m) (n - m) (w - n) a b (omega arith)))
