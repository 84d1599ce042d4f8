-- Addresses of any number of words, compared and cut word by word under masks. Assumes nothing.
use mathlib.Core.Path.{◌≡◌, refl, ap, sym, subst, ◌∙◌}
use mathlib.Core.Bool.{Bool, true, ◌&&◌}
use Prim.Native.Nat.{ℕ, zero, suc, ◌+◌, ◌-◌, ◌*◌, ◌/◌, ◌%◌, ◌^◌, ◌≤◌, ◌<◌, min}
use native.Mathlib.Omega.{arith}
use native.Mathlib.Decide.{dec_lt}
use native.Mathlib.Nat.{mod-lt, mod-eq_of_lt, one-mul, zero-mul, mul_comm, mul-sub, suc-mul, zero-sub, zero-min, min-le_right, lt_of_lt_of_le, mul-le-mul_right}
use lib.Bits.{bit_and, and_zero_r, and_comm, and_mask, and_high, and_block, and_lt}
use lib.Dec.{eqb, lit<}
use lib.Pow.{pow_pos, pow_mono, pow-add, shl_exact, shl-shr, shr_lt, split, high, low, field}
use borrow.Author.Tests.{eq-eqb, eqb-true}
use Rattle.octets.specs.Test.{same_list}
use Rattle.octets.proofs.Cases.{same_test}
use Rattle.prefix.proofs.BitLaws.{eqb-parts, no_bits, same-between}
use Rattle.prefix.specs.declared.Address.{Address}
use Rattle.prefix.specs.Prefix.{address_of, bits_between}

-- the bits below h that are not below l; there are none where h is not above l
abbrev pub mask : ℕ → ℕ → ℕ
mask h l = 2 ^ h - 2 ^ l

-- the part of a mask that stands in the lowest word of k bits
abbrev pub word_mask : ℕ → ℕ → ℕ → ℕ
word_mask k h l = mask (min h k) (min l k)

no-mask : (h l : ℕ) → h ≤ l → mask h l ≡ 0
no-mask h l e = omega (arith, pow_mono e)

-- what a mask leaves of a number
masked : (h l a : ℕ) → l ≤ h → bit_and a (mask h l) ≡ a % 2 ^ h / 2 ^ l * 2 ^ l
masked h l a e =
    let f : h - l + l ≡ h = omega arith in
    subst (λ (n : ℕ). bit_and a (mask n l) ≡ a % 2 ^ n / 2 ^ l * 2 ^ l) f (and_high a (h - l) l ∙ ap (λ (x : ℕ). x * 2 ^ l) (sym (field a (h - l) l)))

same-times : (k x y : ℕ) → eqb (x * 2 ^ k) (y * 2 ^ k) ≡ eqb x y
same-times k x y =
    same_test (eqb (x * 2 ^ k) (y * 2 ^ k)) (eqb x y)
    (λ t. eq-eqb x y (sym (shl-shr x k) ∙ ap (λ (n : ℕ). n / 2 ^ k) (eqb-true (x * 2 ^ k) (y * 2 ^ k) t) ∙ shl-shr y k))
    (λ t. eq-eqb (x * 2 ^ k) (y * 2 ^ k) (ap (λ (n : ℕ). n * 2 ^ k) (eqb-true x y t)))

-- the bits of two addresses of w bits from m up to n are the same exactly where the addresses agree under one mask
pub same-masked : (w m n a b : ℕ)
    → same_list (bits_between w m n a) (bits_between w m n b) ≡ eqb (bit_and a (mask (w - m) (w - n))) (bit_and b (mask (w - m) (w - n)))
same-masked w m n a b =
    elim (dec_lt m n) [
      | yes h ↦
          rw (masked (w - m) (w - n) a (omega arith), masked (w - m) (w - n) b (omega arith), same-times)
          (same-between w m n a b (omega arith))
      | no h ↦ rw (no-mask (w - m) (w - n) (omega arith), and_zero_r a, and_zero_r b) (sym (no_bits w m n a b (omega arith)))
    ]

above : (k h : ℕ) → k ≤ h → 2 ^ (h - k) * 2 ^ k ≡ 2 ^ h
above k h e = sym (pow-add 2 (h - k) k) ∙ ap (λ (n : ℕ). 2 ^ n) (omega arith)

mask-above : (k h l : ℕ) → mask h l * 2 ^ k ≡ 2 ^ h * 2 ^ k - 2 ^ l * 2 ^ k
mask-above k h l = rw (mul_comm (mask h l) (2 ^ k), mul-sub (2 ^ k) (2 ^ h) (2 ^ l), mul_comm (2 ^ k) (2 ^ h), mul_comm (2 ^ k) (2 ^ l))

-- a mask is its lowest word of k bits, and a mask above it
mask-words : (k h l : ℕ) → mask h l ≡ mask (h - k) (l - k) * 2 ^ k + word_mask k h l
mask-words k h l =
    elim (dec_lt h k) [
      | yes a ↦
          let i : min h k ≡ h = omega arith in
          let z : h - k ≡ 0 = omega arith in
          elim (dec_lt l k) [
            | yes b ↦
                let j : min l k ≡ l = omega arith in
                let y : l - k ≡ 0 = omega arith in
                rw (i, z, j, y) (omega arith)
            | no b ↦
                let j : min l k ≡ k = omega arith in
                rw (i, z, j, no-mask 0 (l - k) (omega arith), no-mask h l (omega arith), no-mask h k (omega arith)) (omega arith)
          ]
      | no a ↦
          let i : min h k ≡ k = omega arith in
          elim (dec_lt l k) [
            | yes b ↦
                let j : min l k ≡ l = omega arith in
                let y : l - k ≡ 0 = omega arith in
                rw (mask-above k (h - k) (l - k), i, j, y, above k h (omega arith)) (omega (arith, pow_mono {i = l} {j = k} (omega arith), pow_mono {i = k} {j = h} (omega arith)))
            | no b ↦
                let j : min l k ≡ k = omega arith in
                rw (mask-above k (h - k) (l - k), i, j, above k h (omega arith), above k l (omega arith)) (omega arith)
          ]
    ]

word_fits : (k h l : ℕ) → word_mask k h l < 2 ^ k
word_fits k h l = omega (arith, pow_mono (min-le_right h k), pow_pos (min l k), pow_pos k)

-- whether two addresses of c words of k bits agree in every word under its part of a mask, the lowest word last
unfoldable pub agree : ℕ → ℕ → ℕ → ℕ → ℕ → ℕ → Bool
agree k zero h l a b = true
agree k (suc c) h l a b =
    agree k c (h - k) (l - k) (a / 2 ^ k) (b / 2 ^ k)
    && eqb (bit_and (a % 2 ^ k) (word_mask k h l)) (bit_and (b % 2 ^ k) (word_mask k h l))

-- what a mask leaves of an address is what it leaves of its lowest word and of the words above
left : (k h l a : ℕ)
    → bit_and a (mask h l) ≡ bit_and (a / 2 ^ k) (mask (h - k) (l - k)) * 2 ^ k + bit_and (a % 2 ^ k) (word_mask k h l)
left k h l a =
    rw (mask-words k h l)
    (ap (λ (n : ℕ). bit_and n (mask (h - k) (l - k) * 2 ^ k + word_mask k h l)) (sym (split a k))
    ∙ and_block k (a / 2 ^ k) (mask (h - k) (l - k)) (a % 2 ^ k) (word_mask k h l) (mod-lt a (pow_pos k)) (word_fits k h l))

left-fits : (k h l a : ℕ) → bit_and (a % 2 ^ k) (word_mask k h l) < 2 ^ k
left-fits k h l a = and_lt k (a % 2 ^ k) (word_mask k h l) (mod-lt a (pow_pos k)) (word_fits k h l)

fewer : (k c a : ℕ) → a < 2 ^ (suc c * k) → a / 2 ^ k < 2 ^ (c * k)
fewer k c a h = shr_lt (c * k) k (rw (suc-mul c k) at h)

agree-masked : (k c h l a b : ℕ) → a < 2 ^ (c * k) → b < 2 ^ (c * k) → eqb (bit_and a (mask h l)) (bit_and b (mask h l)) ≡ agree k c h l a b
unfolding agree
agree-masked k zero h l a b f g =
    let x : a ≡ 0 = omega (arith, rw (zero-mul k) at f) in
    let y : b ≡ 0 = omega (arith, rw (zero-mul k) at g) in
    rw (x, y) (eq-eqb (bit_and 0 (mask h l)) (bit_and 0 (mask h l)) refl)
agree-masked k (suc c) h l a b f g =
    rw (left k h l a, left k h l b, ← agree-masked k c (h - k) (l - k) (a / 2 ^ k) (b / 2 ^ k) (fewer k c a f) (fewer k c b g))
    (eqb-parts k (bit_and (a / 2 ^ k) (mask (h - k) (l - k))) (bit_and (b / 2 ^ k) (mask (h - k) (l - k)))
    (bit_and (a % 2 ^ k) (word_mask k h l)) (bit_and (b % 2 ^ k) (word_mask k h l)) (left-fits k h l a) (left-fits k h l b))

-- the bits from m up to n of two addresses of w bits, held in c words of k bits, are the same exactly where every word agrees under its mask
pub same-words : (k c w m n a b : ℕ) → a < 2 ^ (c * k) → b < 2 ^ (c * k)
    → same_list (bits_between w m n a) (bits_between w m n b) ≡ agree k c (w - m) (w - n) a b
same-words k c w m n a b f g = same-masked w m n a b ∙ agree-masked k c (w - m) (w - n) a b f g

-- the bits of a mask below n are its lowest word of n bits
cut-mask : (n h l : ℕ) → mask h l % 2 ^ n ≡ word_mask n h l
cut-mask n h l = rw (mask-words n h l) (low (mask (h - n) (l - n)) n (word_fits n h l))

-- a lower bound above the upper one is as good as the upper one
lesser : (h l : ℕ) → mask h (min l h) ≡ mask h l
lesser h l =
    elim (dec_lt h l) [
      | yes e ↦ let f : min l h ≡ h = omega arith in rw (f, no-mask h l (omega arith)) (no-mask h h (omega arith))
      | no e ↦ let f : min l h ≡ l = omega arith in rw f
    ]

-- the lowest h bits of a word without its lowest l
mask-without : (k h l : ℕ) → h ≤ k → l ≤ k → bit_and (2 ^ h - 1) (2 ^ k - 1 - (2 ^ l - 1)) ≡ mask h l
mask-without k h l e f =
    let d : 2 ^ k - 1 - (2 ^ l - 1) ≡ mask k l = omega (arith, pow_pos l) in
    let g : min k h ≡ h = omega arith in
    and_comm (2 ^ h - 1) (2 ^ k - 1 - (2 ^ l - 1)) ∙ rw (d, and_mask (mask k l) h, cut-mask h k l, g) (lesser h l)

-- how the code comes to its masks, in words of 64 bits
pub all-bits : (n : ℕ) → 64 ≤ n → 2 ^ 64 - 1 ≡ 2 ^ min n 64 - 1
all-bits n h = let e : min n 64 ≡ 64 = omega arith in rw e

one_at : (n : ℕ) → n < 64 → 1 * 2 ^ n % 2 ^ 64 ≡ 2 ^ n
one_at n h = shl_exact {a = 1} 1 n 64 (lit< tt) (omega arith) ∙ one-mul (2 ^ n)

pub one-fits : (n : ℕ) → n < 64 → 1 ≤ 1 * 2 ^ n % 2 ^ 64
one-fits n h = rw (one_at n h) (pow_pos n)

pub some_bits : (n : ℕ) → n < 64 → 1 * 2 ^ n % 2 ^ 64 - 1 ≡ 2 ^ min n 64 - 1
some_bits n h = let e : min n 64 ≡ n = omega arith in rw (one_at n h, e)

pub between : (h l x y : ℕ) → x ≡ 2 ^ min h 64 - 1 → y ≡ 2 ^ min l 64 - 1 → bit_and x (2 ^ 64 - 1 - y) ≡ word_mask 64 h l
between h l x y e f = rw (e, f) (mask-without 64 (min h 64) (min l 64) (min-le_right h 64) (min-le_right l 64))

-- two words of k bits make an address of two words, and are its words
two-fit : (k h l : ℕ) → h < 2 ^ k → l < 2 ^ k → h * 2 ^ k + l < 2 ^ (2 * k)
two-fit k h l e f =
    let g : 2 * k ≡ k + k = omega arith in
    rw (g, pow-add 2 k k) (omega (arith, mul-le-mul_right (2 ^ k) e))

two-agree : (k h l a b x y : ℕ) → a < 2 ^ k → b < 2 ^ k → x < 2 ^ k → y < 2 ^ k
    → agree k 2 h l (a * 2 ^ k + x) (b * 2 ^ k + y)
    ≡ eqb (bit_and a (word_mask k (h - k) (l - k))) (bit_and b (word_mask k (h - k) (l - k)))
    && eqb (bit_and x (word_mask k h l)) (bit_and y (word_mask k h l))
unfolding agree
two-agree k h l a b x y e f g i = rw (high a k g, high b k i, low a k g, low b k i, mod-eq_of_lt e, mod-eq_of_lt f)

-- how the code comes to its answer
pub by-masks : (w m n highest lowest up down upper lower : ℕ) (a b : Address) → a.high < 2 ^ 64 → b.high < 2 ^ 64 → a.low < 2 ^ 64 → b.low < 2 ^ 64
    → highest ≡ w - m → lowest ≡ w - n → up ≡ highest - 64 → down ≡ lowest - 64
    → upper ≡ word_mask 64 up down → lower ≡ word_mask 64 highest lowest → (p q : Bool)
    → p ≡ eqb (bit_and a.high upper) (bit_and b.high upper) → q ≡ eqb (bit_and a.low lower) (bit_and b.low lower)
    → p && q ≡ same_list (bits_between w m n (address_of a)) (bits_between w m n (address_of b))
by-masks w m n highest lowest up down upper lower a b ah bh al bl e f g h i j p q r s =
    rw (r, s, i, j, g, h, e, f)
    (sym (same-words 64 2 w m n (address_of a) (address_of b) (two-fit 64 a.high a.low ah al) (two-fit 64 b.high b.low bh bl)
    ∙ two-agree 64 (w - m) (w - n) a.high b.high a.low b.low ah bh al bl))

-- the same of addresses of fewer than 64 bits, whose high word has none of the bits
pub by-low-mask : (w m n highest lowest lower : ℕ) (a b : Address) → a.high < 2 ^ 64 → b.high < 2 ^ 64 → a.low < 2 ^ 64 → b.low < 2 ^ 64
    → w < 64 → highest ≡ w - m → lowest ≡ w - n → lower ≡ word_mask 64 highest lowest → (q : Bool)
    → q ≡ eqb (bit_and a.low lower) (bit_and b.low lower)
    → q ≡ same_list (bits_between w m n (address_of a)) (bits_between w m n (address_of b))
by-low-mask w m n highest lowest lower a b ah bh al bl narrow e f j q s =
    by-masks w m n highest lowest 0 0 0 lower a b ah bh al bl e f (omega arith) (omega arith) refl j true q
    (rw (and_zero_r a.high, and_zero_r b.high))
    s

-- the lowest n bits of a word of k bits are those below the lesser of n and k
enough : (k n x : ℕ) → x < 2 ^ k → x % 2 ^ min n k ≡ x % 2 ^ n
enough k n x h =
    elim (dec_lt n k) [
      | yes e ↦ let f : min n k ≡ n = omega arith in rw f
      | no e ↦
          let f : min n k ≡ k = omega arith in
          rw (f, mod-eq_of_lt h) (sym (mod-eq_of_lt (lt_of_lt_of_le h (pow_mono {i = k} {j = n} (omega arith)))))
    ]

-- an address in two words is cut to its lowest n bits where the words are cut to those below n
cut-words : (k n h l : ℕ) → h < 2 ^ k → l < 2 ^ k → bit_and h (2 ^ min (n - k) k - 1) * 2 ^ k + bit_and l (2 ^ min n k - 1) ≡ (h * 2 ^ k + l) % 2 ^ n
cut-words k n h l e f =
    rw (and_mask h (min (n - k) k), enough k (n - k) h e)
    (ap (λ (x : ℕ). x * 2 ^ k + bit_and l (2 ^ min n k - 1)) (sym (and_mask h (n - k)))
    ∙ rw (zero-sub k, zero-min k, high h k f, low h k f) at (sym (left k n 0 (h * 2 ^ k + l)))
    ∙ and_mask (h * 2 ^ k + l) n)

pub low-words : (n rest upper lower : ℕ) (a : Address) → a.high < 2 ^ 64 → a.low < 2 ^ 64
    → rest ≡ n - 64 → upper ≡ 2 ^ min rest 64 - 1 → lower ≡ 2 ^ min n 64 - 1
    → address_of (record { high = bit_and a.high upper; low = bit_and a.low lower }) ≡ address_of a % 2 ^ n
low-words n rest upper lower a h l e f g = rw (f, g, e) (cut-words 64 n a.high a.low h l)
