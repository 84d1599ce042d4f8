-- An address in two words of k bits, shifted. Assumes nothing.
use mathlib.Core.Path.{◌≡◌, ap, sym, ◌∙◌}
use Prim.Native.Nat.{ℕ, ◌+◌, ◌-◌, ◌*◌, ◌/◌, ◌%◌, ◌^◌, ◌≤◌, ◌<◌}
use native.Mathlib.Omega.{arith}
use native.Mathlib.Nat.{zero-add, mul_assoc, mul-mod_left, mul-add-div_right, div-eq_of_lt, div-one, lt_of_lt_of_le}
use native.Mathlib.Decide.{dec_lt}
use borrow.Author.Tests.{lt-ltb, le-ltb}
use Rattle.std.proofs.Common.{if◌then◌else◌, nat_lt}
use lib.Bits.{bit_or, or_shifted}
use lib.Pow.{pow_pos, pow_mono, pow-add, shr-shr, shr_lt, shl-shr, high, mod-pow-add, split}
use Rattle.prefix.specs.declared.Address.{Address}
use Rattle.prefix.specs.Prefix.{address_of}

-- a word of k bits has no more
wide : (k n x : ℕ) → k ≤ n → x < 2 ^ k → x < 2 ^ n
wide k n x h l = lt_of_lt_of_le l (pow_mono h)

-- and so nothing is left where it is shifted by k or more
no-more : (k n x : ℕ) → x < 2 ^ k → (if nat_lt n k then x / 2 ^ n else 0) ≡ x / 2 ^ n
no-more k n x l =
    elim (dec_lt n k) [ yes h ↦ rw (lt-ltb n k h) | no h ↦ rw (le-ltb n k (omega arith), div-eq_of_lt (wide k n x (omega arith) l)) ]

module _ (k h l : ℕ) (word : l < 2 ^ k) where
  -- shifted by at least a word, only the high one counts
  pub shift-far : (n rest : ℕ) → n ≡ k + rest → (h * 2 ^ k + l) / 2 ^ n ≡ h / 2 ^ rest
  shift-far n rest e = rw (e, ← shr-shr (h * 2 ^ k + l) k rest, high h k word)

  -- and by less, the high one moves up over what is left of the low one
  pub shift-near : (n back : ℕ) → k ≡ back + n → (h * 2 ^ k + l) / 2 ^ n ≡ h * 2 ^ back + l / 2 ^ n
  shift-near n back e = rw (e, pow-add 2 back n, ← mul_assoc h (2 ^ back) (2 ^ n)) (mul-add-div_right (pow_pos n) (h * 2 ^ back) l)

  pub rest-fits : (n back : ℕ) → k ≡ back + n → l / 2 ^ n < 2 ^ back
  rest-fits n back e = shr_lt back n (rw e at word)

  -- what the shifted words are: the high one's lowest bits go into the low one
  pub shifted-words : (n back : ℕ) → k ≡ back + n → h / 2 ^ n * 2 ^ k + bit_or (h * 2 ^ back % 2 ^ k) (l / 2 ^ n) ≡ (h * 2 ^ k + l) / 2 ^ n
  shifted-words n back e =
      let over : h * 2 ^ back % 2 ^ (n + back) ≡ h % 2 ^ n * 2 ^ back =
      rw (mod-pow-add (h * 2 ^ back) n back, shl-shr h back, mul-mod_left h (2 ^ back)) (omega arith) in
      let f : k ≡ n + back = omega arith in
      let s = ap (λ (x : ℕ). x * 2 ^ back) (split h n) in
      rw (shift-near n back e, ap (λ (m : ℕ). h * 2 ^ back % 2 ^ m) f, over, or_shifted (h % 2 ^ n) back (l / 2 ^ n) (rest-fits n back e), f, pow-add 2 n back) (omega arith)

-- how the code comes to its answers, in words of 64 bits
module _ (n : ℕ) (a : Address) (fits : a.low < 2 ^ 64) where
  pub not-shifted : n ≡ 0 → address_of a ≡ address_of a / 2 ^ n
  not-shifted e = rw e (sym (div-one (address_of a)))

  pub shifted-far : a.high < 2 ^ 64 → (rest : ℕ) → 64 ≤ n → rest ≡ (if nat_lt (n - 64) 64 then a.high / 2 ^ (n - 64) else 0)
      → address_of (record { high = 0; low = rest }) ≡ address_of a / 2 ^ n
  shifted-far word rest h e =
      zero-add rest ∙ e ∙ no-more 64 (n - 64) a.high word ∙ sym (shift-far 64 a.high a.low fits n (n - 64) (omega arith))

  pub shifted-near : n < 64
      → address_of (record { high = a.high / 2 ^ n; low = bit_or (a.high * 2 ^ (64 - n) % 2 ^ 64) (a.low / 2 ^ n) }) ≡ address_of a / 2 ^ n
  shifted-near h = shifted-words 64 a.high a.low fits n (64 - n) (omega arith)
