-- The plain spelling, octet by octet. Assumes nothing.
use mathlib.Core.Path.{◌≡◌, refl, sym, ap, ◌∙◌}
use mathlib.Core.Bool.{true, false}
use mathlib.Core.List.{List, [], ◌∷◌}
use Prim.Native.Nat.{ℕ, suc, ◌+◌, ◌-◌, ◌*◌, ◌/◌, ◌%◌, ◌^◌, ◌<◌, ◌≤◌}
use native.Mathlib.Omega.{arith}
use native.Mathlib.Nat.{mul_assoc, mod-eq_of_lt}
use lib.Bits.{and_zero_r}
use lib.ListN.{length, get_or}
use lib.Pow.{pow-add, split}
use borrow.Author.Tests.{eq-eqb, ne_eqb, le-leb, lt-leb}
use Rattle.rule.specs.declared.Family.{Family}
use Rattle.spelling.specs.Plain.{Expected, Head, Kind, Length, Offset, PatternOctet, expected_at_start, pattern_after, after, plain_operand, plain_pattern, cleared_octet, plain_from, plain}

-- what the shifts of `plain_pattern` leave
pub shifted : (x k : ℕ) → x < 256 → x / 2 ^ k * 2 ^ k % 2 ^ 32 ≡ x / 2 ^ k * 2 ^ k
shifted x k h = mod-eq_of_lt (omega (arith, split x k))

pub shifted-small : (x k : ℕ) → x < 256 → x / 2 ^ k * 2 ^ k % 2 ^ 32 < 256
shifted-small x k h = rw (shifted x k h) (omega (arith, split x k))

pub whole-octet : (left x : ℕ) → 8 ≤ left → x ≡ plain_pattern left x
unfolding plain_pattern
whole-octet left x h = let z : 8 - left ≡ 0 = omega arith in rw z (omega arith)

-- an octet of a value stays an octet
pub operand_small : (ignored x r : ℕ) → r ≡ plain_operand ignored x → x < 256 → r < 256
unfolding plain_operand
operand_small ignored x r e h = rw e (omega arith)

-- and is kept whole where no bit is to be ignored
pub whole-operand : (ignored x : ℕ) → ignored ≡ 0 → plain_operand ignored x ≡ x
unfolding plain_operand
whole-operand ignored x e = rw (e, and_zero_r x) (omega arith)

-- an address's first octet above the n octets behind it: the bits still to come and the rest
pub above : (n left x : ℕ) → 8 < left → left ≤ 8 * suc n → x * 2 ^ (8 * n) ≡ x * 2 ^ (left - 8) * 2 ^ (8 * n - (left - 8))
above n left x h l =
    let e : 8 * n ≡ left - 8 + (8 * n - (left - 8)) = omega arith in
    ap (λ m. x * 2 ^ m) e ∙ rw (pow-add 2 (left - 8) (8 * n - (left - 8))) (sym (mul_assoc x (2 ^ (left - 8)) (2 ^ (8 * n - (left - 8)))))

module _ (family : Family) where
  -- the length never changes
  pub length-plain-from : (e : Expected) (v : List ℕ) → length (plain_from family e v) ≡ length v
  unfolding plain_from
  length-plain-from e [] = refl
  length-plain-from e (x ∷ xs) = ap suc (length-plain-from (after family e x) xs)

  pub length-plain : (v : List ℕ) → length (plain family v) ≡ length v
  unfolding plain
  length-plain v = length-plain-from (expected_at_start family) v

  -- a prefix's length octet is kept
  pub length-kept : (body : List ℕ) → get_or (plain_from family Length body) 0 0 ≡ get_or body 0 0
  unfolding plain_from cleared_octet
  length-kept [] = refl
  length-kept (x ∷ r) = refl

-- what is expected behind a prefix's length and offset
module _ (bits offset : ℕ) where
  pub pattern-none : bits ≤ offset → Kind ≡ pattern_after bits offset
  unfolding pattern_after
  pattern-none h = rw (le-leb _ _ h)

  pub pattern-some : offset < bits → PatternOctet (bits - offset) ≡ pattern_after bits offset
  unfolding pattern_after
  pattern-some h = rw (lt-leb _ _ h)

-- what is expected where a value begins
module _ (family : Family) where
  pub starts-with-kind : family.head ≡ 0 → Kind ≡ expected_at_start family
  unfolding expected_at_start
  starts-with-kind h = rw (eq-eqb family.head 0 h)

  pub starts-with-head : (family.head ≡ 0 → ⊥) → Head family.head ≡ expected_at_start family
  unfolding expected_at_start
  starts-with-head h = rw (ne_eqb family.head 0 h)

-- what is expected behind a prefix's length octet and behind its offset
module _ (family : Family) (e : Expected) (x : ℕ) where
  pub after-length-offset : e ≡ Length → family.offsets ≡ true → Offset x ≡ after family e x
  unfolding after
  after-length-offset h t = rw (h, t)

  pub after-length : (r : Expected) → e ≡ Length → family.offsets ≡ false → r ≡ pattern_after x 0 → r ≡ after family e x
  unfolding after
  after-length r h t k = rw (h, t) k

  pub after-offset : (bits : ℕ) (r : Expected) → e ≡ Offset bits → r ≡ pattern_after bits x → r ≡ after family e x
  unfolding after
  after-offset bits r h k = rw h k
