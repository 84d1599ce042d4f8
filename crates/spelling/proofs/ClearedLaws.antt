-- What clearing the ignored bits of an octet keeps: an operator's size and end, what is expected next, what is cleared already, and that
-- it is an octet. The masks are computed at all 256 octets. Assumes nothing.
use mathlib.Core.Path.{◌≡◌, refl, ap, ◌∙◌}
use mathlib.Core.Bool.{Bool, true, false, cond, beq}
use mathlib.Core.List.{List, [], ◌∷◌}
use Prim.Native.Nat.{ℕ, zero, suc, ◌/◌, ◌%◌, ◌-◌, ◌^◌, ◌<◌, min}
use native.Mathlib.Omega.{arith}
use native.Mathlib.Nat.{min-le_left}
use lib.Arith.{bin_ind}
use lib.Bits.{bit_and, and_step, and_le_l}
use lib.Dec.{ltb, eqb}
use lib.Pow.{shl-shr, split}
use borrow.Author.Tests.{ltb-true}
use Rattle.octets.proofs.Facts.{Octets, all_below, below, octet, octet-test}
use Rattle.rule.specs.declared.Family.{Family}
use Rattle.spelling.specs.Plain.{Expected, Head, Kind, Length, Offset, PatternOctet, Operator, Operand, expected_at_start, after, without_reserved, plain_operator, plain_operand, plain_pattern, cleared_octet, plain_from, plain}
use Rattle.rule.specs.Shape.{shape_of}
use Rattle.rule.specs.Operator.{ends_list, size_of}
use Rattle.spelling.proofs.PlainLaws.{operand_small}

-- an operator is cleared by one of four masks: what holds of each holds of the clearing
masked : (P : (ℕ → ℕ) → Type 0) → P (λ y. bit_and (bit_and y 0xf3) 0xbf) → P (λ y. bit_and y 0xf3) → P (λ y. bit_and (bit_and y 0xf7) 0xbf) → P (λ y. bit_and y 0xf7)
    → (bitmask first : Bool) → P (λ y. plain_operator bitmask first y)
unfolding plain_operator without_reserved
masked P p q r s bitmask first = go bitmask first
  where
    go : (b f : Bool) → P (λ y. cond f (bit_and (cond b (bit_and y 0xf3) (bit_and y 0xf7)) 0xbf) (cond b (bit_and y 0xf3) (bit_and y 0xf7)))
    go true true = p
    go true false = q
    go false true = r
    go false false = s

module _ (bitmask first : Bool) (x : ℕ) (small : x < 256) where
  pub size-kept : size_of (plain_operator bitmask first x) ≡ size_of x
  unfolding size_of
  size-kept =
      octet (λ y. size_of (plain_operator bitmask first y)) size_of
      (masked (λ f. all_below 256 (λ y. eqb (size_of (f y)) (size_of y)) ≡ true) refl refl refl refl bitmask first) x small

  pub end_kept : ends_list (plain_operator bitmask first x) ≡ ends_list x
  unfolding ends_list
  end_kept =
      octet-test (λ y. ends_list (plain_operator bitmask first y)) ends_list
      (masked (λ f. all_below 256 (λ y. beq (ends_list (f y)) (ends_list y)) ≡ true) refl refl refl refl bitmask first) x small

  operator-again : plain_operator bitmask first (plain_operator bitmask first x) ≡ plain_operator bitmask first x
  operator-again =
      octet (λ y. plain_operator bitmask first (plain_operator bitmask first y)) (plain_operator bitmask first)
      (masked (λ f. all_below 256 (λ y. eqb (f (f y)) (f y)) ≡ true) refl refl refl refl bitmask first) x small

  pub operator-small : plain_operator bitmask first x < 256
  operator-small =
      ltb-true _ _
      (below 256 (λ y. ltb (plain_operator bitmask first y) 256) (masked (λ f. all_below 256 (λ y. ltb (f y) 256) ≡ true) refl refl refl refl bitmask first) x small)

-- bits that are taken away are gone, digit by digit
none_left : (x y : ℕ) → x < 2 → y < 2 → min (x - min x y) y ≡ 0
none_left zero zero h k = refl
none_left zero (suc zero) h k = refl
none_left (suc zero) zero h k = refl
none_left (suc zero) (suc zero) h k = refl
none_left zero (suc (suc y)) h k = absurd (omega arith)
none_left (suc zero) (suc (suc y)) h k = absurd (omega arith)
none_left (suc (suc x)) y h k = absurd (omega arith)

taken : (x m : ℕ) → bit_and (x - bit_and x m) m ≡ 0
taken =
    bin_ind (λ n. (m : ℕ) → bit_and (n - bit_and n m) m ≡ 0) (λ m. refl)
    (λ n ih m.
    let step = and_step n m in
    let high = and_le_l (n / 2) (m / 2) in
    let low = min-le_left (n % 2) (m % 2) in
    let half : (n - bit_and n m) / 2 ≡ n / 2 - bit_and (n / 2) (m / 2) = omega arith in
    let digit : (n - bit_and n m) % 2 ≡ n % 2 - min (n % 2) (m % 2) = omega arith in
    and_step (n - bit_and n m) m ∙ rw (half, digit, ih (m / 2), none_left (n % 2) (m % 2) (omega arith) (omega arith)))

pub operand-again : (ignored x : ℕ) → plain_operand ignored (plain_operand ignored x) ≡ plain_operand ignored x
unfolding plain_operand
operand-again ignored x = rw (taken x ignored) (omega arith)

address-again : (left x : ℕ) → plain_pattern left (plain_pattern left x) ≡ plain_pattern left x
unfolding plain_pattern
address-again left x = rw (shl-shr (x / 2 ^ (8 - left)) (8 - left))

module _ (family : Family) where
  -- an octet that is cleared stays as it is
  pub cleared-again : (e : Expected) (x : ℕ) → x < 256 → cleared_octet family e (cleared_octet family e x) ≡ cleared_octet family e x
  unfolding cleared_octet
  cleared-again (Head left) x h = refl
  cleared-again Kind x h = refl
  cleared-again Length x h = refl
  cleared-again (Offset length) x h = refl
  cleared-again (PatternOctet left) x h = address-again left x
  cleared-again (Operator kind first) x h = operator-again (shape_of family kind).bitmask first x h
  cleared-again (Operand kind left last) x h = operand-again (shape_of family kind).ignored x

  -- what is expected next does not hang on ignored bits
  pub after-cleared : (e : Expected) (x : ℕ) → x < 256 → after family e (cleared_octet family e x) ≡ after family e x
  unfolding after cleared_octet
  after-cleared (Head left) x h = refl
  after-cleared Kind x h = refl
  after-cleared Length x h = refl
  after-cleared (Offset length) x h = refl
  after-cleared (PatternOctet left) x h = refl
  after-cleared (Operator kind first) x h = λ i. Operand kind (size-kept (shape_of family kind).bitmask first x h i) (end_kept (shape_of family kind).bitmask first x h i)
  after-cleared (Operand kind left last) x h = refl

  -- the plain spelling is plain
  pub plain-from-again : (e : Expected) (v : List ℕ) → Octets v → plain_from family e (plain_from family e v) ≡ plain_from family e v
  unfolding plain_from
  plain-from-again e [] o = refl
  plain-from-again e (x ∷ xs) o =
      rw (cleared-again e x (o 0), after-cleared e x (o 0))
      (ap (λ (l : List ℕ). cleared_octet family e x ∷ l) (plain-from-again (after family e x) xs (λ i. o (suc i))))

  pub plain-again : (v : List ℕ) → Octets v → plain family (plain family v) ≡ plain family v
  unfolding plain
  plain-again v o = plain-from-again (expected_at_start family) v o

  -- an octet that is cleared is an octet
  pub cleared-small : (e : Expected) (x : ℕ) → x < 256 → cleared_octet family e x < 256
  unfolding cleared_octet plain_pattern
  cleared-small (Head left) x h = h
  cleared-small Kind x h = h
  cleared-small Length x h = h
  cleared-small (Offset length) x h = h
  cleared-small (PatternOctet left) x h = omega (arith, split x (8 - left))
  cleared-small (Operator kind first) x h = operator-small (shape_of family kind).bitmask first x h
  cleared-small (Operand kind left last) x h = operand_small (shape_of family kind).ignored x (plain_operand (shape_of family kind).ignored x) refl h

  -- the plain spelling of octets is octets
  pub octets-plain-from : (e : Expected) (v : List ℕ) → Octets v → Octets (plain_from family e v)
  unfolding plain_from
  octets-plain-from e [] o i = omega arith
  octets-plain-from e (x ∷ xs) o zero = cleared-small e x (o 0)
  octets-plain-from e (x ∷ xs) o (suc i) = octets-plain-from (after family e x) xs (λ j. o (suc j)) i

  pub octets-plain : (v : List ℕ) → Octets v → Octets (plain family v)
  unfolding plain
  octets-plain v o = octets-plain-from (expected_at_start family) v o
