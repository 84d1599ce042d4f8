-- The order of patterns of any width is that of their offsets and then of their bits, where what runs out first comes later; so it has
-- all the laws of an order, and a tie is between equal patterns. Assumes nothing.
use mathlib.Core.Path.{◌≡◌, refl, sym, ap, ◌∙◌}
use mathlib.Core.Bool.{Bool, true, false, cond, ◌&&◌, ◌||◌, and-false}
use mathlib.Core.List.{◌∷◌}
use Prim.Native.Nat.{ℕ, zero, suc, ◌+◌, ◌-◌, ◌*◌, ◌/◌, ◌%◌, ◌^◌, ◌≤◌, ◌<◌}
use Prim.Native.Nat.{compare, Ordering}
use native.Mathlib.Omega.{arith}
use native.Mathlib.Decide.{dec_lt}
use native.Mathlib.Nat.{mod-lt, mod-eq_of_lt, mul-le-mul_right}
use lib.Dec.{leb, eqb, leb-zero, leb-suc-zero, leb-suc-suc}
use lib.Pow.{pow_pos}
use borrow.Author.Tests.{eq-eqb, ne_eqb, eqb-true, eqb-false, le-leb, leb-true}
use Rattle.octets.specs.Test.{same_list}
use Rattle.octets.specs.Order.{lex, then, ordered}
use Rattle.octets.proofs.Cases.{by-test, same_test}
use Rattle.std.specs.Ordering.{nat_cmp, ordering_then}
use Rattle.octets.proofs.OrderLaws.{numbers-ordered, nat-order, lex-order, lt-cmp, gt-cmp, eq-cmp}
use Rattle.prefix.proofs.BitLaws.{first_bits, top_bit, between_first}
use Rattle.prefix.proofs.ContainLaws.{begins-within, tie}
use Rattle.prefix.specs.declared.Address.{Address}
use Rattle.prefix.specs.Prefix.{Pattern, address_of, bits, bits_between, pattern_bits, covers_address, contains, prefix_order, WellFormed}
use Rattle.std.specs.declared.cmp.Ordering.{Ordering as Order}

-- of two numbers one is lower, or they are equal
by-order : {P : Type 0} (a b : ℕ) → (a < b → P) → (b < a → P) → (a ≡ b → P) → P
by-order a b f g h = elim (dec_lt a b) [ yes l ↦ f l | no l ↦ elim (dec_lt b a) [ yes m ↦ g m | no m ↦ h (omega arith) ] ]

-- numbers of a high and a low part are compared by the high part, and where that ties by the low part
compare-low : (k u v : ℕ) → compare (k + u) (k + v) ≡ compare u v
compare-low k u v =
    by-order u v (λ l. rw (lt-cmp u v l) (lt-cmp (k + u) (k + v) (omega arith))) (λ l. rw (gt-cmp u v l) (gt-cmp (k + u) (k + v) (omega arith)))
    (λ e. rw (eq-cmp u v e) (eq-cmp (k + u) (k + v) (omega arith)))

compare-parts : (k x y u v : ℕ) → u < k → v < k → compare (x * k + u) (y * k + v) ≡ then (compare x y) (compare u v)
compare-parts k x y u v h l =
    by-order x y
    (λ s.
    let t : x + 1 ≤ y = omega arith in
    rw (lt-cmp x y s) (lt-cmp (x * k + u) (y * k + v) (omega (arith, mul-le-mul_right k t))))
    (λ s.
    let t : y + 1 ≤ x = omega arith in
    rw (gt-cmp x y s) (gt-cmp (x * k + u) (y * k + v) (omega (arith, mul-le-mul_right k t))))
    (λ e. rw (eq-cmp x y e, e) (compare-low (y * k) u v))

-- an earlier comparison that does not tie decides, whatever follows
decided : (o p : Ordering) → (o ≡ Ordering.eq → ⊥) → o ≡ then o p
decided Ordering.lt p h = refl
decided Ordering.eq p h = absurd (h refl)
decided Ordering.gt p h = refl

-- the order of prefixes, over their parts; addresses are taken within the width
abbrev ordering : ℕ → ℕ → ℕ → ℕ → ℕ → Ordering
ordering w l m a b =
    cond
    (leb l m && same_list (first_bits w l a) (first_bits w l b) || leb m l && same_list (first_bits w m b) (first_bits w m a))
    (compare m l)
    (compare (a % 2 ^ w) (b % 2 ^ w))

-- the highest of w + 1 bits
abbrev bit_of : ℕ → ℕ → ℕ
bit_of w a = a / 2 ^ w % 2

-- where the first bits tie the rest decides, and where they do not they do
more-bits : (w l m a b : ℕ) → ordering w l m a b ≡ lex compare (first_bits w l a) (first_bits w m b)
    → ordering (suc w) (suc l) (suc m) a b ≡ lex compare (first_bits (suc w) (suc l) a) (first_bits (suc w) (suc m) b)
unfolding bits same_list
more-bits w l m a b ih =
    let x = bit_of w a in
    let y = bit_of w b in
    let parts = compare-parts (2 ^ w) x y (a % 2 ^ w) (b % 2 ^ w) (mod-lt a (pow_pos w)) (mod-lt b (pow_pos w)) in
    by-test (eqb x y)
    (λ t.
    let e = eqb-true x y t in
    let f = eq-eqb y x (sym e) in
    rw (leb-suc-suc l m, leb-suc-suc m l, Prim.Native.Nat.compare.suc-suc m l, t, f, top_bit w a, top_bit w b, parts, eq-cmp x y e) ih)
    (λ t.
    let e = eqb-false x y t in
    let f = ne_eqb y x (λ g. e (sym g)) in
    rw (t, f, and-false (leb (suc l) (suc m)), and-false (leb (suc m) (suc l)), top_bit w a, top_bit w b, parts)
    (sym (decided (compare x y) _ (λ g. e (nat-order.only x y g))) ∙ decided (compare x y) _ (λ g. e (nat-order.only x y g))))

first-order : (w l m a b : ℕ) → l ≤ w → m ≤ w → ordering w l m a b ≡ lex compare (first_bits w l a) (first_bits w m b)
unfolding bits same_list
first-order w zero zero a b h k = refl
first-order zero zero (suc m) a b h k = absurd (omega arith)
first-order zero (suc l) m a b h k = absurd (omega arith)
first-order (suc w) zero (suc m) a b h k = rw (leb-zero (suc m), Prim.Native.Nat.compare.suc-zero m)
first-order (suc w) (suc l) zero a b h k = rw (leb-suc-zero l, leb-zero (suc l), Prim.Native.Nat.compare.zero-suc l)
first-order (suc w) (suc l) (suc m) a b h k = more-bits w l m a b (first-order w l m a b (omega arith) (omega arith))

-- what both lengths lose does not matter
leb-less : (m l k : ℕ) → m ≤ l → m ≤ k → leb l k ≡ leb (l - m) (k - m)
leb-less m l k g h =
    same_test (leb l k) (leb (l - m) (k - m)) (λ t. let a = leb-true l k t in le-leb (l - m) (k - m) (omega arith))
    (λ t. let a = leb-true (l - m) (k - m) t in le-leb l k (omega arith))

compare-less : (m l k : ℕ) → m ≤ l → m ≤ k → compare l k ≡ compare (l - m) (k - m)
compare-less m l k g h =
    let a : m + (l - m) ≡ l = omega arith in
    let b : m + (k - m) ≡ k = omega arith in
    rw (a, b) at (compare-low m (l - m) (k - m))

-- the order of patterns of one offset m is that of their bits
between-order : (w m l k a b : ℕ) → m ≤ l → m ≤ k → l ≤ w → k ≤ w → a < 2 ^ (w - m) → b < 2 ^ (w - m)
    → cond
    (leb l k && same_list (bits_between w m l a) (bits_between w m l b) || leb k l && same_list (bits_between w m k b) (bits_between w m k a))
    (compare k l)
    (compare a b)
    ≡ lex compare (bits_between w m l a) (bits_between w m k b)
between-order w m l k a b g h i j x y =
    rw (
      between_first w m l a,
      between_first w m l b,
      between_first w m k a,
      between_first w m k b,
      leb-less m l k g h,
      leb-less m k l h g,
      compare-less m k l h g,
    )
    (rw (mod-eq_of_lt x, mod-eq_of_lt y) at (first-order (w - m) (l - m) (k - m) a b (omega arith) (omega arith)))

-- **One order**: the order of patterns is that of the offset and the bits behind it.
pub one-order : (w : ℕ) (p q : Pattern) → WellFormed w p → WellFormed w q
    → prefix_order w p q ≡ lex compare (p.offset ∷ pattern_bits w p) (q.offset ∷ pattern_bits w q)
unfolding prefix_order contains covers_address
one-order w p q P Q =
    by-order p.offset q.offset (λ l. rw (lt-cmp p.offset q.offset l)) (λ l. rw (gt-cmp p.offset q.offset l))
    (λ e.
    let h = begins-within w q Q in
    rw (← e, eq-cmp p.offset p.offset refl)
    (between-order w p.offset p.length q.length p.address q.address (begins-within w p P) (omega arith) P.within Q.within P.fits (rw (← e) at Q.fits)))

-- a tie is between equal patterns
pub order-tie : (w : ℕ) (p q : Pattern) → WellFormed w p → WellFormed w q → prefix_order w p q ≡ Ordering.eq → p ≡ q
order-tie w p q P Q e = tie w p q P Q ((lex-order compare nat-order).only _ _ (sym (one-order w p q P Q) ∙ e))

-- what the derived order of two addresses answers: the high words decide, and where they are equal the low ones
pub addresses-ordered : (a b : Address) → a.low < 2 ^ 64 → b.low < 2 ^ 64
    → ordering_then (nat_cmp a.high b.high) (nat_cmp a.low b.low) ≡ ordered (compare (address_of a) (address_of b))
addresses-ordered a b first second =
    rw (
      numbers-ordered a.high b.high,
      numbers-ordered a.low b.low,
      compare-parts (2 ^ 64) a.high b.high a.low b.low first second,
    )
    (both-ways (compare a.high b.high) (compare a.low b.low))
  where
    both-ways : (o p : Ordering) → ordering_then (ordered o) (ordered p) ≡ ordered (then o p)
    both-ways Ordering.lt p = refl
    both-ways Ordering.eq p = refl
    both-ways Ordering.gt p = refl

-- what the code answers for two patterns: the offsets decide; where they are equal and one contains the other the lengths, and else the
-- addresses
module _ (w : ℕ) (p q : Pattern) (r : Order) where
  pub by-offset : (p.offset ≡ q.offset → ⊥) → r ≡ ordered (compare p.offset q.offset) → r ≡ ordered (prefix_order w p q)
  unfolding prefix_order
  by-offset h e = e ∙ ap ordered (decided (compare p.offset q.offset) _ (λ g. h (nat-order.only p.offset q.offset g)))

  module _ (nested : Bool) (aligned : p.offset ≡ q.offset) (is : nested ≡ (contains w p q || contains w q p)) where
    pub by_length : nested ≡ true → r ≡ ordered (compare q.length p.length) → r ≡ ordered (prefix_order w p q)
    unfolding prefix_order
    by_length e f = rw (eq-cmp p.offset q.offset aligned, ← is, e) f

    pub by_address : nested ≡ false → r ≡ ordered (compare p.address q.address) → r ≡ ordered (prefix_order w p q)
    unfolding prefix_order
    by_address e f = rw (eq-cmp p.offset q.offset aligned, ← is, e) f
