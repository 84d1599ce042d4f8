-- The laws of an order given by comparing, and that numbers and lists of what is so ordered have them. Assumes nothing.
use mathlib.Core.Path.{◌≡◌, refl, ap, ap₂, sym, ◌∙◌}
use mathlib.Core.List.{List, [], ◌∷◌}
use mathlib.Core.Logic.{◌⊎◌, inl, inr}
use Rattle.std.specs.declared.cmp.Ordering.TheVariants.{Less, Equal, Greater}
use Prim.Native.Nat.compare
use Prim.Native.Nat.{ℕ, zero, suc, ◌+◌, ◌<◌, ◌≤◌, compare, Ordering}
use native.Mathlib.Omega.{arith}
use native.Mathlib.Decide.{dec_lt}
use native.Mathlib.Numerals.{add-one}
use lib.ListN.{length, drop, get_or, drop_of_length-le}
use lib.Seq.{drop-cons}
use Rattle.std.specs.Ordering.{nat_cmp}
use Rattle.std.specs.Cmp.{nat_cmp_is}
use Rattle.octets.specs.Order.{then, lex, ordered}

abbrev pub swap : Ordering → Ordering
swap Ordering.lt = Ordering.gt
swap Ordering.eq = Ordering.eq
swap Ordering.gt = Ordering.lt

-- same: everything ties with itself; only: with nothing else; flip: the other way round gives the other answer; trans: what comes
-- before what comes before a thing comes before that thing
pub record IsOrder {K : Type 0} (cmp : K → K → Ordering) : Type 0 where
  pub same : (a : K) → cmp a a ≡ Ordering.eq
  pub only : (a b : K) → cmp a b ≡ Ordering.eq → a ≡ b
  pub flip : (a b : K) → cmp b a ≡ swap (cmp a b)
  pub trans : (a b c : K) → cmp a b ≡ Ordering.lt → cmp b c ≡ Ordering.lt → cmp a c ≡ Ordering.lt

-- numbers
nat-same : (a : ℕ) → compare a a ≡ Ordering.eq
nat-same zero = compare.zero-zero
nat-same (suc a) = compare.suc-suc a a ∙ nat-same a

nat-only : (a b : ℕ) → compare a b ≡ Ordering.eq → a ≡ b
nat-only zero zero e = refl
nat-only zero (suc b) e = cc (compare.zero-suc b)
nat-only (suc a) zero e = cc (compare.suc-zero a)
nat-only (suc a) (suc b) e = ap suc (nat-only a b (sym (compare.suc-suc a b) ∙ e))

nat-flip : (a b : ℕ) → compare b a ≡ swap (compare a b)
nat-flip zero zero = rw compare.zero-zero
nat-flip zero (suc b) = rw (compare.zero-suc b, compare.suc-zero b)
nat-flip (suc a) zero = rw (compare.suc-zero a, compare.zero-suc a)
nat-flip (suc a) (suc b) = rw (compare.suc-suc a b, compare.suc-suc b a) (nat-flip a b)

pub cmp-lt : (a b : ℕ) → compare a b ≡ Ordering.lt → a < b
cmp-lt zero zero e = let z : ◌≡◌ {A = ℕ} 0 1 = cc (compare.zero-zero) in absurd (omega arith)
cmp-lt zero (suc b) e = omega arith
cmp-lt (suc a) zero e = let z : ◌≡◌ {A = ℕ} 0 1 = cc (compare.suc-zero a) in absurd (omega arith)
cmp-lt (suc a) (suc b) e = let h = cmp-lt a b (sym (compare.suc-suc a b) ∙ e) in omega arith

pub lt-cmp : (a b : ℕ) → a < b → compare a b ≡ Ordering.lt
lt-cmp a zero h = absurd (omega arith)
lt-cmp zero (suc b) h = compare.zero-suc b
lt-cmp (suc a) (suc b) h = compare.suc-suc a b ∙ lt-cmp a b (omega arith)

pub gt-cmp : (a b : ℕ) → b < a → compare a b ≡ Ordering.gt
gt-cmp a b h = nat-flip b a ∙ ap swap (lt-cmp b a h)

pub eq-cmp : (a b : ℕ) → a ≡ b → compare a b ≡ Ordering.eq
eq-cmp a b e = rw e (nat-same b)

pub nat-order : IsOrder compare
nat-order =
    record {
      same = nat-same;
      only = nat-only;
      flip = nat-flip;
      trans = λ a b c p q. let h = cmp-lt a b p in let k = cmp-lt b c q in lt-cmp a c (omega arith);
    }

pub then-eq : (o p : Ordering) → then o p ≡ Ordering.eq → (o ≡ Ordering.eq) × (p ≡ Ordering.eq)
then-eq Ordering.lt p e = (cc, cc)
then-eq Ordering.eq p e = (refl, e)
then-eq Ordering.gt p e = (cc, cc)

swap-then : (o p : Ordering) → swap (then o p) ≡ then (swap o) (swap p)
swap-then Ordering.lt p = refl
swap-then Ordering.eq p = refl
swap-then Ordering.gt p = refl

-- lists, element by element, where what runs out first comes later
module _ {A : Type 0} (cmp : A → A → Ordering) (O : IsOrder cmp) where
  lex-same : (l : List A) → lex cmp l l ≡ Ordering.eq
  lex-same [] = refl
  lex-same (a ∷ l) = rw (O.same a) (lex-same l)

  lex-only : (l m : List A) → lex cmp l m ≡ Ordering.eq → l ≡ m
  lex-only [] [] e = refl
  lex-only [] (b ∷ m) e = cc
  lex-only (a ∷ l) [] e = cc
  lex-only (a ∷ l) (b ∷ m) e =
      let h = then-eq (cmp a b) (lex cmp l m) e in
      ap₂ (λ (x : A) (y : List A). x ∷ y) (O.only a b h.0) (lex-only l m h.1)

  lex-flip : (l m : List A) → lex cmp m l ≡ swap (lex cmp l m)
  lex-flip [] [] = refl
  lex-flip [] (b ∷ m) = refl
  lex-flip (a ∷ l) [] = refl
  lex-flip (a ∷ l) (b ∷ m) = rw (swap-then (cmp a b) (lex cmp l m), O.flip a b, lex-flip l m)

  lex-trans : (l m n : List A) → lex cmp l m ≡ Ordering.lt → lex cmp m n ≡ Ordering.lt → lex cmp l n ≡ Ordering.lt
  lex-trans [] [] n p q = cc
  lex-trans [] (b ∷ m) n p q = cc
  lex-trans (a ∷ l) [] [] p q = refl
  lex-trans (a ∷ l) [] (c ∷ n) p q = cc
  lex-trans (a ∷ l) (b ∷ m) [] p q = refl
  lex-trans (a ∷ l) (b ∷ m) (c ∷ n) p q = go (cmp a b) (cmp b c) refl refl (lex-trans l m n)
    where
      go : (x y : Ordering) → cmp a b ≡ x → cmp b c ≡ y → (lex cmp l m ≡ Ordering.lt → lex cmp m n ≡ Ordering.lt → lex cmp l n ≡ Ordering.lt)
          → then (cmp a c) (lex cmp l n) ≡ Ordering.lt
      go Ordering.lt Ordering.lt e f ih = rw (O.trans a b c e f)
      go Ordering.lt Ordering.eq e f ih = rw (← O.only b c f, e)
      go Ordering.lt Ordering.gt e f ih = cc
      go Ordering.eq Ordering.lt e f ih = rw (O.only a b e, f)
      go Ordering.eq Ordering.eq e f ih = rw (O.only a b e, f) (ih (rw e at p) (rw f at q))
      go Ordering.eq Ordering.gt e f ih = cc
      go Ordering.gt y e f ih = cc

  pub lex-order : IsOrder (lex cmp)
  lex-order = record { same = lex-same; only = lex-only; flip = lex-flip; trans = lex-trans }

-- what the library's comparison of two numbers answers
pub numbers-ordered : (a b : ℕ) → nat_cmp a b ≡ ordered (compare a b)
numbers-ordered a b =
    elim (dec_lt a b) [
      | yes h ↦ sym (nat_cmp_is a b Less h) ∙ ap ordered (sym (lt-cmp a b h))
      | no h ↦
          elim (dec_lt b a) [
            | yes k ↦ sym (nat_cmp_is a b Greater k) ∙ ap ordered (sym (gt-cmp a b k))
            | no k ↦
                let e : a ≡ b = omega arith in
                sym (nat_cmp_is a b Equal e) ∙ ap ordered (sym (eq-cmp a b e))
          ]
    ]

-- two lists that begin alike are ordered as their rests, and two that begin apart as their first elements
module _ (r t l m : List ℕ) (x y : ℕ) (first : r ≡ x ∷ l) (second : t ≡ y ∷ m) where
  pub lex-along : x ≡ y → lex compare r t ≡ lex compare l m
  lex-along e = rw (first, second, eq-cmp x y e)

  pub lex-apart : (x ≡ y → ⊥) → lex compare r t ≡ compare x y
  lex-apart h = rw (first, second) (go (compare x y) refl)
    where
      go : (o : Ordering) → compare x y ≡ o → then o (lex compare l m) ≡ o
      go Ordering.lt e = refl
      go Ordering.eq e = absurd (h (nat-only x y e))
      go Ordering.gt e = refl

-- two lists of which one has run out, and as many elements of both are passed: the lengths decide
pub lex-out : (r t : List ℕ) (m n : ℕ) → (r ≡ []) ⊎ (t ≡ []) → m + length t ≡ n + length r → lex compare r t ≡ compare n m
lex-out [] [] m n h e = sym (eq-cmp n m (omega arith))
lex-out [] (b ∷ t) m n h e = sym (gt-cmp n m (omega arith))
lex-out (a ∷ r) [] m n h e = sym (lt-cmp n m (omega arith))
lex-out (a ∷ r) (b ∷ t) m n (inl e) k = cc
lex-out (a ∷ r) (b ∷ t) m n (inr e) k = cc

-- two lists compared from a place on: both go on, or one of them has run out
module _ {A : Type 0} (cmp : A → A → Ordering) (d : A) (a b : List A) (i : ℕ) where
  pub lex-both : i < length a → i < length b
      → lex cmp (drop i a) (drop i b) ≡ then (cmp (get_or a i d) (get_or b i d)) (lex cmp (drop (i + 1) a) (drop (i + 1) b))
  lex-both h k = rw (drop-cons a i d, drop-cons b i d, add-one)

  pub lex-first-out : length a ≤ i → i ≤ length a → i ≤ length b → lex cmp (drop i a) (drop i b) ≡ compare (length b) (length a)
  lex-first-out h k l =
      elim (dec_lt i (length b)) [
        | yes m ↦ rw (drop_of_length-le a h, drop-cons b i d m) (sym (gt-cmp (length b) (length a) (omega arith)))
        | no m ↦
            let n : length b ≤ i = omega arith in
            rw (drop_of_length-le a h, drop_of_length-le b n) (sym (eq-cmp (length b) (length a) (omega arith)))
      ]

  pub lex-second-out : i < length a → length b ≤ i → lex cmp (drop i a) (drop i b) ≡ Ordering.lt
  lex-second-out h k = rw (drop-cons a i d, drop_of_length-le b k)
