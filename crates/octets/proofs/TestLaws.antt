-- Tests of lists: where every element passes, where every octet is 0, and that two lists have the same octets exactly where they are one
-- list. Assumes nothing.
use mathlib.Core.Path.{◌≡◌, refl, sym, ap, ◌∙◌}
use mathlib.Core.Bool.{Bool, true, ◌&&◌, and-true, and_assoc}
use mathlib.Core.List.{List, [], ◌∷◌}
use Prim.Native.Nat.{ℕ, zero, suc, ◌-◌, min}
use native.Mathlib.Omega.{arith}
use lib.Bits.{bit_or, and_le_l, and_le_r, or_add_and}
use lib.Dec.{eqb}
use lib.Pointwise.{pointwise}
use lib.ListN.{length, take, drop, replicate, length-drop}
use lib.Seq.{take_all}
use Rattle.std.specs.List.{fold}
use Rattle.std.specs.Prelude.{nat_eq}
use borrow.Author.Tests.{eqb-true, eq-eqb}
use Rattle.octets.specs.Test.{every, all_zero, same_list}
use Rattle.octets.proofs.Cases.{by-test, apart, both, same_test}
use Rattle.octets.proofs.StoreLaws.{drop-within}

-- the first passes and so do the others
pub every-both : {A : Type 0} (test : A → Bool) (x : A) (xs : List A) → every test (x ∷ xs) ≡ true → (test x ≡ true) × (every test xs ≡ true)
unfolding every
every-both test x xs e = both (test x) (every test xs) e

-- two octets have no bit set where each has none
zero_or : (a b : ℕ) → eqb (bit_or a b) 0 ≡ (eqb a 0 && eqb b 0)
zero_or a b =
    same_test (eqb (bit_or a b) 0) (eqb a 0 && eqb b 0)
    (λ t.
    let none = eqb-true (bit_or a b) 0 t in
    let sum = or_add_and a b in
    let x : a ≡ 0 = omega (arith, and_le_l a b, and_le_r a b) in
    let y : b ≡ 0 = omega (arith, and_le_l a b, and_le_r a b) in
    rw (x, y))
    (λ t.
    let ts = both (eqb a 0) (eqb b 0) t in
    rw (eqb-true a 0 ts.0, eqb-true b 0 ts.1))

-- looking for a bit that is set in any octet
zero_fold : (s : List ℕ) (seen : ℕ) → eqb (fold bit_or seen s) 0 ≡ (eqb seen 0 && all_zero s)
unfolding all_zero every
zero_fold [] seen = sym (and-true (eqb seen 0))
zero_fold (x ∷ s) seen = zero_fold s (bit_or seen x) ∙ rw (zero_or seen x) (and_assoc (eqb seen 0) (eqb x 0) (all_zero s))

pub zero-from : (s : List ℕ) (from start seen : ℕ) → start ≡ min from (length s) → seen ≡ fold bit_or 0 (take (length s - start) (drop start s))
    → eqb seen 0 ≡ all_zero (drop from s)
zero-from s from start seen is e =
    let rest : take (length s - start) (drop start s) ≡ drop start s = take_all (length s - start) (drop start s) (simp length-drop (omega arith)) in
    rw (e, rest, drop-within s from start is) (zero_fold (drop from s) 0)

pub all-zero : (s : List ℕ) → all_zero s ≡ true → s ≡ replicate (length s) 0
unfolding all_zero every
all-zero [] e = refl
all-zero (x ∷ s) e =
    by-test (eqb x 0) (λ t. let z = eqb-true x 0 t in let r = all-zero s (rw t at e) in λ j. z j ∷ r j) (λ f. apart (cc))

pub zeros-zero : (n : ℕ) → all_zero (replicate n 0) ≡ true
unfolding all_zero every
zeros-zero zero = refl
zeros-zero (suc n) = zeros-zero n

-- the same octets are one list, both ways
pub same-list : (a b : List ℕ) → same_list a b ≡ true → a ≡ b
unfolding same_list
same-list [] [] e = refl
same-list [] (y ∷ b) e = apart (cc)
same-list (x ∷ a) [] e = apart (cc)
same-list (x ∷ a) (y ∷ b) e =
    let t = both (eqb x y) (same_list a b) e in
    let h = eqb-true x y t.0 in
    let r = same-list a b t.1 in
    λ i. h i ∷ r i

pub list_same : (a : List ℕ) → same_list a a ≡ true
unfolding same_list
list_same [] = refl
list_same (x ∷ a) = rw (eq-eqb x x refl) (list_same a)

-- the library's test of two lists goes element by element likewise
pub pointwise-same : (a b : List ℕ) → pointwise nat_eq a b ≡ same_list a b
unfolding same_list
pointwise-same [] [] = refl
pointwise-same [] (y ∷ b) = refl
pointwise-same (x ∷ a) [] = refl
pointwise-same (x ∷ a) (y ∷ b) = ap (λ t. eqb x y && t) (pointwise-same a b)
