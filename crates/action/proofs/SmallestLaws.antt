-- The smallest of a rule's rates is "the first .. giving the smallest number", as `SmallestOf` has it: where each of two limits is that of
-- a list, the smaller of the two is that of the second list behind the first. Of each list there is but one first. Assumes nothing.
use Prim.Native.Nat.{ℕ, suc}
use mathlib.Core.Path.{◌≡◌, refl, sym, ap, ◌∙◌}
use mathlib.Core.Bool.{true, false, not, ◌||◌}
use mathlib.Core.List.{List, [], ◌∷◌, ◌++◌, map, append_assoc, head-eq_of_cons-eq, tail-eq_of_cons-eq}
use mathlib.Core.Logic.{inl, inr}
use native.Mathlib.Omega.{arith}
use borrow.Author.Tests.{leb-true, leb-false}
use lib.Dec.{leb}
use Rattle.std.proofs.Common.{Option, Some, None}
use Rattle.octets.specs.Test.{Each}
use Rattle.octets.proofs.Cases.{by-test, apart, both}
use Rattle.rate.specs.declared.Rate.{Rate}
use Rattle.rate.specs.Rate.{note_number}
use Rattle.action.specs.declared.Limit.{Limit}
use Rattle.action.specs.Limit.{no_limit, limit, smaller_of}
use Rattle.action.specs.Actions.{is_byte_rate, is_packet_rate, rates_of, smallest, rule_actions}
use Rattle.action.specs.Smallest.{limit_given, Missing, Above, NotBelow, FirstSmallest, SmallestOf}
use Rattle.action.proofs.LimitLaws.{taken, smaller-first, smaller-second, smaller_before}

module _ {A : Type 0} where
  -- What holds of each of two lists holds of each of the one behind the other.
  each_append : (P : A → Type 0) (xs ys : List A) → Each P xs → Each P ys → Each P (xs ++ ys)
  each_append P [] ys h k = k
  each_append P (x ∷ xs) ys h k = (h.0, each_append P xs ys h.1 k)

  -- What follows from what holds of each holds of each.
  each-so : (P Q : A → Type 0) → ((x : A) → P x → Q x) → (xs : List A) → Each P xs → Each Q xs
  each-so P Q f [] h = tt
  each-so P Q f (x ∷ xs) h = (f x h.0, each-so P Q f xs h.1)

-- A limit is not both there and missing.
not-both : {P : Type 0} (l : Limit) → l.present ≡ true → Missing l → P
not-both l there gone = apart (cc)

-- Where the one answered is not below a number, none of them is.
none_below : (n : ℕ) (all : List Limit) (l : Limit) → NotBelow n l → SmallestOf all l → Each (NotBelow n) all
none_below n all l h (inl (none, gone)) = each-so Missing (NotBelow n) (λ x missing there. not-both x there missing) all none
none_below n all l h (inr f) =
    let le = h f.there in
    rw f.stands
    (each_append (NotBelow n) f.before (l ∷ f.behind)
    (each-so (Above l.number) (NotBelow n) (λ x above there. let lt = above there in omega arith) f.before f.higher)
    (h, each-so (NotBelow l.number) (NotBelow n) (λ x over there. let ge = over there in omega arith) f.behind f.lowest))

-- Where the one answered is missing, all of them are.
all-missing : (all : List Limit) (l : Limit) → Missing l → SmallestOf all l → Each Missing all
all-missing all l gone (inl (none, also)) = none
all-missing all l gone (inr f) = not-both l f.there gone

-- Where the first of two is taken, it is there and the second is not below it.
taken-first : (a b : Limit) → taken a b ≡ true → (a.present ≡ true) × NotBelow a.number b
taken-first a b h =
    let p = both a.present (not b.present || leb a.number b.number) h in
    (p.0, λ there. leb-true a.number b.number (rw there at p.1))

-- Where the second is taken, the first is above it if it is there, and missing if it is missing.
taken-second : (a b : Limit) → taken a b ≡ false → (b.present ≡ true → Above b.number a) × (Missing b → Missing a)
taken-second a b h =
    (λ there here. leb-false a.number b.number (rw (there, here) at h), λ gone. by-test a.present (λ here. apart (cc)) (λ missing. missing))

module _ (xs ys : List Limit) (a b : Limit) where
  first-kept : taken a b ≡ true → SmallestOf xs a → SmallestOf ys b → SmallestOf (xs ++ ys) a
  first-kept h (inl (none, gone)) y = not-both a (taken-first a b h).0 gone
  first-kept h (inr f) y =
      inr
      (record {
        there = f.there;
        before = f.before;
        behind = f.behind ++ ys;
        stands = ap (λ (l : List Limit). l ++ ys) f.stands ∙ append_assoc f.before (a ∷ f.behind) ys;
        higher = f.higher;
        lowest = each_append (NotBelow a.number) f.behind ys f.lowest (none_below a.number ys b (taken-first a b h).1 y);
      })

  second-taken : taken a b ≡ false → SmallestOf xs a → SmallestOf ys b → SmallestOf (xs ++ ys) b
  second-taken h x (inl (none, gone)) = inl (each_append Missing xs ys (all-missing xs a ((taken-second a b h).1 gone) x) none, gone)
  second-taken h x (inr f) =
      inr
      (record {
        there = f.there;
        before = xs ++ f.before;
        behind = f.behind;
        stands = ap (λ (l : List Limit). xs ++ l) f.stands ∙ sym (append_assoc xs f.before (b ∷ f.behind));
        higher = each_append (Above b.number) xs f.before (none_below (suc b.number) xs a ((taken-second a b h).0 f.there) x) f.higher;
        lowest = f.lowest;
      })

  -- The smallest of two lists, the second behind the first.
  smallest-append : SmallestOf xs a → SmallestOf ys b → SmallestOf (xs ++ ys) (smaller_of a b)
  smallest-append x y =
      by-test (taken a b) (λ h. rw (smaller-first a b h) (first-kept h x y)) (λ h. rw (smaller-second a b h) (second-taken h x y))

-- The smallest of one is that one.
smallest-one : (l : Limit) → SmallestOf (l ∷ []) l
smallest-one l =
    by-test l.present (λ there. inr (record { there = there; before = []; behind = []; stands = refl; higher = tt; lowest = tt }))
    (λ gone. inl ((gone, tt), gone))

module _ (ls : List Limit) (l x : Limit) (s : SmallestOf ls l) where
  -- One more before them, and one more behind them.
  smallest-before : SmallestOf (x ∷ ls) (smaller_of x l)
  smallest-before = smallest-append (x ∷ []) ls x l (smallest-one x) s

  pub smallest-behind : SmallestOf (ls ++ x ∷ []) (smaller_of l x)
  smallest-behind = smallest-append ls (x ∷ []) l x s (smallest-one x)

-- Of several rates, the smallest is the first that gives the smallest number.
pub smallest-first : (rates : List (Option Rate)) → SmallestOf (map limit_given rates) (smallest rates)
unfolding smallest
smallest-first [] = inl (tt, refl)
smallest-first (Some r ∷ rates) = smallest-before (map limit_given rates) (smallest rates) (limit r.number (note_number r.note)) (smallest-first rates)
smallest-first (None ∷ rates) =
    rw (smaller_before (smallest rates)) at (smallest-before (map limit_given rates) (smallest rates) no_limit (smallest-first rates))

-- So it is of the rates of either kind in a rule's communities.
pub communities-first : (cs : List ℕ)
    → SmallestOf (map limit_given (rates_of is_byte_rate cs)) (rule_actions cs).bytes
    × SmallestOf (map limit_given (rates_of is_packet_rate cs)) (rule_actions cs).packets
unfolding rule_actions
communities-first cs = (smallest-first (rates_of is_byte_rate cs), smallest-first (rates_of is_packet_rate cs))

-- What holds of each holds of one among them.
each-among : (P : Limit → Type 0) (xs ys : List Limit) (l : Limit) → Each P (xs ++ l ∷ ys) → P l
each-among P [] ys l h = h.0
each-among P (x ∷ xs) ys l h = each-among P xs ys l h.1

-- A first that gives the smallest number has no other behind it.
none-behind : {P : Type 0} (x l k : Limit) (xs ys behind : List Limit) → l.present ≡ true → k.present ≡ true → l ∷ behind ≡ x ∷ (xs ++ k ∷ ys)
    → Each (NotBelow l.number) behind → Above k.number x → P
none-behind x l k xs ys behind p q e lowest above =
    let lt = (rw (← head-eq_of_cons-eq e) at above) p in
    let le = each-among (NotBelow l.number) xs ys k (rw (tail-eq_of_cons-eq e) at lowest) q in
    absurd (omega arith)

-- So there is but one, and no other limit could be answered.
pub only-first : (all : List Limit) (l k : Limit) → FirstSmallest all l → FirstSmallest all k → l ≡ k
only-first all l k f g = go f.before g.before (sym f.stands ∙ g.stands) f.higher g.higher
  where
    go : (xs ys : List Limit) → xs ++ l ∷ f.behind ≡ ys ++ k ∷ g.behind → Each (Above l.number) xs → Each (Above k.number) ys → l ≡ k
    go [] [] e higher above = head-eq_of_cons-eq e
    go [] (y ∷ ys) e higher above = none-behind y l k ys g.behind f.behind f.there g.there e f.lowest above.0
    go (x ∷ xs) [] e higher above = none-behind x k l xs f.behind g.behind g.there f.there (sym e) g.lowest higher.0
    go (x ∷ xs) (y ∷ ys) e higher above = go xs ys (tail-eq_of_cons-eq e) higher.1 above.1
