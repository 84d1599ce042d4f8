-- The test for a plain body: how it comes to its answers for a prefix, and how it goes along a list. Assumes nothing.
use mathlib.Core.Path.{◌≡◌, refl, sym, ap, ◌∙◌}
use mathlib.Core.Bool.{Bool, true, false, not, ◌&&◌, and-true}
use mathlib.Core.List.{List, [], ◌∷◌}
use Prim.Native.Nat.{ℕ, ◌+◌, ◌-◌, ◌%◌, ◌<◌, ◌≤◌}
use native.Mathlib.Omega.{arith}
use lib.Dec.{eqb}
use lib.ListN.{length, get_or, drop}
use borrow.Author.Tests.{not-true, not-false}
use Rattle.std.proofs.Common.{Ok}
use Rattle.octets.specs.Test.{same_list}
use Rattle.rule.specs.declared.Family.{Family}
use Rattle.rule.specs.declared.Shape.{Shape}
use Rattle.spelling.specs.Plain.{Length, Operator, body_of, after, plain_operator, plain_operand, plain_pattern, cleared_octet, plain_from}
use Rattle.rule.specs.Shape.{shape_of}
use Rattle.rule.specs.Operator.{size_of}
use Rattle.rule.specs.Component.{pairs_from, offset_at, prefix_end}
use Rattle.rule.proofs.OperatorLaws.{size-positive}
use Rattle.spelling.proofs.PlainWalkLaws.{plain_from_here, pair-there, pair-plain, none-plain, prefix-there, prefix-whole-octets, prefix-last-octet}

-- how `is_plain_prefix` comes to each of its answers
module _ (family : Family) (body : List ℕ) (alone : prefix_end family body 0 ≡ Ok (length body)) (offset : ℕ) (is : offset ≡ offset_at family body 1) where
  pub prefix-all : (get_or body 0 0 - offset) % 8 ≡ 0 → true ≡ plain_from_here family Length body
  prefix-all h = sym (prefix-whole-octets family body (prefix-there family body alone) (rw is at h))

  pub prefix-last : (r : ℕ) → ((get_or body 0 0 - offset) % 8 ≡ 0 → ⊥) → r ≡ plain_pattern ((get_or body 0 0 - offset) % 8) (get_or body (length body - 1) 0)
      → eqb r (get_or body (length body - 1) 0) ≡ plain_from_here family Length body
  prefix-last r h e =
      let kept = ap (λ n. (get_or body 0 0 - n) % 8) is in
      sym (prefix-last-octet family body (prefix-there family body alone) (λ z. h (kept ∙ z)) ∙ rw (← kept, ← e))

-- how `is_plain_pair` comes to its answer
pub pair-answer : (family : Family) (kind operator octet plainly value : ℕ) (first : Bool) (shape : Shape) → shape ≡ shape_of family kind
    → plainly ≡ plain_operator shape.bitmask first operator → value ≡ plain_operand shape.ignored octet
    → (eqb plainly operator && eqb value octet) ≡ plain_from_here family (Operator kind first) (operator ∷ octet ∷ [])
unfolding plain_from same_list cleared_octet after
pair-answer family kind operator octet plainly value first shape is says tells =
    rw (says, tells, is) (ap (λ (t : Bool). eqb (plain_operator (shape_of family kind).bitmask first operator) operator && t) (sym (and-true (eqb (plain_operand (shape_of family kind).ignored octet) octet))))

-- what is left of a list decides, and is a list where there is something left
pub record ListLeft (family : Family) (kind : ℕ) (body : List ℕ) (first : Bool) (at : ℕ) : Type 0 where
  pub decides : plain_from_here family (Operator kind true) body ≡ plain_from_here family (Operator kind first) (drop at body)
  pub ends : at < length body → (pairs_from (shape_of family kind).largest body at).ending ≡ Ok (length body)

-- how `is_plain_list` goes on and comes to each of its answers
module _ (family : Family) (kind : ℕ) (body : List ℕ) where
  pub list-starts : (pairs_from (shape_of family kind).largest body 0).ending ≡ Ok (length body) → ListLeft family kind body true 0
  list-starts e = record { decides = refl; ends = λ h. e }

  module _ (first : Bool) (at : ℕ) (left : ListLeft family kind body first at) where
    pub list_done : length body ≤ at → true ≡ plain_from_here family (Operator kind true) body
    list_done h = sym (left.decides ∙ none-plain family (Operator kind first) body at h)

    module _ (inside : at < length body) where
      abbrev operator : ℕ
      operator = get_or body at 0

      pair_fits : at + 1 + size_of operator ≤ length body
      pair_fits = (pair-there (shape_of family kind).largest body at (left.ends inside)).fits

      pub value-some : at + 1 < length body
      value-some = let fits = pair_fits in let some = size-positive operator in omega arith

      module _ (r : Bool) (says : r ≡ plain_from_here family (Operator kind first) (operator ∷ get_or body (at + 1) 0 ∷ [])) where
        from-pair : plain_from_here family (Operator kind true) body ≡ (r && plain_from_here family (Operator kind false) (drop (at + 1 + size_of operator) body))
        from-pair = left.decides ∙ pair-plain family kind body at first (left.ends inside) ∙ rw says

        pub list-out : not r ≡ true → false ≡ plain_from_here family (Operator kind true) body
        list-out h = sym (from-pair ∙ rw (not-true r h))

        pub list_on : (size : ℕ) → not r ≡ false → size ≡ size_of operator → ListLeft family kind body false (at + 1 + size)
        list_on size h s =
            rw s (record {
              decides = from-pair ∙ rw (not-false r h);
              ends = λ l. ((pair-there (shape_of family kind).largest body at (left.ends inside)).onward l).1;
            })

-- how `is_plain_body` comes to each of its answers
module _ (family : Family) (kind : ℕ) (body : List ℕ) (shape : Shape) (is : shape ≡ shape_of family kind) (r : Bool) where
  pub body-prefix : shape.prefix ≡ true → r ≡ plain_from_here family Length body → r ≡ plain_from_here family (body_of family kind) body
  unfolding body_of
  body-prefix h e = rw (← is, h) e

  pub body-list : shape.prefix ≡ false → r ≡ plain_from_here family (Operator kind true) body → r ≡ plain_from_here family (body_of family kind) body
  unfolding body_of
  body-list h e = rw (← is, h) e
