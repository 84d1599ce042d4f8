-- Where a value is its own plain spelling, told along the walk over its components: each body is, and a body is told by few of its octets, a
-- prefix by its last one, a pair of a list by its operator and the first octet of its value. Assumes nothing.
use mathlib.Core.Path.{◌≡◌, refl, sym, ap, ap₂, subst, ◌∙◌}
use mathlib.Core.Bool.{Bool, true, false, cond, ◌&&◌, and-true, and-false, and_assoc}
use mathlib.Core.List.{List, [], ◌∷◌, ◌++◌, map}
use mathlib.Core.Logic.{⊎_elim}
use Prim.Native.Nat.{ℕ, zero, suc, ◌+◌, ◌-◌, ◌/◌, ◌%◌, ◌<◌, ◌≤◌}
use native.Mathlib.Omega.{arith}
use native.Mathlib.Decide.{dec_lt}
use native.Mathlib.Numerals.{add-one}
use lib.Dec.{leb, ltb, eqb}
use lib.ListN.{length, get_or, take, drop, set, take-append-drop, drop_of_length-le}
use lib.Seq.{drop-cons}
use borrow.Author.Tests.{lt-leb, eq-eqb}
use Rattle.std.proofs.Common.{Result, Ok, Err}
use Rattle.octets.specs.Test.{every, same_list}
use Rattle.octets.specs.Walk.{Walk}
use Rattle.octets.proofs.Cases.{by-test, apart}
use Rattle.octets.proofs.Facts.{Octets}
use Rattle.octets.proofs.TestLaws.{list_same}
use Rattle.rule.specs.declared.Family.{Family}
use Rattle.rule.specs.declared.Shape.{Shape}
use Rattle.spelling.specs.Plain.{Expected, Kind, Length, Operator, Operand, body_of, operand_after, after, plain_operator, plain_operand, plain_pattern, cleared_octet, plain_from, plain}
use Rattle.rule.specs.Shape.{shape_of}
use Rattle.rule.specs.Operator.{ends_list, size_of}
use Rattle.rule.specs.Component.{pair_at, Pair, pairs_from, lead_of, offset_at, prefix_end, body_end}
use Rattle.rule.specs.Value.{Component, spelled, between, head_of, components, check_value}
use Rattle.spelling.specs.PlainComponent.{plain_component}
use Rattle.rule.proofs.ShapeLaws.{one-octet-or-whole}
use Rattle.rule.proofs.OperatorLaws.{size-positive}
use Rattle.rule.proofs.ComponentLaws.{pair-last, pair-more, pair-cases, lead-some, prefix_cases, prefix-begins, prefix-whole, pairs-more, pairs-last, pairs-refused, pairs-ind, more_within, last_within, EndWithin, body-within}
use Rattle.rule.proofs.ComponentsLaws.{between-octet, between-length, PrefixBody, prefix-body, spelled-whole}
use Rattle.spelling.proofs.PlainLaws.{length-plain-from, whole-operand}
use Rattle.spelling.proofs.SpellingLaws.{plain-whole}
use Rattle.spelling.proofs.PassingLaws.{plain_behind, value-passed, left, last_octet, prefix-passed, prefix-cleared}
use Rattle.rule.specs.declared.NextPair.{NextPair}
use Rattle.rule.specs.declared.NextPair.TheVariants.{More, Last}
use Rattle.rule.specs.declared.Refusal.{Refusal}
use Rattle.rule.specs.declared.Refusal.TheVariants.{CutShort, ValueSize}

-- whether octets, the first of which is as expected, are their own plain spelling
abbrev pub plain_from_here : Family → Expected → List ℕ → Bool
plain_from_here family e v = same_list (plain_from family e v) v

-- two lists of two parts, whose first parts are equally long
same_parts : (a b c d : List ℕ) → length a ≡ length b → same_list (a ++ c) (b ++ d) ≡ (same_list a b && same_list c d)
unfolding same_list
same_parts [] [] c d h = refl
same_parts [] (y ∷ b) c d h = absurd (omega arith)
same_parts (x ∷ a) [] c d h = absurd (omega arith)
same_parts (x ∷ a) (y ∷ b) c d h = rw (same_parts a b c d (omega arith)) (sym (and_assoc (eqb x y) (same_list a b) (same_list c d)))

module _ (family : Family) where
  -- whether the body of a component is its own plain spelling
  abbrev pub plain_body : Component → Bool
  plain_body p = plain_from_here family (body_of family p.kind) p.body

  spelled_same : (ps : List Component) → same_list (spelled (map (plain_component family) ps)) (spelled ps) ≡ every plain_body ps
  unfolding spelled same_list every
  spelled_same [] = refl
  spelled_same (p ∷ ps) =
      let body = plain_from family (body_of family p.kind) p.body in
      rw (eq-eqb p.kind p.kind refl, same_parts body p.body (spelled (map (plain_component family) ps)) (spelled ps) (length-plain-from family (body_of family p.kind) p.body))
      (ap (λ (t : Bool). plain_body p && t) (spelled_same ps))

  -- an accepted value is plain exactly where each of its bodies is
  pub plain-each : (v : List ℕ) → Octets v → check_value family v ≡ Ok tt → same_list (plain family v) v ≡ every plain_body (components family v)
  plain-each v o ok =
      let ps = components family v in
      ap₂ same_list (sym (plain-whole family v o ok)) (sym (spelled-whole family v ok))
      ∙ same_parts (head_of family v) (head_of family v) (spelled (map (plain_component family) ps)) (spelled ps) refl
      ∙ rw (list_same (head_of family v)) (spelled_same ps)

module _ (largest : ℕ) (v : List ℕ) (from to : ℕ) (inside : to ≤ length v) where
  -- a pair that ends in a part of the octets is found there
  PairCut : ℕ → Result NextPair Refusal → Type 0
  PairCut i (Ok (More next)) = next ≤ to → pair_at largest (between v from to) i ≡ Ok (More (next - from))
  PairCut i (Ok (Last next)) = next ≤ to → pair_at largest (between v from to) i ≡ Ok (Last (next - from))
  PairCut i (Err refusal) = Unit {0}

  pair-cut : (i : ℕ) → PairCut i (pair_at largest v (from + i))
  unfolding PairCut
  pair-cut i =
      let operator = get_or v (from + i) 0 in
      pair-cases largest v (from + i) (PairCut i) tt (λ h. tt)
      (λ h allowed ends k.
      let l = between-length v from to (omega arith) inside in
      let is : operator ≡ get_or (between v from to) i 0 = sym (between-octet v from to i (omega arith)) in
      sym (pair-last largest (between v from to) i (size_of operator) (ap size_of is) (omega arith) allowed (ends_list operator) (ap ends_list is) (omega arith) ends)
      ∙ ap (λ n. Ok (Last n)) (omega arith))
      (λ h allowed goes k.
      let l = between-length v from to (omega arith) inside in
      let is : operator ≡ get_or (between v from to) i 0 = sym (between-octet v from to i (omega arith)) in
      sym (pair-more largest (between v from to) i (size_of operator) (ap size_of is) (omega arith) allowed (ends_list operator) (ap ends_list is) (omega arith) goes)
      ∙ ap (λ n. Ok (More n)) (omega arith))

  -- so is a list
  ListCut : ℕ → Walk Pair (Result ℕ Refusal) → Type 0
  ListCut at w = (i : ℕ) → at ≡ from + i → w.ending ≡ Ok to → (at < to) × ((pairs_from largest (between v from to) i).ending ≡ Ok (to - from))

  list-cut : (at : ℕ) → ListCut at (pairs_from largest v at)
  unfolding ListCut PairCut
  list-cut =
      pairs-ind largest v ListCut (λ at refusal e i is ends. apart (cc))
      (λ at next e i is ends.
      let end : next ≡ to = cc in
      let within = last_within largest v at next e in
      let cut = at_cut at i (Ok (Last next)) is e (omega arith) in
      (omega arith, ap (λ (w : Walk Pair (Result ℕ Refusal)). w.ending) (pairs-last largest (between v from to) i (next - from) cut) ∙ ap (λ n. Ok (n - from)) end))
      (λ at next w e rest i is ends.
      let within = more_within largest v at next e in
      let behind = rest (next - from) (omega arith) ends in
      let nearer = behind.0 in
      let cut = at_cut at i (Ok (More next)) is e (omega arith) in
      (omega arith, ap (λ (w : Walk Pair (Result ℕ Refusal)). w.ending) (pairs-more largest (between v from to) i (next - from) cut) ∙ behind.1))
    where
      at_cut : (at i : ℕ) (pair : Result NextPair Refusal) → at ≡ from + i → pair_at largest v at ≡ pair → PairCut i pair
      at_cut at i pair is e = subst (PairCut i) (ap (pair_at largest v) (sym is) ∙ e) (pair-cut i)

-- a prefix's body passes the test of its length against its offset
not-refused : (family : Family) (body : List ℕ) → PrefixBody family body → (ltb 0 (offset_at family body 1) && leb (get_or body 0 0) (offset_at family body 1)) ≡ false
not-refused family body p =
    elim (dec_lt (offset_at family body 1) (get_or body 0 0)) [
      | yes h ↦ rw (lt-leb (get_or body 0 0) (offset_at family body 1) h) (and-false (ltb 0 (offset_at family body 1)))
      | no h ↦ let z = p.begins (omega arith) in rw z
    ]

-- a body is a body where it stands alone
module _ (family : Family) (kind : ℕ) (v : List ℕ) (at next : ℕ) (ends : body_end family kind v at ≡ Ok next) where
  within : (at < next) × (next ≤ length v)
  within = subst (EndWithin v at) ends (body-within v family kind at)

  alone-length : length (between v at next) ≡ next - at
  alone-length = let w = within in between-length v at next (omega arith) w.1

  prefix-alone : (shape_of family kind).prefix ≡ true → prefix_end family (between v at next) 0 ≡ Ok (length (between v at next))
  prefix-alone t =
      let w = within in
      let body = between v at next in
      let p = prefix-body family v at next w.0 w.1 kind t ends in
      let whole = p.whole in
      let lead = lead-some family in
      sym (prefix-whole family body 0 (lead_of family) refl (omega arith) p.within (offset_at family body 1) refl (omega arith) (not-refused family body p) (omega arith))
      ∙ ap (λ n. Ok n) (omega arith)

  list-alone : (shape_of family kind).prefix ≡ false → (pairs_from (shape_of family kind).largest (between v at next) 0).ending ≡ Ok (length (between v at next))
  unfolding body_end ListCut
  list-alone t =
      let w = within in
      (list-cut (shape_of family kind).largest v at next w.1 at 0 (omega arith) (rw t at ends)).1 ∙ ap (λ n. Ok n) (sym alone-length)

  pub body-alone : body_end family kind (between v at next) 0 ≡ Ok (length (between v at next))
  unfolding body_end
  body-alone = by-test (shape_of family kind).prefix (λ t. rw t (prefix-alone t)) (λ t. rw t (list-alone t))

-- what stands at a place of octets that are just one list, from that place on
pub record PairThere (largest : ℕ) (body : List ℕ) (at : ℕ) : Type 0 where
  pub fits : at + 1 + size_of (get_or body at 0) ≤ length body
  pub allowed : size_of (get_or body at 0) ≤ largest
  pub onward : at + 1 + size_of (get_or body at 0) < length body
      → (ends_list (get_or body at 0) ≡ false) × ((pairs_from largest body (at + 1 + size_of (get_or body at 0))).ending ≡ Ok (length body))

pub pair-there : (largest : ℕ) (body : List ℕ) (at : ℕ) → (pairs_from largest body at).ending ≡ Ok (length body) → PairThere largest body at
pair-there largest body at ends =
    pair-cases largest body at (λ pair. pair_at largest body at ≡ pair → PairThere largest body at) (λ e. none (CutShort (length body)) e) (λ h e. none (ValueSize at) e)
    (λ h u t e.
    let last : Ok (at + 1 + size_of (get_or body at 0)) ≡ Ok (length body) = sym (how (pairs-last largest body at (at + 1 + size_of (get_or body at 0)) e)) ∙ ends in
    let end : at + 1 + size_of (get_or body at 0) ≡ length body = cc in
    record { fits = h; allowed = u; onward = λ l. absurd (omega arith) })
    (λ h u t e.
    record { fits = h; allowed = u; onward = λ l. (t, sym (how (pairs-more largest body at (at + 1 + size_of (get_or body at 0)) e)) ∙ ends) })
    refl
  where
    how : {a b : Walk Pair (Result ℕ Refusal)} → a ≡ b → a.ending ≡ b.ending
    how e = ap (λ (w : Walk Pair (Result ℕ Refusal)). w.ending) e

    none : (refusal : Refusal) → pair_at largest body at ≡ Err refusal → PairThere largest body at
    none refusal e =
        let z : Err refusal ≡ Ok (length body) = sym (how (pairs-refused largest body at refusal e)) ∙ ends in
        apart (cc)

-- octets are plain where the first one is and those behind it are
octet-plain : (family : Family) (e : Expected) (s : List ℕ) (i : ℕ) → i < length s
    → plain_from_here family e (drop i s) ≡ (eqb (cleared_octet family e (get_or s i 0)) (get_or s i 0) && plain_from_here family (after family e (get_or s i 0)) (drop (i + 1) s))
unfolding plain_from same_list
octet-plain family e s i h = rw (drop-cons s i 0 h, plain_from, same_list, add-one)

-- and where none is left
pub none-plain : (family : Family) (e : Expected) (s : List ℕ) (i : ℕ) → length s ≤ i → plain_from_here family e (drop i s) ≡ true
unfolding plain_from same_list
none-plain family e s i h = rw (drop_of_length-le s h)

-- and so are octets where those passed over are not looked at
passed-plain : (family : Family) (s : List ℕ) (e f : Expected) (i j : ℕ) → plain_behind family e i s ≡ plain_behind family f j s
    → plain_from_here family e (drop i s) ≡ plain_from_here family f (drop j s)
passed-plain family s e f i j h = sym (behind e i) ∙ ap (λ (l : List ℕ). same_list l s) h ∙ behind f j
  where
    behind : (e : Expected) (i : ℕ) → same_list (plain_behind family e i s) s ≡ plain_from_here family e (drop i s)
    behind e i =
        ap (same_list (plain_behind family e i s)) (sym (take-append-drop i s))
        ∙ same_parts (take i s) (take i s) (plain_from family e (drop i s)) (drop i s) refl ∙ rw (list_same (take i s))

module _ (family : Family) (kind : ℕ) where
  abbrev shape : Shape
  shape = shape_of family kind

  -- a value is plain where its first octet is
  value-plain : (s : List ℕ) (i n : ℕ) (last : Bool) → 1 ≤ n → n ≤ shape.largest → i + n ≤ length s
      → plain_from_here family (Operand kind n last) (drop i s)
      ≡ (eqb (plain_operand shape.ignored (get_or s i 0)) (get_or s i 0) && plain_from_here family (cond last Kind (Operator kind false)) (drop (i + n) s))
  unfolding after cleared_octet operand_after
  value-plain s i zero last some allowed fits = absurd (omega arith)
  value-plain s i (suc n) last some allowed fits =
      ⊎_elim
      (λ narrow. let one : n ≡ 0 = omega arith in rw one (octet-plain family (Operand kind 1 last) s i (omega arith)))
      (λ none.
      passed-plain family s (Operand kind (suc n) last) (cond last Kind (Operator kind false)) i (i + suc n) (value-passed family kind n i last s none fits)
      ∙ rw (whole-operand shape.ignored (get_or s i 0) none, eq-eqb (get_or s i 0) (get_or s i 0) refl))
      (one-octet-or-whole family kind)

  -- from a pair on a list is plain where the pair's operator and the first octet of its value are, and the list behind the pair
  pub pair-plain : (body : List ℕ) (at : ℕ) (first : Bool) → (pairs_from shape.largest body at).ending ≡ Ok (length body)
      → let operator = get_or body at 0 in let octet = get_or body (at + 1) 0 in
      plain_from_here family (Operator kind first) (drop at body)
      ≡ (plain_from_here family (Operator kind first) (operator ∷ octet ∷ []) && plain_from_here family (Operator kind false) (drop (at + 1 + size_of operator) body))
  unfolding plain_from same_list after cleared_octet
  pair-plain body at first ends =
      let operator = get_or body at 0 in
      let octet = get_or body (at + 1) 0 in
      let plainly = eqb (plain_operator shape.bitmask first operator) operator in
      let value = eqb (plain_operand shape.ignored octet) octet in
      let behind = plain_from_here family (Operator kind false) (drop (at + 1 + size_of operator) body) in
      let pair = pair-there shape.largest body at ends in
      let fits = pair.fits in
      let some = size-positive operator in
      octet-plain family (Operator kind first) body at (omega arith)
      ∙ ap (λ (t : Bool). plainly && t)
      (value-plain body (at + 1) (size_of operator) (ends_list operator) some pair.allowed (omega arith) ∙ ap (λ (t : Bool). value && t) (rest pair))
      ∙ sym (and_assoc plainly value behind)
      ∙ ap (λ (t : Bool). (plainly && t) && behind) (sym (and-true value))
    where
      rest : PairThere shape.largest body at
          → plain_from_here family (cond (ends_list (get_or body at 0)) Kind (Operator kind false)) (drop (at + 1 + size_of (get_or body at 0)) body)
          ≡ plain_from_here family (Operator kind false) (drop (at + 1 + size_of (get_or body at 0)) body)
      rest pair =
          elim (dec_lt (at + 1 + size_of (get_or body at 0)) (length body)) [
            | yes h ↦ rw (pair.onward h).0
            | no h ↦
                let n = at + 1 + size_of (get_or body at 0) in
                none-plain family (cond (ends_list (get_or body at 0)) Kind (Operator kind false)) body n (omega arith)
                ∙ sym (none-plain family (Operator kind false) body n (omega arith))
          ]

-- octets that are just one prefix
pub prefix-there : (family : Family) (body : List ℕ) → prefix_end family body 0 ≡ Ok (length body) → PrefixBody family body
prefix-there family body e =
    prefix_cases family body 0 (λ end. end ≡ Ok (length body) → PrefixBody family body) (λ z. apart (cc)) (λ h z. apart (cc))
    (λ h k l z.
    let end : 0 + lead_of family + (get_or body 0 0 - offset_at family body 1 + 7) / 8 ≡ length body = cc in
    record { within = k; below = l; begins = prefix-begins family body 0 (length body) e; whole = omega arith })
    e

module _ (family : Family) (body : List ℕ) (alone : prefix_end family body 0 ≡ Ok (length body)) where
  pub prefix-some : 0 < length body
  prefix-some = let whole = (prefix-there family body alone).whole in let lead = lead-some family in omega arith

  pub last-inside : length body - 1 < length body
  last-inside = let some = prefix-some in omega arith

  pub offset-below : (offset : ℕ) → offset ≡ offset_at family body 1 → offset ≤ get_or body 0 0
  offset-below offset is = rw is (prefix-there family body alone).below

-- a body of a type is a prefix or a list
module _ (family : Family) (kind : ℕ) (body : List ℕ) (shape : Shape) (is : shape ≡ shape_of family kind) (alone : body_end family kind body 0 ≡ Ok (length body)) where
  pub as-prefix : shape.prefix ≡ true → prefix_end family body 0 ≡ Ok (length body)
  unfolding body_end
  as-prefix h = rw (← is, h) at alone

  pub as-list : shape.prefix ≡ false → (pairs_from (shape_of family kind).largest body 0).ending ≡ Ok (length body)
  unfolding body_end
  as-list h = let p : (shape_of family kind).prefix ≡ false = ap (λ (s : Shape). s.prefix) (sym is) ∙ h in rw p at alone

-- octets of which one is exchanged are as they were where that one is
exchanged : (s : List ℕ) (i x : ℕ) → i < length s → same_list (set s i x) s ≡ eqb x (get_or s i 0)
unfolding same_list
exchanged [] i x h = absurd (omega arith)
exchanged (y ∷ s) zero x h = rw (list_same s) (and-true (eqb x y))
exchanged (y ∷ s) (suc i) x h = rw (eq-eqb y y refl) (exchanged s i x (omega arith))

module _ (family : Family) (body : List ℕ) (p : PrefixBody family body) where
  -- all bits of the pattern's octets are kept
  pub prefix-whole-octets : left family body p % 8 ≡ 0 → plain_from_here family Length body ≡ true
  prefix-whole-octets all = rw (prefix-passed family body p all) (list_same body)

  -- or some of its last octet's
  pub prefix-last-octet : (left family body p % 8 ≡ 0 → ⊥) → plain_from_here family Length body ≡ eqb (plain_pattern (left family body p % 8) (last_octet family body p)) (last_octet family body p)
  prefix-last-octet some =
      let whole = p.whole in
      let lead = lead-some family in
      rw (prefix-cleared family body p some) (exchanged body (length body - 1) (plain_pattern (left family body p % 8) (last_octet family body p)) (omega arith))
