-- The plain spelling is read as the value is: the cursor finds the same components at the same places, each with its plain body, in a
-- list the same pairs, each plain, and a value is accepted or refused as its plain spelling is. Assumes nothing.
use mathlib.Core.Path.{◌≡◌, refl, sym, ap, ap₂, subst, ◌∙◌}
use mathlib.Core.Bool.{Bool, true, false, cond}
use mathlib.Core.List.{List, [], ◌∷◌, ◌++◌, map}
use mathlib.Core.Logic.{⊎_elim}
use Prim.Native.Nat.{ℕ, zero, suc, ◌+◌, ◌-◌, ◌/◌, ◌<◌, ◌≤◌}
use native.Mathlib.Omega.{arith}
use native.Mathlib.Decide.{dec_lt}
use native.Mathlib.Numerals.{add-one}
use native.Mathlib.Nat.{add-zero, zero-add}
use lib.Dec.{leb, ltb}
use lib.ListN.{length, get_or, take, drop, drop_of_length-le, get_or-eq_default}
use lib.Seq.{drop-cons, drop-drop, get_or-drop}
use borrow.Author.Tests.{lt-ltb, lt-leb, leb-false, leb-true, ltb-true, ltb-false}
use Rattle.std.proofs.Common.{Result, Ok, Err, Option, Some, None}
use Rattle.octets.specs.Number.{number_at}
use Rattle.octets.specs.Walk.{Walk, before}
use Rattle.octets.proofs.Cases.{by-test}
use Rattle.octets.proofs.Facts.{Octets}
use Rattle.octets.proofs.NumberLaws.{number-alike, one-octet}
use Rattle.rule.specs.declared.Family.{Family}
use Rattle.rule.specs.declared.Shape.{Shape}
use Rattle.spelling.specs.Plain.{Expected, Head, Kind, Length, Offset, PatternOctet, Operator, Operand, expected_at_start, body_of, pattern_after, operand_after, after, plain_operand, cleared_octet, plain_from, plain}
use Rattle.rule.specs.Shape.{shape_of}
use Rattle.rule.specs.Operator.{ends_list, size_of}
use Rattle.rule.specs.Component.{pair_at, Pair, pair_of, pairs_from, lead_of, offset_at, prefix_end, body_end, found, component_at, located}
use Rattle.rule.specs.Value.{Component, spelled, between, head_of, at_start, components_from, components, check_value}
use Rattle.spelling.specs.PlainComponent.{plain_pair, plain_pairs, plain_component}
use Rattle.rule.proofs.ShapeLaws.{one-octet-or-whole}
use Rattle.rule.proofs.OperatorLaws.{size-positive}
use Rattle.rule.proofs.ComponentLaws.{pair-cases, lead-with, lead-without, offset-with, offset-without, prefix_cases, prefix-missing, component-cases, pairs-more, pairs-last, pairs-refused, pairs-ind}
use Rattle.rule.proofs.ValueLaws.{was-found, components-more, components-none, components-refused, components-ind}
use Rattle.rule.proofs.ComponentsLaws.{spelled-whole}
use Rattle.spelling.proofs.PlainLaws.{length-plain-from, length-plain, starts-with-kind, starts-with-head, pattern-none, pattern-some, whole-operand, after-length-offset, after-length, after-offset}
use Rattle.spelling.proofs.ClearedLaws.{size-kept, end_kept}
use Rattle.rule.specs.declared.NextPair.{NextPair}
use Rattle.rule.specs.declared.NextPair.TheVariants.{More, Last}
use Rattle.rule.specs.declared.Refusal.{Refusal}
use Rattle.rule.specs.declared.Located.{Located}

-- the octet at a place is as expected, where the first is as `start` says: from there on the spelling is that of what is left
Expects : Family → Expected → List ℕ → ℕ → Expected → Type 0
Expects family start v i e = drop i (plain_from family start v) ≡ plain_from family e (drop i v)

module _ (family : Family) (start : Expected) (v : List ℕ) where
  starts : Expects family start v 0 start
  unfolding Expects
  starts = refl

  -- the octet there, cleared, and what is expected behind it
  octet-there : (i : ℕ) (e : Expected) → Expects family start v i e → i < length v → get_or (plain_from family start v) i 0 ≡ cleared_octet family e (get_or v i 0)
  unfolding Expects plain_from
  octet-there i e x h =
      let p : get_or (drop i (plain_from family start v)) 0 0 ≡ cleared_octet family e (get_or v i 0) = rw (x, drop-cons v i 0 h) in
      sym (get_or-drop i (plain_from family start v) 0 0 ∙ ap (λ n. get_or (plain_from family start v) n 0) (add-zero i)) ∙ p

  goes_on : (i : ℕ) (e : Expected) → Expects family start v i e → i < length v → Expects family start v (i + 1) (after family e (get_or v i 0))
  unfolding Expects plain_from
  goes_on i e x h = sym (drop-drop 1 i (plain_from family start v)) ∙ rw (x, drop-cons v i 0 h, add-one)

  -- behind a value of n octets stands the next operator, or after the last pair a type
  value-passed : (n i kind : ℕ) (last : Bool) → Expects family start v i (Operand kind n last) → 1 ≤ n → i + n ≤ length v
      → Expects family start v (i + n) (cond last Kind (Operator kind false))
  unfolding after operand_after
  value-passed zero i kind last x h k = absurd (omega arith)
  value-passed (suc n) i kind last x h k =
      let next = goes_on i (Operand kind (suc n) last) x (omega arith) in
      go (value-passed n (i + 1) kind last) (ltb 1 (suc n)) refl next
    where
      go : (Expects family start v (i + 1) (Operand kind n last) → 1 ≤ n → i + 1 + n ≤ length v → Expects family start v (i + 1 + n) (cond last Kind (Operator kind false)))
          → (t : Bool) → ltb 1 (suc n) ≡ t → Expects family start v (i + 1) (operand_after kind (suc n) last) → Expects family start v (i + suc n) (cond last Kind (Operator kind false))
      go ih true t y =
          let m : suc n - 1 ≡ n = omega arith in
          let e : i + 1 + n ≡ i + suc n = omega arith in
          let z = ltb-true 1 (suc n) t in
          rw (← e) (ih (rw (t, m) at y) (omega arith) (omega arith))
      go ih false t y =
          let z = ltb-false 1 (suc n) t in
          let e : i + 1 ≡ i + suc n = omega arith in
          rw (← e) (rw t at y)

  -- the octets of a value, cleared one by one
  value-octets : (j n i kind : ℕ) (last : Bool) → Expects family start v i (Operand kind n last) → i + n ≤ length v → j < n
      → get_or (plain_from family start v) (i + j) 0 ≡ plain_operand (shape_of family kind).ignored (get_or v (i + j) 0)
  unfolding after operand_after cleared_octet
  value-octets zero n i kind last x h k = rw (add-zero i) (octet-there i (Operand kind n last) x (omega arith))
  value-octets (suc j) n i kind last x h k =
      let e : i + 1 + j ≡ i + suc j = omega arith in
      let next = goes_on i (Operand kind n last) x (omega arith) in
      rw (← e) (value-octets j (n - 1) (i + 1) kind last (rw (lt-ltb 1 n (omega arith)) at next) (omega arith) (omega arith))

  -- so is the number that they are: a type that clears bits has values of one octet
  value-cleared : (n i kind : ℕ) (last : Bool) → Expects family start v i (Operand kind n last) → 1 ≤ n → i + n ≤ length v → n ≤ (shape_of family kind).largest
      → number_at n (plain_from family start v) i ≡ plain_operand (shape_of family kind).ignored (number_at n v i)
  value-cleared n i kind last x some h allowed =
      let shape = shape_of family kind in
      let octets : (j : ℕ) → j < n → get_or (plain_from family start v) (i + j) 0 ≡ plain_operand shape.ignored (get_or v (i + j) 0)
      = λ j k. value-octets j n i kind last x h k in
      ⊎_elim
      (λ narrow.
      let one : n ≡ 1 = omega arith in
      rw (one, one-octet (plain_from family start v) i, one-octet v i) (rw (add-zero i) at (octets 0 (omega arith))))
      (λ none.
      rw (whole-operand shape.ignored (number_at n v i) none)
      (number-alike n (plain_from family start v) v i (λ j k. octets j k ∙ whole-operand shape.ignored (get_or v (i + j) 0) none)))
      (one-octet-or-whole family kind)

abbrev plain_list : Shape → Bool → Walk Pair (Result ℕ Refusal) → Walk Pair (Result ℕ Refusal)
plain_list shape first w = record { items = plain_pairs shape first w.items; ending = w.ending }

-- what a pair is in the plain spelling, and what is expected behind it
PairExpects : Family → Expected → List ℕ → ℕ → Bool → ℕ → Result NextPair Refusal → Type 0
PairExpects family start v kind first at (Ok (More next)) =
    (pair_of (plain_from family start v) at next ≡ plain_pair (shape_of family kind) first (pair_of v at next)) × Expects family start v next (Operator kind false)
PairExpects family start v kind first at (Ok (Last next)) =
    (pair_of (plain_from family start v) at next ≡ plain_pair (shape_of family kind) first (pair_of v at next)) × Expects family start v next Kind
PairExpects family start v kind first at (Err refusal) = Unit {0}

-- what is expected at the end of a body
EndExpects : Family → Expected → List ℕ → Result ℕ Refusal → Type 0
EndExpects family start v (Ok next) = Expects family start v next Kind
EndExpects family start v (Err refusal) = Unit {0}

module _ (family : Family) (start : Expected) (v : List ℕ) (o : Octets v) (kind : ℕ) where
  abbrev shape : Shape
  shape = shape_of family kind

  pair_same : (at : ℕ) (first : Bool) → Expects family start v at (Operator kind first) → pair_at shape.largest (plain_from family start v) at ≡ pair_at shape.largest v at
  unfolding pair_at cleared_octet
  pair_same at first x =
      by-test (leb (length v) at) (λ t. rw (length-plain-from family start v, t))
      (λ t. let h = leb-false (length v) at t in
      rw (length-plain-from family start v, octet-there family start v at (Operator kind first) x h, size-kept shape.bitmask first (get_or v at 0) (o at), end_kept shape.bitmask first (get_or v at 0) (o at)))

  module _ (at : ℕ) (first : Bool) (x : Expects family start v at (Operator kind first)) where
    abbrev operator : ℕ
    operator = get_or v at 0

    behind : at < length v → Expects family start v (at + 1) (Operand kind (size_of operator) (ends_list operator))
    unfolding after
    behind h = goes_on family start v at (Operator kind first) x h

    same-pair : at + 1 + size_of operator ≤ length v → size_of operator ≤ shape.largest
        → pair_of (plain_from family start v) at (at + 1 + size_of operator) ≡ plain_pair (shape_of family kind) first (pair_of v at (at + 1 + size_of operator))
    unfolding cleared_octet
    same-pair h u =
        let size : at + 1 + size_of operator - (at + 1) ≡ size_of operator = omega arith in
        let value = value-cleared family start v (size_of operator) (at + 1) kind (ends_list operator) (behind (omega arith)) (size-positive operator) h u in
        rw size (λ i. record { operator = octet-there family start v at (Operator kind first) x (omega arith) i; value = value i })

    passed : at + 1 + size_of operator ≤ length v → Expects family start v (at + 1 + size_of operator) (cond (ends_list operator) Kind (Operator kind false))
    passed h = value-passed family start v (size_of operator) (at + 1) kind (ends_list operator) (behind (omega arith)) (size-positive operator) h

    pair_then : PairExpects family start v kind first at (pair_at shape.largest v at)
    unfolding PairExpects
    pair_then = pair-cases shape.largest v at (PairExpects family start v kind first at) tt (λ h. tt) (λ h u e. (same-pair h u, rw e at (passed h))) (λ h u e. (same-pair h u, rw e at (passed h)))

  -- a list in the plain spelling is the list of its pairs in the plain spelling, and a type is expected behind it
  ListSame : ℕ → Walk Pair (Result ℕ Refusal) → Type 0
  ListSame at w = (first : Bool) → Expects family start v at (Operator kind first)
      → (pairs_from shape.largest (plain_from family start v) at ≡ plain_list shape first w) × EndExpects family start v w.ending

  list_same : (at : ℕ) → ListSame at (pairs_from shape.largest v at)
  unfolding ListSame EndExpects PairExpects
  list_same =
      pairs-ind shape.largest v ListSame
      (λ at refusal e first x. (pairs-refused shape.largest (plain_from family start v) at refusal (pair_same at first x ∙ e), tt))
      (λ at next e first x.
      let here = at_pair at first (Ok (Last next)) e x in
      (pairs-last shape.largest (plain_from family start v) at next (pair_same at first x ∙ e) ∙ ap (λ (p : Pair). record { items = p ∷ []; ending = Ok next }) here.0, here.1))
      (λ at next w e h first x.
      let here = at_pair at first (Ok (More next)) e x in
      let rest = h false here.1 in
      (pairs-more shape.largest (plain_from family start v) at next (pair_same at first x ∙ e) ∙ ap₂ before here.0 rest.0, rest.1))
    where
      at_pair : (at : ℕ) (first : Bool) (pair : Result NextPair Refusal) → pair_at shape.largest v at ≡ pair → Expects family start v at (Operator kind first)
          → PairExpects family start v kind first at pair
      at_pair at first pair e x = subst (PairExpects family start v kind first at) e (pair_then at first x)

module _ (family : Family) (start : Expected) (v : List ℕ) where
  -- behind the octets of a prefix stands a type
  prefix-passed : (m left i : ℕ) → left ≤ m → Expects family start v i (PatternOctet left) → 1 ≤ left → i + (left + 7) / 8 ≤ length v → Expects family start v (i + (left + 7) / 8) Kind
  unfolding after
  prefix-passed zero left i b x h k = absurd (omega arith)
  prefix-passed (suc m) left i b x h k =
      go (prefix-passed m (left - 8) (i + 1)) (leb left 8) refl (goes_on family start v i (PatternOctet left) x (omega arith))
    where
      go : (left - 8 ≤ m → Expects family start v (i + 1) (PatternOctet (left - 8)) → 1 ≤ left - 8 → i + 1 + (left - 8 + 7) / 8 ≤ length v
          → Expects family start v (i + 1 + (left - 8 + 7) / 8) Kind) → (t : Bool) → leb left 8 ≡ t → Expects family start v (i + 1) (cond (leb left 8) Kind (PatternOctet (left - 8)))
          → Expects family start v (i + (left + 7) / 8) Kind
      go ih true t y =
          let z = leb-true left 8 t in
          let e : i + 1 ≡ i + (left + 7) / 8 = omega arith in
          rw (← e) (rw t at y)
      go ih false t y =
          let z = leb-false left 8 t in
          let e : i + 1 + (left - 8 + 7) / 8 ≡ i + (left + 7) / 8 = omega arith in
          rw (← e) (ih (omega arith) (rw t at y) (omega arith) (omega arith))

  -- and so behind those of its pattern
  pattern-passed : (bits offset i : ℕ) → Expects family start v i (pattern_after bits offset) → i + (bits - offset + 7) / 8 ≤ length v
      → Expects family start v (i + (bits - offset + 7) / 8) Kind
  pattern-passed bits offset i x k =
      elim (dec_lt offset bits) [
        | yes h ↦ prefix-passed (bits - offset) (bits - offset) i (omega arith) (rw (← pattern-some bits offset h) at x) (omega arith) k
        | no h ↦
            let e : i ≡ i + (bits - offset + 7) / 8 = omega arith in
            rw (← e) (rw (← pattern-none bits offset (omega arith)) at x)
      ]

  module _ (at : ℕ) (x : Expects family start v at Length) (inside : at < length v) where
    -- behind the length octet the offset is as it was, and then the pattern is expected
    offset-expected : family.offsets ≡ true → Expects family start v (at + 1) (Offset (get_or v at 0))
    offset-expected t = rw (after-length-offset family Length (get_or v at 0) refl t) (goes_on family start v at Length x inside)

    offset-same : offset_at family (plain_from family start v) (at + 1) ≡ offset_at family v (at + 1)
    unfolding cleared_octet
    offset-same =
        by-test family.offsets
        (λ t.
        offset-with family (plain_from family start v) (at + 1) t
        ∙ elim (dec_lt (at + 1) (length v)) [
          | yes h ↦ octet-there family start v (at + 1) (Offset (get_or v at 0)) (offset-expected t) h
          | no h ↦
              let l = length-plain-from family start v in
              get_or-eq_default (plain_from family start v) 0 {n = at + 1} (omega arith) ∙ sym (get_or-eq_default v 0 {n = at + 1} (omega arith))
        ]
        ∙ sym (offset-with family v (at + 1) t))
        (λ t. offset-without family (plain_from family start v) (at + 1) t ∙ sym (offset-without family v (at + 1) t))

    pattern-expected : at + lead_of family ≤ length v → Expects family start v (at + lead_of family) (pattern_after (get_or v at 0) (offset_at family v (at + 1)))
    pattern-expected there =
        let bits = get_or v at 0 in
        by-test family.offsets
        (λ t.
        let lead = lead-with family t in
        let e : at + lead_of family ≡ at + 1 + 1 = omega arith in
        let offset = get_or v (at + 1) 0 in
        rw (e, offset-with family v (at + 1) t, after-offset family (Offset bits) offset bits (pattern_after bits offset) refl refl)
        (goes_on family start v (at + 1) (Offset bits) (offset-expected t) (omega arith)))
        (λ t.
        let lead = lead-without family t in
        let e : at + lead_of family ≡ at + 1 = omega arith in
        rw (e, offset-without family v (at + 1) t, after-length family Length bits (pattern_after bits 0) refl t refl)
        (goes_on family start v at Length x inside))

    prefix-inside : (prefix_end family (plain_from family start v) at ≡ prefix_end family v at) × EndExpects family start v (prefix_end family v at)
    unfolding prefix_end cleared_octet EndExpects
    prefix-inside = (
      rw (length-plain-from family start v, octet-there family start v at Length x inside, offset-same),
      prefix_cases family v at (EndExpects family start v) tt (λ h. tt)
          (λ h k l. pattern-passed (get_or v at 0) (offset_at family v (at + 1)) (at + lead_of family) (pattern-expected (omega arith)) h),
    )

  prefix_same : (at : ℕ) → Expects family start v at Length
      → (prefix_end family (plain_from family start v) at ≡ prefix_end family v at) × EndExpects family start v (prefix_end family v at)
  unfolding EndExpects
  prefix_same at x =
      elim (dec_lt at (length v)) [
        | yes h ↦ prefix-inside at x h
        | no h ↦
            let l = length-plain-from family start v in
            let cut = prefix-missing family v at (omega arith) in
            (sym (prefix-missing family (plain_from family start v) at (omega arith)) ∙ rw l cut, subst (EndExpects family start v) cut tt)
      ]

-- what is expected behind a component
NextExpects : Family → Expected → List ℕ → Result (Option Located) Refusal → Type 0
NextExpects family start v (Ok None) = Unit {0}
NextExpects family start v (Ok (Some found)) = Expects family start v found.next Kind
NextExpects family start v (Err refusal) = Unit {0}

module _ (family : Family) (start : Expected) (v : List ℕ) (o : Octets v) where
  body_same : (kind at : ℕ) → Expects family start v at (body_of family kind) → (body_end family kind (plain_from family start v) at ≡ body_end family kind v at) × EndExpects family start v (body_end family kind v at)
  unfolding body_end body_of ListSame
  body_same kind at x =
      by-test (shape_of family kind).prefix
      (λ t. let same = prefix_same family start v at (rw t at x) in rw t (same.0, same.1))
      (λ t. let same = list_same family start v o kind at true (rw t at x) in rw t (ap (λ (w : Walk Pair (Result ℕ Refusal)). w.ending) same.0, same.1))

  component-same : (at previous : ℕ) → Expects family start v at Kind
      → (component_at family (plain_from family start v) at previous ≡ component_at family v at previous) × NextExpects family start v (component_at family v at previous)
  unfolding component_at cleared_octet after NextExpects EndExpects
  component-same at previous x =
      (same, component-cases family v at previous (NextExpects family start v) (λ h. tt) (λ h. tt) (λ h. tt) (λ h z k r. then (body_end family (get_or v at 0) v (at + 1)) (body h).1))
    where
      body : (h : at < length v) → (body_end family (get_or v at 0) (plain_from family start v) (at + 1) ≡ body_end family (get_or v at 0) v (at + 1)) × EndExpects family start v (body_end family (get_or v at 0) v (at + 1))
      body h = body_same (get_or v at 0) (at + 1) (goes_on family start v at Kind x h)

      same : component_at family (plain_from family start v) at previous ≡ component_at family v at previous
      same =
          by-test (leb (length v) at) (λ t. rw (length-plain-from family start v, t))
          (λ t. let h = leb-false (length v) at t in rw (length-plain-from family start v, t, octet-there family start v at Kind x h, (body h).0))

      then : (e : Result ℕ Refusal) → EndExpects family start v e → NextExpects family start v (found (get_or v at 0) e)
      then (Ok next) y = y
      then (Err refusal) y = tt

-- the offset of a prefix is kept, and its pattern is the pattern in the plain spelling
module _ (family : Family) (body : List ℕ) (some : 0 < length body) where
  pub offset-kept : offset_at family (plain_from family Length body) 1 ≡ offset_at family body 1
  offset-kept = offset-same family Length body 0 (starts family Length body) some

  pub pattern-plain : lead_of family ≤ length body
      → drop (lead_of family) (plain_from family Length body) ≡ plain_from family (pattern_after (get_or body 0 0) (offset_at family body 1)) (drop (lead_of family) body)
  unfolding Expects
  pattern-plain h = rw (zero-add (lead_of family)) at (pattern-expected family Length body 0 (starts family Length body) some (omega arith))

-- the pairs of a list in the plain spelling are its pairs in the plain spelling
pub pairs-plain : (family : Family) (kind : ℕ) (v : List ℕ) → Octets v → let shape = shape_of family kind in
    (pairs_from shape.largest (plain_from family (Operator kind true) v) 0).items ≡ plain_pairs shape true (pairs_from shape.largest v 0).items
unfolding ListSame
pairs-plain family kind v o =
    ap (λ (w : Walk Pair (Result ℕ Refusal)). w.items) (list_same family (Operator kind true) v o kind 0 true (starts family (Operator kind true) v)).0

take-plain : (family : Family) (e : Expected) (n : ℕ) (v : List ℕ) → take n (plain_from family e v) ≡ plain_from family e (take n v)
unfolding plain_from
take-plain family e zero v = refl
take-plain family e (suc n) [] = refl
take-plain family e (suc n) (x ∷ xs) = ap (λ (l : List ℕ). cleared_octet family e x ∷ l) (take-plain family (after family e x) n xs)

abbrev plain_walk : Family → Walk Component (Result Unit Refusal) → Walk Component (Result Unit Refusal)
plain_walk family w = record { items = map (plain_component family) w.items; ending = w.ending }

module _ (family : Family) (start : Expected) (v : List ℕ) (o : Octets v) where
  WalkSame : ℕ → ℕ → Walk Component (Result Unit Refusal) → Type 0
  WalkSame at previous w = Expects family start v at Kind → components_from family (plain_from family start v) (record { at = at; previous = previous }) ≡ plain_walk family w

  walk_same : (at previous : ℕ) → WalkSame at previous (components_from family v (record { at = at; previous = previous }))
  unfolding WalkSame NextExpects Expects after
  walk_same =
      components-ind family v WalkSame
      (λ at previous e x. components-none family (plain_from family start v) at previous ((component-same family start v o at previous x).0 ∙ e))
      (λ at previous refusal e x. components-refused family (plain_from family start v) at previous refusal ((component-same family start v o at previous x).0 ∙ e))
      (λ at previous kind next w e h x.
      components-more family (plain_from family start v) at previous kind next ((component-same family start v o at previous x).0 ∙ e)
      ∙ ap₂ before (one at previous kind next e x) (h (behind at previous kind next e (component-same family start v o at previous x).1)))
    where
      behind : (at previous kind next : ℕ) → component_at family v at previous ≡ Ok (Some (located kind next)) → NextExpects family start v (component_at family v at previous) → Expects family start v next Kind
      behind at previous kind next e x = subst (NextExpects family start v) e x

      one : (at previous kind next : ℕ) → component_at family v at previous ≡ Ok (Some (located kind next)) → Expects family start v at Kind
          → record { kind = kind; body = between (plain_from family start v) (at + 1) next } ≡ plain_component family (record { kind = kind; body = between v (at + 1) next })
      one at previous kind next e x =
          let f = was-found family v at previous kind next e in
          let expects : Expects family start v (at + 1) (body_of family kind) = rw (← f.is) at (goes_on family start v at Kind x f.inside) in
          let body : between (plain_from family start v) (at + 1) next ≡ plain_from family (body_of family kind) (between v (at + 1) next)
          = ap (take (next - (at + 1))) expects ∙ take-plain family (body_of family kind) (next - (at + 1)) (drop (at + 1) v) in
          λ i. record { kind = kind; body = body i }

module _ (family : Family) (start : Expected) (v : List ℕ) where
  -- behind the octets of the head stands a type
  head_passed : (n i : ℕ) → Expects family start v i (Head n) → 1 ≤ n → i + n ≤ length v → Expects family start v (i + n) Kind
  unfolding after
  head_passed zero i x h k = absurd (omega arith)
  head_passed (suc n) i x h k = go (head_passed n (i + 1)) (leb (suc n) 1) refl (goes_on family start v i (Head (suc n)) x (omega arith))
    where
      go : (Expects family start v (i + 1) (Head n) → 1 ≤ n → i + 1 + n ≤ length v → Expects family start v (i + 1 + n) Kind) → (t : Bool) → leb (suc n) 1 ≡ t
          → Expects family start v (i + 1) (cond (leb (suc n) 1) Kind (Head (suc n - 1))) → Expects family start v (i + suc n) Kind
      go ih true t y =
          let z = leb-true (suc n) 1 t in
          let e : i + 1 ≡ i + suc n = omega arith in
          rw (← e) (rw t at y)
      go ih false t y =
          let z = leb-false (suc n) 1 t in
          let m : suc n - 1 ≡ n = omega arith in
          let e : i + 1 + n ≡ i + suc n = omega arith in
          rw (← e) (ih (rw (t, m) at y) (omega arith) (omega arith))

  -- past the value's end nothing is left to expect
  past_end : (i : ℕ) (e : Expected) → length v ≤ i → Expects family start v i e
  unfolding Expects plain_from
  past_end i e h =
      let l = length-plain-from family start v in
      drop_of_length-le (plain_from family start v) {i = i} (omega arith) ∙ rw (drop_of_length-le v h)

module _ (family : Family) (v : List ℕ) where
  -- so that a type stands behind the head
  head-expected : Expects family (expected_at_start family) v family.head Kind
  head-expected =
      let start = expected_at_start family in
      elim (dec_lt 0 family.head) [
        | yes h ↦
            let first = subst (λ (e : Expected). Expects family start v 0 e) (sym (starts-with-head family (λ z. omega arith))) (starts family start v) in
            elim (dec_lt (length v) family.head) [
              | yes l ↦ past_end family start v family.head Kind (omega arith)
              | no l ↦ subst (λ n. Expects family start v n Kind) (zero-add family.head) (head_passed family start v family.head 0 first h (omega arith))
            ]
        | no h ↦
            let none : family.head ≡ 0 = omega arith in
            let first = subst (λ (e : Expected). Expects family start v 0 e) (sym (starts-with-kind family none)) (starts family start v) in
            subst (λ n. Expects family start v n Kind) (sym none) first
      ]

  -- and the head is kept
  octets-kept : (n : ℕ) (w : List ℕ) → take (suc n) (plain_from family (Head (suc n)) w) ≡ take (suc n) w
  unfolding plain_from after cleared_octet
  octets-kept n [] = refl
  octets-kept zero (x ∷ xs) = refl
  octets-kept (suc n) (x ∷ xs) =
      let e : suc (suc n) - 1 ≡ suc n = omega arith in
      rw (lt-leb (suc (suc n)) 1 (omega arith), e) (ap (λ (l : List ℕ). x ∷ l) (octets-kept n xs))

  pub head-kept : head_of family (plain family v) ≡ head_of family v
  unfolding plain
  head-kept = go family.head (expected_at_start family) (λ h. sym (starts-with-head family h))
    where
      go : (n : ℕ) (e : Expected) → ((n ≡ 0 → ⊥) → e ≡ Head n) → take n (plain_from family e v) ≡ take n v
      go zero e starts = refl
      go (suc n) e starts = rw (starts (λ z. omega arith)) (octets-kept n v)

module _ (family : Family) (v : List ℕ) (o : Octets v) where
  same-walk : components_from family (plain family v) (at_start family) ≡ plain_walk family (components_from family v (at_start family))
  unfolding WalkSame plain
  same-walk = walk_same family (expected_at_start family) v o family.head 0 (head-expected family v)

  -- the components of the plain spelling are the components in the plain spelling
  pub components-plain : components family (plain family v) ≡ map (plain_component family) (components family v)
  unfolding components
  components-plain = ap (λ (w : Walk Component (Result Unit Refusal)). w.items) same-walk

  -- a value is accepted exactly when its plain spelling is, and refused with the same number and place
  pub check-plain : check_value family (plain family v) ≡ check_value family v
  unfolding check_value
  check-plain = rw (length-plain family v, same-walk)

  -- the plain spelling of an accepted value is its head and its components in the plain spelling, one after the other
  pub plain-whole : check_value family v ≡ Ok tt → head_of family v ++ spelled (map (plain_component family) (components family v)) ≡ plain family v
  plain-whole ok = rw (← head-kept family v, ← components-plain) (spelled-whole family (plain family v) (check-plain ∙ ok))
