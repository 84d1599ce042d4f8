-- **A value is refused exactly as 01's rows 1 to 7 say**, with the place that each carries, in every family. Assumes nothing.
use mathlib.Core.Path.{◌≡◌, refl, sym, subst}
use mathlib.Core.Bool.{true, false, ◌||◌, ◌&&◌}
use mathlib.Core.List.{List}
use mathlib.Core.Logic.{◌↔◌, ◌⊎◌, inl, inr, ⊎_elim}
use Prim.Native.Nat.{ℕ, ◌+◌, ◌-◌, ◌/◌, ◌<◌, ◌≤◌}
use native.Mathlib.Omega.{arith}
use lib.Dec.{leb, ltb, eqb}
use lib.ListN.{length, get_or}
use borrow.Author.Tests.{leb-true, leb-false, le-leb, lt-leb, ltb-true, ltb-false, lt-ltb, eqb-true, eqb-false, eq-eqb, ne_eqb}
use Rattle.octets.proofs.Cases.{by-test, both}
use Rattle.rule.specs.declared.Family.{Family}
use Rattle.rule.specs.Refusal.{number_of, place_of, RefusedWith}
use Rattle.rule.specs.Operator.{ends_list, size_of}
use Rattle.rule.specs.Component.{pair_at, pairs_from, lead_of, offset_at, prefix_end, body_end, found, component_at}
use Rattle.rule.specs.Value.{most_value, check_value}
use Rattle.rule.specs.Reading.{rule_end, value_in, check_rule}
use Rattle.rule.specs.Refusals.{Begins, first, next, type_at, unknown_type, shape_at, Opens, OutOfRange, above-width, within-offset, PrefixCut, no_length, no-offset, short-pattern, Operator, PairCut, no-operator, short-value, ValueRefused, one, two, three, four, five, six-prefix, six-list, six-head, seven, RuleRefused}
use Rattle.rule.proofs.ComponentLaws.{lead-with, lead-without, lead-some, offset-without, pair-missing, pair_size, pair-short, pairs-ind, list_on, list-refused, prefix-missing, prefix-long, prefix-no-offset, prefix-below, prefix-short, body-prefix, body-list, component-unknown, component-order, component-refused}
use Rattle.rule.proofs.ValueLaws.{accepts, components-ind, check-long, check-empty, check-cut, check-walk, check-on, check-refused, check-cases, was-refused}
use Rattle.std.proofs.Common.{Result, Ok, Err, Option, Some, None}
use Rattle.rule.specs.declared.Refusal.{Refusal}
use Rattle.rule.specs.declared.Refusal.TheVariants.{UnknownType, TypeOrder, PrefixLength, CutShort, ValueSize}
use Rattle.rule.specs.declared.NextPair.{NextPair}
use Rattle.rule.specs.declared.NextPair.TheVariants.{More, Last}
use Rattle.rule.specs.declared.Located.{Located}

-- ---- what each refusal says ----

module _ (family : Family) where
  -- octets that end behind the length octet and before the pattern lack the offset octet
  offset-missing : (octets at : ℕ) → at < octets → octets < at + lead_of family → (octets ≡ at + 1) × (family.offsets ≡ true)
  offset-missing octets at inside early =
      by-test family.offsets (λ t. let lead = lead-with family t in (omega arith, t))
      (λ t. let lead = lead-without family t in absurd (omega arith))

  -- where an offset is above 0 the family has an offset octet
  offset-given : (v : List ℕ) (place : ℕ) → 0 < offset_at family v place → lead_of family ≡ 2
  offset-given v place some =
      by-test family.offsets (lead-with family) (λ t. let none = offset-without family v place t in absurd (omega arith))

module _ (family : Family) (v : List ℕ) where
  -- what a refusal must say, of a pair, a body, a component and a value
  abbrev OfPair : Result NextPair Refusal → Type 0
  OfPair (Err refusal) = ValueRefused family v (number_of refusal) (place_of refusal)
  OfPair (Ok (More behind)) = Unit {0}
  OfPair (Ok (Last behind)) = Unit {0}

  abbrev OfBody : Result ℕ Refusal → Type 0
  OfBody (Err refusal) = ValueRefused family v (number_of refusal) (place_of refusal)
  OfBody (Ok behind) = Unit {0}

  abbrev OfComponent : Result (Option Located) Refusal → Type 0
  OfComponent (Err refusal) = ValueRefused family v (number_of refusal) (place_of refusal)
  OfComponent (Ok None) = Unit {0}
  OfComponent (Ok (Some found)) = Unit {0}

  abbrev OfValue : Result Unit Refusal → Type 0
  OfValue (Err refusal) = ValueRefused family v (number_of refusal) (place_of refusal)
  OfValue (Ok _) = Unit {0}

  module _ (at : ℕ) (opens : Opens family v at) where
    pair_row : (shape_at family v at).prefix ≡ false → (place : ℕ) → Operator family v at place → OfPair (pair_at (shape_at family v at).largest v place)
    unfolding pair_at
    pair_row list place o =
        let operator = get_or v place 0 in
        let largest = (shape_at family v at).largest in
        by-test (leb (length v) place) (λ t. rw t (six-list opens list o (no-operator (leb-true (length v) place t))))
        (λ t.
        let inside = leb-false (length v) place t in
        by-test (ltb largest (size_of operator))
        (λ u. rw (t, u) (seven opens list o inside (ltb-true largest (size_of operator) u)))
        (λ u. by-test (ltb (length v - (place + 1)) (size_of operator))
        (λ w.
        rw (t, u, w)
        (six-list opens list o (short-value inside (ltb-false largest (size_of operator) u) (ltb-true (length v - (place + 1)) (size_of operator) w))))
        (λ w. by-test (ends_list operator) (λ x. rw (t, u, w, x) tt) (λ x. rw (t, u, w, x) tt))))

    list-row : (shape_at family v at).prefix ≡ false → OfBody (pairs_from (shape_at family v at).largest v (at + 1)).ending
    list-row list =
        pairs-ind (shape_at family v at).largest v (λ place w. Operator family v at place → OfBody w.ending)
        (λ place refusal e o. subst OfPair e (pair_row list place o))
        (λ place behind e o. tt)
        (λ place behind w e rest o. rest (next o e))
        (at + 1) first

    prefix-row : (shape_at family v at).prefix ≡ true → OfBody (prefix_end family v (at + 1))
    unfolding prefix_end
    prefix-row prefix =
        let place = at + 1 in
        let bits = get_or v place 0 in
        let offset = offset_at family v (place + 1) in
        let start = place + lead_of family in
        let octets = (bits - offset + 7) / 8 in
        by-test (leb (length v) place) (λ t. rw t (six-prefix opens prefix (no_length (leb-true (length v) place t))))
        (λ t.
        let inside = leb-false (length v) place t in
        by-test (ltb family.width bits) (λ u. rw (t, u) (five opens prefix (above-width inside (ltb-true family.width bits u))))
        (λ u.
        let narrow = ltb-false family.width bits u in
        by-test (ltb (length v) start)
        (λ w.
        let missing = offset-missing family (length v) place inside (ltb-true (length v) start w) in
        rw (t, u, w) (six-prefix opens prefix (no-offset missing.0 narrow missing.1)))
        (λ w.
        let there = ltb-false (length v) start w in
        by-test (ltb 0 offset && leb bits offset)
        (λ x.
        let below = both (ltb 0 offset) (leb bits offset) x in
        let some = ltb-true 0 offset below.0 in
        let lead = offset-given family v (place + 1) some in
        rw (t, u, w, x) (five opens prefix (within-offset (omega arith) some (leb-true bits offset below.1))))
        (λ x. by-test (ltb (length v - start) octets)
        (λ y. rw (t, u, w, x, y) (six-prefix opens prefix (short-pattern there narrow (ltb-true (length v - start) octets y))))
        (λ y. rw (t, u, w, x, y) tt)))))

    body-row : OfBody (body_end family (type_at v at) v (at + 1))
    unfolding body_end
    body-row = by-test (shape_at family v at).prefix (λ t. rw t (prefix-row t)) (λ t. rw t (list-row t))

  component-row : (at previous : ℕ) → Begins family v at previous → OfComponent (component_at family v at previous)
  unfolding component_at
  component-row at previous b =
      by-test (leb (length v) at) (λ t. rw t tt)
      (λ t.
      let inside = leb-false (length v) at t in
      by-test (unknown_type family v at) (λ u. rw (t, u) (three b inside u))
      (λ u. by-test (leb (type_at v at) previous) (λ w. rw (t, u, w) (four b inside u (leb-true (type_at v at) previous w)))
      (λ w.
      let opens : Opens family v at = record { previous = previous; begins = b; inside = inside; known = u; rises = leb-false (type_at v at) previous w } in
      rw (t, u, w) (go (body_end family (type_at v at) v (at + 1)) (body-row at opens)))))
    where
      go : (e : (Result ℕ Refusal)) → OfBody e → OfComponent (found (type_at v at) e)
      go (Ok behind) h = tt
      go (Err refusal) h = h

  value_row : OfValue (check_value family v)
  unfolding check_value
  value_row =
      by-test (ltb most_value (length v)) (λ t. rw t (one (ltb-true most_value (length v) t)))
      (λ t.
      let small = ltb-false most_value (length v) t in
      by-test (eqb (length v) 0) (λ u. rw (t, u) (two small (inl (eqb-true (length v) 0 u))))
      (λ u.
      let some = eqb-false (length v) 0 u in
      by-test (eqb (length v) family.head) (λ w. rw (t, u, w) (two small (inr (eqb-true (length v) family.head w))))
      (λ w.
      let other = eqb-false (length v) family.head w in
      by-test (ltb (length v) family.head) (λ x. rw (t, u, w, x) (six-head small (omega arith) (ltb-true (length v) family.head x)))
      (λ x.
      let least = ltb-false (length v) family.head x in
      rw (t, u, w, x) (walked (first small (omega arith)))))))
    where
      walked : Begins family v family.head 0 → OfValue (accepts family v family.head 0)
      walked =
          components-ind family v (λ at previous w. Begins family v at previous → OfValue w.ending)
          (λ at previous e b. tt)
          (λ at previous refusal e b. subst OfComponent e (component-row at previous b))
          (λ at previous kind behind w e rest b. rest (next b e)) family.head 0

-- ---- what each row refuses ----

-- a pattern that asks for an octet begins below its length
asks-octet : (left bits offset : ℕ) → left < (bits - offset + 7) / 8 → (ltb 0 offset && leb bits offset) ≡ false
asks-octet left bits offset asked =
    by-test (ltb 0 offset) (λ t. rw (t, lt-leb bits offset (omega arith))) (λ t. rw t)

module _ (family : Family) (v : List ℕ) where
  -- what reading has come to where a component begins
  begun : (at previous : ℕ) → Begins family v at previous → check_value family v ≡ accepts family v at previous
  begun at previous (first small some) =
      check-walk family v small (rw (ne_eqb (length v) 0 (λ e. omega arith), ne_eqb (length v) family.head (λ e. omega arith))) (omega arith)
  begun behind kind (next {at} {previous} b e) = check-on family v at previous (component_at family v at previous) refl (begun at previous b) kind behind e

  refused-there : (at previous : ℕ) (refusal : Refusal) → Begins family v at previous → Err refusal ≡ component_at family v at previous
      → check_value family v ≡ Err refusal
  refused-there at previous refusal b e =
      sym (check-refused family v at previous (component_at family v at previous) refl (begun at previous b) refusal (sym e))

  -- a body that is refused
  refused-in : (at : ℕ) (refusal : Refusal) → Opens family v at → Err refusal ≡ body_end family (type_at v at) v (at + 1)
      → check_value family v ≡ Err refusal
  refused-in at refusal o e =
      refused-there at o.previous refusal o.begins
      (component-refused family v at o.previous o.inside o.known o.rises (Err refusal) e refusal refl)

  refused-prefix : (at : ℕ) (refusal : Refusal) → Opens family v at → (shape_at family v at).prefix ≡ true → Err refusal ≡ prefix_end family v (at + 1)
      → check_value family v ≡ Err refusal
  refused-prefix at refusal o t e =
      refused-in at refusal o (body-prefix family (type_at v at) v (at + 1) (Err refusal) (shape_at family v at) refl t e)

  -- a length out of its range, and a prefix cut short
  prefix-out-of-range : (at : ℕ) → OutOfRange family v at → Err (PrefixLength at) ≡ prefix_end family v at
  prefix-out-of-range at (above-width inside long) = prefix-long family v at inside long
  prefix-out-of-range at (within-offset there some below) =
      let bits = get_or v at 0 in
      let offset = offset_at family v (at + 1) in
      let lead = offset-given family v (at + 1) some in
      by-test (ltb family.width bits) (λ t. prefix-long family v at (omega arith) (ltb-true family.width bits t))
      (λ t.
      prefix-below family v at (lead_of family) refl (omega arith) (ltb-false family.width bits t) offset refl (omega arith)
      (rw (lt-ltb 0 offset some, le-leb bits offset below)))

  prefix-cut : (at : ℕ) → PrefixCut family v at → Err (CutShort (length v)) ≡ prefix_end family v at
  prefix-cut at (no_length missing) = prefix-missing family v at missing
  prefix-cut at (no-offset ends narrow offsets) =
      let lead = lead-with family offsets in
      prefix-no-offset family v at (lead_of family) refl (omega arith) narrow (omega arith)
  prefix-cut at (short-pattern there narrow short) =
      let lead = lead-some family in
      let bits = get_or v at 0 in
      let offset = offset_at family v (at + 1) in
      prefix-short family v at (lead_of family) refl (omega arith) narrow offset refl there
      (asks-octet (length v - (at + lead_of family)) bits offset short) short

  -- how far a list has come where an operator is to stand
  reached : (at place : ℕ) → Operator family v at place
      → (pairs_from (shape_at family v at).largest v (at + 1)).ending ≡ (pairs_from (shape_at family v at).largest v place).ending
  reached at place first = refl
  reached at behind (next {place} o e) =
      list_on (shape_at family v at).largest v (at + 1) place (pair_at (shape_at family v at).largest v place) refl (reached at place o) behind e

  refused-pair : (at place : ℕ) (refusal : Refusal) → Opens family v at → (shape_at family v at).prefix ≡ false → Operator family v at place
      → Err refusal ≡ pair_at (shape_at family v at).largest v place → check_value family v ≡ Err refusal
  refused-pair at place refusal o t p e =
      refused-in at refusal o
      (body-list family (type_at v at) v (at + 1) (Err refusal) (shape_at family v at) refl t
      (list-refused (shape_at family v at).largest v (at + 1) place (pair_at (shape_at family v at).largest v place) refl (reached at place p) refusal (sym e)))

  pair-cut : (largest at : ℕ) → PairCut largest v at → Err (CutShort (length v)) ≡ pair_at largest v at
  pair-cut largest at (no-operator missing) = pair-missing largest v at missing
  pair-cut largest at (short-value inside allowed short) = pair-short largest v at (size_of (get_or v at 0)) refl inside allowed short

  -- a refusal has its number and its place
  refused-so : {refusal : Refusal} → check_value family v ≡ Err refusal → RefusedWith (check_value family v) (number_of refusal) (place_of refusal)
  refused-so e = rw e (refl, refl)

  row-refuses : (number place : ℕ) → ValueRefused family v number place → RefusedWith (check_value family v) number place
  row-refuses number there (one long) = refused-so (sym (check-long family v long))
  row-refuses number there (two small none) = refused-so (sym (check-empty family v small (go none)))
    where
      go : (length v ≡ 0) ⊎ (length v ≡ family.head) → (eqb (length v) 0 || eqb (length v) family.head) ≡ true
      go (inl e) = rw (eq-eqb (length v) 0 e)
      go (inr e) = by-test (eqb (length v) 0) (λ t. rw t) (λ t. rw (t, eq-eqb (length v) family.head e))
  row-refuses number there (three {place} {previous} b inside unknown) =
      refused-so (refused-there place previous (UnknownType place) b (component-unknown family v place previous inside unknown))
  row-refuses number there (four {place} {previous} b inside known order) =
      refused-so (refused-there place previous (TypeOrder place) b (component-order family v place previous inside known order))
  row-refuses number there (five {at} o t range) =
      refused-so (refused-prefix at (PrefixLength (at + 1)) o t (prefix-out-of-range (at + 1) range))
  row-refuses number there (six-prefix {at} o t cut) =
      refused-so (refused-prefix at (CutShort (length v)) o t (prefix-cut (at + 1) cut))
  row-refuses number there (six-list {at} {place} o t p cut) =
      refused-so (refused-pair at place (CutShort (length v)) o t p (pair-cut (shape_at family v at).largest place cut))
  row-refuses number there (six-head small some short) =
      refused-so
      (sym (check-cut family v small (rw (ne_eqb (length v) 0 (λ e. omega arith), ne_eqb (length v) family.head (λ e. omega arith))) short))
  row-refuses number there (seven {at} {place} o t p inside large) =
      refused-so
      (refused-pair at place (ValueSize place) o t p (pair_size (shape_at family v at).largest v place (size_of (get_or v place 0)) refl inside large))

  -- **1 to 7 of a value**, each exactly where its row says, and at that place.
  pub value-numbers : (number place : ℕ) → RefusedWith (check_value family v) number place ↔ ValueRefused family v number place
  value-numbers number place = (named (check_value family v) (value_row family v), row-refuses number place)
    where
      named : (c : Result Unit Refusal) → OfValue family v c → RefusedWith c number place → ValueRefused family v number place
      named (Ok _) says refused = absurd refused
      named (Err refusal) says refused = rw (← refused.0, ← refused.1) says

-- **1 to 7 of a rule**: its octets run past, or its value is refused.
pub rule-numbers : (family : Family) (rule : List ℕ) (number place : ℕ)
    → RefusedWith (check_rule family rule) number place ↔ RuleRefused family rule number place
rule-numbers family rule number place =
    by-test (ltb (length rule) (rule_end rule))
    (λ t.
    let past = ltb-true (length rule) (rule_end rule) t in
    rw t ((λ e. inl (past, (sym e.0, sym e.1))), ⊎_elim (λ b. (sym b.1.0, sym b.1.1)) (λ b. let fits = b.0 in absurd (omega arith))))
    (λ t.
    let fits = ltb-false (length rule) (rule_end rule) t in
    let value = value-numbers family (value_in rule) number place in
    rw t ((λ e. inr (fits, value.0 e)), ⊎_elim (λ b. let past = b.0 in absurd (omega arith)) (λ b. value.1 b.1)))

-- ---- the numbers themselves ----

-- a refusal has a number from 1 to 7
abbrev pub Numbered : Result Unit Refusal → Type 0
Numbered (Ok _) = Unit {0}
Numbered (Err refusal) = (1 ≤ number_of refusal) × (number_of refusal ≤ 7)

pub value-numbered : (family : Family) (v : List ℕ) → Numbered (check_value family v)
value-numbered family v =
    check-cases family v Numbered (omega arith, omega arith) (omega arith, omega arith) (λ h. (omega arith, omega arith))
    (λ h k.
    components-ind family v (λ at previous w. Numbered w.ending) (λ at previous e. tt)
    (λ at previous refusal e. let m = was-refused family v at previous refusal e in (omega arith, m.1.0))
    (λ at previous kind behind w e rest. rest) family.head 0)

pub rule-numbered : (family : Family) (rule : List ℕ) → Numbered (check_rule family rule)
rule-numbered family rule =
    by-test (ltb (length rule) (rule_end rule)) (λ t. rw t (omega arith, omega arith)) (λ t. rw t (value-numbered family (value_in rule)))
