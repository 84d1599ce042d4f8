-- The cursor's answers: one law for each way in which the code comes to one, and where an answer lies in the value. Assumes nothing.
use mathlib.Core.Path.{◌≡◌, refl, sym, ap, subst, ◌∙◌}
use mathlib.Core.Bool.{Bool, true, false, ◌||◌, ◌&&◌}
use mathlib.Core.List.{List, [], ◌∷◌}
use Prim.Native.Nat.{ℕ, ◌+◌, ◌-◌, ◌/◌, ◌<◌, ◌≤◌}
use native.Mathlib.Omega.{arith}
use lib.Dec.{leb, ltb, eqb}
use lib.ListN.{length, get_or}
use borrow.Author.Tests.{le-leb, lt-leb, lt-ltb, le-ltb, leb-true, leb-false, ltb-false, eqb-false}
use Rattle.octets.specs.Walk.{Step, more, last, stop, Walk, before, through}
use Rattle.octets.proofs.Cases.{by-test, apart}
use Rattle.octets.proofs.WalkLaws.{walk-stop, walk-last, walk_more, walk-ind}
use Rattle.rule.specs.declared.Family.{Family}
use Rattle.rule.specs.declared.Shape.{Shape}
use Rattle.rule.specs.Refusal.{number_of, place_of}
use Rattle.rule.specs.Shape.{shape_of}
use Rattle.rule.specs.Operator.{ends_list, size_of}
use Rattle.rule.specs.Component.{pair_at, Pair, pair_of, pair_step, pairs_from, lead_of, offset_at, prefix_end, body_end, found, component_at}
use Rattle.std.proofs.Common.{Result, Ok, Err, Option, Some, None}
use Rattle.rule.specs.declared.Refusal.{Refusal}
use Rattle.rule.specs.declared.Refusal.TheVariants.{UnknownType, TypeOrder, PrefixLength, CutShort, ValueSize}
use Rattle.rule.specs.declared.NextPair.{NextPair}
use Rattle.rule.specs.declared.NextPair.TheVariants.{More, Last}
use Rattle.rule.specs.declared.Located.{Located}
use Rattle.rule.specs.Component.{located}

-- how `pair_at` comes to each of its answers
module _ (largest : ℕ) (v : List ℕ) (at : ℕ) where
  pub pair-missing : length v ≤ at → Err (CutShort (length v)) ≡ pair_at largest v at
  unfolding pair_at
  pair-missing h = rw (le-leb _ _ h)

  module _ (size : ℕ) (is : size ≡ size_of (get_or v at 0)) (within : at < length v) where
    pub pair_size : largest < size → Err (ValueSize at) ≡ pair_at largest v at
    unfolding pair_at
    pair_size h = rw (lt-leb _ _ within, ← is, lt-ltb _ _ h)

    module _ (allowed : size ≤ largest) where
      pub pair-short : length v - (at + 1) < size → Err (CutShort (length v)) ≡ pair_at largest v at
      unfolding pair_at
      pair-short h = rw (lt-leb _ _ within, ← is, le-ltb _ _ allowed, lt-ltb _ _ h)

      module _ (ends : Bool) (tells : ends ≡ ends_list (get_or v at 0)) (fits : size ≤ length v - (at + 1)) where
        pub pair-last : ends ≡ true → Ok (Last (at + 1 + size)) ≡ pair_at largest v at
        unfolding pair_at
        pair-last h = rw (lt-leb _ _ within, ← is, le-ltb _ _ allowed, le-ltb _ _ fits, ← tells, h)

        pub pair-more : ends ≡ false → Ok (More (at + 1 + size)) ≡ pair_at largest v at
        unfolding pair_at
        pair-more h = rw (lt-leb _ _ within, ← is, le-ltb _ _ allowed, le-ltb _ _ fits, ← tells, h)

-- what holds of each answer that a list's cursor can give holds of the one that it gives
pub pair-cases : (largest : ℕ) (v : List ℕ) (at : ℕ) (P : Result NextPair Refusal → Type 0) → let operator = get_or v at 0 in let size = size_of operator in
    P (Err (CutShort (length v))) → (at < length v → P (Err (ValueSize at)))
    → (at + 1 + size ≤ length v → size ≤ largest → ends_list operator ≡ true → P (Ok (Last (at + 1 + size))))
    → (at + 1 + size ≤ length v → size ≤ largest → ends_list operator ≡ false → P (Ok (More (at + 1 + size))))
    → P (pair_at largest v at)
unfolding pair_at
pair-cases largest v at P cut sized ends goes =
    let operator = get_or v at 0 in
    by-test (leb (length v) at) (λ t. rw t cut)
    (λ t.
    let inside = leb-false (length v) at t in
    by-test (ltb (largest) (size_of operator)) (λ u. rw (t, u) (sized inside))
    (λ u.
    let allowed = ltb-false (largest) (size_of operator) u in
    by-test (ltb (length v - (at + 1)) (size_of operator)) (λ w. rw (t, u, w) cut)
    (λ w.
    let fits = ltb-false (length v - (at + 1)) (size_of operator) w in
    by-test (ends_list operator) (λ x. rw (t, u, w, x) (ends (omega arith) allowed x)) (λ x. rw (t, u, w, x) (goes (omega arith) allowed x)))))

-- where a pattern starts, and the offset, in a family with offsets and in one without
module _ (family : Family) where
  pub lead-with : family.offsets ≡ true → lead_of family ≡ 2
  unfolding lead_of
  lead-with t = rw t

  pub lead-without : family.offsets ≡ false → lead_of family ≡ 1
  unfolding lead_of
  lead-without t = rw t

  pub lead-some : 1 ≤ lead_of family
  lead-some =
      by-test family.offsets (λ t. let e = lead-with t in omega arith) (λ t. let e = lead-without t in omega arith)

  pub offset-with : (v : List ℕ) (place : ℕ) → family.offsets ≡ true → offset_at family v place ≡ get_or v place 0
  unfolding offset_at
  offset-with v place t = rw t

  pub offset-without : (v : List ℕ) (place : ℕ) → family.offsets ≡ false → offset_at family v place ≡ 0
  unfolding offset_at
  offset-without v place t = rw t

-- a length that is not refused for its offset is not below it
pub not-below : (bits offset : ℕ) → (ltb 0 offset && leb bits offset) ≡ false → offset ≤ bits
not-below bits offset e =
    by-test (leb bits offset)
    (λ t.
    by-test (ltb 0 offset) (λ u. let z : true ≡ false = rw (u, t) at e in apart (cc)) (λ u. let n = ltb-false 0 offset u in omega arith))
    (λ t. let n = leb-false bits offset t in omega arith)

-- and likewise of where a prefix ends
pub prefix_cases : (family : Family) (v : List ℕ) (at : ℕ) (P : Result ℕ Refusal → Type 0) → let bits = get_or v at 0 in let offset = offset_at family v (at + 1) in
    let octets = (bits - offset + 7) / 8 in P (Err (CutShort (length v))) → (at < length v → P (Err (PrefixLength at)))
    → (at + lead_of family + octets ≤ length v → bits ≤ family.width → offset ≤ bits → P (Ok (at + lead_of family + octets))) → P (prefix_end family v at)
unfolding prefix_end
prefix_cases family v at P cut long ends =
    let bits = get_or v at 0 in
    let offset = offset_at family v (at + 1) in
    let start = at + lead_of family in
    let octets = (bits - offset + 7) / 8 in
    by-test (leb (length v) at) (λ t. rw t cut)
    (λ t.
    let inside = leb-false (length v) at t in
    by-test (ltb family.width bits) (λ u. rw (t, u) (long inside))
    (λ u. by-test (ltb (length v) start) (λ w. rw (t, u, w) cut)
    (λ w. by-test (ltb 0 offset && leb bits offset) (λ x. rw (t, u, w, x) (long inside))
    (λ x. by-test (ltb (length v - start) octets) (λ y. rw (t, u, w, x, y) cut)
    (λ y.
    let there = ltb-false (length v) start w in
    let fits = ltb-false (length v - start) octets y in
    rw (t, u, w, x, y) (ends (omega arith) (ltb-false family.width bits u) (not-below bits offset x)))))))

-- a prefix that ends somewhere begins below its length, or has neither length nor offset
pub prefix-begins : (family : Family) (v : List ℕ) (at next : ℕ) → prefix_end family v at ≡ Ok next → get_or v at 0 ≤ offset_at family v (at + 1) → offset_at family v (at + 1) ≡ 0
unfolding prefix_end
prefix-begins family v at next e h =
    let bits = get_or v at 0 in
    let offset = offset_at family v (at + 1) in
    by-test (ltb 0 offset)
    (λ x.
    by-test (leb (length v) at) (λ t. let z : Err (CutShort (length v)) ≡ Ok next = rw t at e in apart (cc))
    (λ t. by-test (ltb family.width bits) (λ u. let z : Err (PrefixLength at) ≡ Ok next = rw (t, u) at e in apart (cc))
    (λ u. by-test (ltb (length v) (at + lead_of family)) (λ w. let z : Err (CutShort (length v)) ≡ Ok next = rw (t, u, w) at e in apart (cc))
    (λ w. let z : Err (PrefixLength at) ≡ Ok next = rw (t, u, w, x, le-leb bits offset h) at e in apart (cc)))))
    (λ x. let n = ltb-false 0 offset x in omega arith)

-- and of the cursor
pub component-cases : (family : Family) (v : List ℕ) (at previous : ℕ) (P : Result (Option Located) Refusal → Type 0) → let kind = get_or v at 0 in
    (length v ≤ at → P (Ok None)) → (at < length v → P (Err (UnknownType at))) → (at < length v → P (Err (TypeOrder at)))
    → (at < length v → (kind ≡ 0 → ⊥) → kind ≤ family.highest → previous < kind → P (found kind (body_end family kind v (at + 1)))) → P (component_at family v at previous)
unfolding component_at
component-cases family v at previous P none unknown unordered body =
    let kind = get_or v at 0 in
    by-test (leb (length v) at) (λ t. rw t (none (leb-true (length v) at t)))
    (λ t.
    let inside = leb-false (length v) at t in
    by-test (eqb kind 0) (λ u. rw (t, u) (unknown inside))
    (λ u. by-test (ltb family.highest kind) (λ w. rw (t, u, w) (unknown inside))
    (λ w. by-test (leb kind previous) (λ x. rw (t, u, w, x) (unordered inside))
    (λ x. rw (t, u, w, x) (body inside (eqb-false kind 0 u) (ltb-false family.highest kind w) (leb-false kind previous x))))))

-- a place behind another and still in the value
abbrev pub Within : List ℕ → ℕ → ℕ → Type 0
Within v at next = (at < next) × (next ≤ length v)

-- a refusal met in a value: one of the numbers 3 to 7, at an octet of the value or at its end
abbrev pub Met : List ℕ → Refusal → Type 0
Met v refusal = (3 ≤ number_of refusal) × ((number_of refusal ≤ 7) × (place_of refusal ≤ length v))

-- cut short is 6 at the value's end
short : (v : List ℕ) → Met v (CutShort (length v))
short v = (omega arith, (omega arith, omega arith))

abbrev pub PairWithin : List ℕ → ℕ → Result NextPair Refusal → Type 0
PairWithin v at (Ok (More next)) = Within v at next
PairWithin v at (Ok (Last next)) = Within v at next
PairWithin v at (Err refusal) = Met v refusal

module _ (largest : ℕ) (v : List ℕ) where
  pub pair-within : (at : ℕ) → PairWithin v at (pair_at largest v at)
  pair-within at =
      pair-cases largest v at (PairWithin v at) (short v) (λ h. (omega arith, (omega arith, omega arith)))
      (λ h u e. (omega arith, omega arith)) (λ h u e. (omega arith, omega arith))

  pub more_within : (at next : ℕ) → pair_at largest v at ≡ Ok (More next) → Within v at next
  more_within at next e = subst (PairWithin v at) e (pair-within at)

  pub last_within : (at next : ℕ) → pair_at largest v at ≡ Ok (Last next) → Within v at next
  last_within at next e = subst (PairWithin v at) e (pair-within at)

  pub refused-within : (at : ℕ) (refusal : Refusal) → pair_at largest v at ≡ Err refusal → Met v refusal
  refused-within at refusal e = subst (PairWithin v at) e (pair-within at)

  -- a step on along a list goes towards the value's end
  falls : (i j : ℕ) (a : Pair) → pair_step v i (pair_at largest v i) ≡ more a j → length v - j < length v - i
  falls i j a = go (pair_at largest v i) refl
    where
      go : (x : (Result NextPair Refusal)) → pair_at largest v i ≡ x → pair_step v i x ≡ more a j → length v - j < length v - i
      go (Ok (More next)) e q = let w = more_within i next e in let s : next ≡ j = cc in omega arith
      go (Ok (Last next)) e q = apart (cc)
      go (Err refusal) e q = apart (cc)

  -- the pairs from a place on: one more and the rest, the last, or none
  pub pairs-more : (at next : ℕ) → pair_at largest v at ≡ Ok (More next) → pairs_from largest v at ≡ before (pair_of v at next) (pairs_from largest v next)
  unfolding pairs_from
  pairs-more at next e =
      walk_more (Err (CutShort (length v))) (λ i. pair_step v i (pair_at largest v i)) (λ i. length v - i) falls (length v + 1) at next (pair_of v at next) (omega arith)
      (ap (pair_step v at) e)

  pub pairs-last : (at next : ℕ) → pair_at largest v at ≡ Ok (Last next) → pairs_from largest v at ≡ record { items = pair_of v at next ∷ []; ending = Ok next }
  unfolding pairs_from
  pairs-last at next e =
      walk-last (Err (CutShort (length v))) (λ i. pair_step v i (pair_at largest v i)) (length v + 1) at (pair_of v at next) (Ok next) (omega arith) (ap (pair_step v at) e)

  pub pairs-refused : (at : ℕ) (refusal : Refusal) → pair_at largest v at ≡ Err refusal
      → pairs_from largest v at ≡ record { items = []; ending = Err refusal }
  unfolding pairs_from
  pairs-refused at refusal e =
      walk-stop (Err (CutShort (length v))) (λ i. pair_step v i (pair_at largest v i)) (length v + 1) at (Err refusal) (omega arith) (ap (pair_step v at) e)

  -- what holds of the last pair and of a refusal, and before a pair where it holds behind it, holds of every list of pairs
  pub pairs-ind : (P : ℕ → Walk Pair (Result ℕ Refusal) → Type 0)
      → ((at : ℕ) (refusal : Refusal) → pair_at largest v at ≡ Err refusal → P at (record { items = []; ending = Err refusal }))
      → ((at next : ℕ) → pair_at largest v at ≡ Ok (Last next) → P at (record { items = pair_of v at next ∷ []; ending = Ok next }))
      → ((at next : ℕ) (w : Walk Pair (Result ℕ Refusal)) → pair_at largest v at ≡ Ok (More next) → P next w → P at (before (pair_of v at next) w))
      → (at : ℕ) → P at (pairs_from largest v at)
  unfolding pairs_from
  pairs-ind P refused ends goes at =
      walk-ind (Err (CutShort (length v))) (λ i. pair_step v i (pair_at largest v i)) (λ i. length v - i) falls P
      (λ i e q. stops i e (pair_at largest v i) refl q)
      (λ i a e q. lasts i a e (pair_at largest v i) refl q)
      (λ i j a w q h. mores i j a w (pair_at largest v i) refl q h)
      (length v + 1) at (omega arith)
    where
      stops : (i : ℕ) (e : (Result ℕ Refusal)) (x : (Result NextPair Refusal)) → pair_at largest v i ≡ x → pair_step v i x ≡ stop e → P i (record { items = []; ending = e })
      stops i e (Ok (More next)) f q = apart (cc)
      stops i e (Ok (Last next)) f q = apart (cc)
      stops i e (Err refusal) f q = let s : Err refusal ≡ e = cc in rw (← s) (refused i refusal f)

      lasts : (i : ℕ) (a : Pair) (e : (Result ℕ Refusal)) (x : (Result NextPair Refusal)) → pair_at largest v i ≡ x → pair_step v i x ≡ last a e → P i (record { items = a ∷ []; ending = e })
      lasts i a e (Ok (More next)) f q = apart (cc)
      lasts i a e (Ok (Last next)) f q =
          let s : Ok next ≡ e = cc in
          let u : pair_of v i next ≡ a = cc in
          rw (← s, ← u) (ends i next f)
      lasts i a e (Err refusal) f q = apart (cc)

      mores : (i j : ℕ) (a : Pair) (w : Walk Pair (Result ℕ Refusal)) (x : (Result NextPair Refusal)) → pair_at largest v i ≡ x → pair_step v i x ≡ more a j → P j w → P i (before a w)
      mores i j a w (Ok (More next)) f q h =
          let s : next ≡ j = cc in
          let u : pair_of v i next ≡ a = cc in
          rw (← u) (goes i next w f (rw s h))
      mores i j a w (Ok (Last next)) f q h = apart (cc)
      mores i j a w (Err refusal) f q h = apart (cc)

  -- the refusal for too few steps is no matter: any other gives the same walk
  pub pairs-any : (out : (Result ℕ Refusal)) (at : ℕ) → through v out (λ i. pair_step v i (pair_at largest v i)) at ≡ pairs_from largest v at
  pairs-any out =
      pairs-ind (λ at w. through v out step at ≡ w)
      (λ at refusal e. walk-stop out step (length v + 1) at (Err refusal) (omega arith) (ap (pair_step v at) e))
      (λ at next e. walk-last out step (length v + 1) at (pair_of v at next) (Ok next) (omega arith) (ap (pair_step v at) e))
      (λ at next w e h.
      walk_more out step (λ i. length v - i) falls (length v + 1) at next (pair_of v at next) (omega arith) (ap (pair_step v at) e) ∙ ap (before (pair_of v at next)) h)
    where
      step : ℕ → Step ℕ Pair (Result ℕ Refusal)
      step i = pair_step v i (pair_at largest v i)

-- how `list_end` goes on and comes to each of its answers
module _ (largest : ℕ) (v : List ℕ) (start at : ℕ) (pair : (Result NextPair Refusal)) (is : pair ≡ pair_at largest v at)
    (so_far : (pairs_from largest v start).ending ≡ (pairs_from largest v at).ending) where
  pub list_on : (next : ℕ) → pair ≡ Ok (More next) → (pairs_from largest v start).ending ≡ (pairs_from largest v next).ending
  list_on next e = so_far ∙ rw (pairs-more largest v at next (sym is ∙ e))

  pub list-last : (next : ℕ) → pair ≡ Ok (Last next) → Ok next ≡ (pairs_from largest v start).ending
  list-last next e = sym (so_far ∙ rw (pairs-last largest v at next (sym is ∙ e)))

  pub list-refused : (refusal : Refusal) → pair ≡ Err refusal → Err refusal ≡ (pairs_from largest v start).ending
  list-refused refusal e = sym (so_far ∙ rw (pairs-refused largest v at refusal (sym is ∙ e)))

-- an end of a body lies behind the body's start and in the value, and so does a refusal
abbrev pub EndWithin : List ℕ → ℕ → Result ℕ Refusal → Type 0
EndWithin v at (Ok next) = Within v at next
EndWithin v at (Err refusal) = Met v refusal

module _ (v : List ℕ) where
  pub list-within : (largest at : ℕ) → EndWithin v at (pairs_from largest v at).ending
  list-within largest at =
      pairs-ind largest v (λ i w. EndWithin v i w.ending) (λ i refusal e. refused-within largest v i refusal e) (λ i next e. last_within largest v i next e)
      (λ i next w e h. further i next w.ending (more_within largest v i next e) h) at
    where
      further : (i next : ℕ) (e : (Result ℕ Refusal)) → Within v i next → EndWithin v next e → EndWithin v i e
      further i next (Ok j) h k = (omega arith, k.1)
      further i next (Err refusal) h k = k

  pub prefix-within : (family : Family) (at : ℕ) → EndWithin v at (prefix_end family v at)
  prefix-within family at =
      prefix_cases family v at (EndWithin v at) (short v) (λ h. (omega arith, (omega arith, omega arith))) (λ h k l. let lead = lead-some family in (omega arith, omega arith))

  pub body-within : (family : Family) (kind at : ℕ) → EndWithin v at (body_end family kind v at)
  unfolding body_end
  body-within family kind at =
      let shape = shape_of family kind in
      by-test shape.prefix (λ t. rw t (prefix-within family at)) (λ t. rw t (list-within shape.largest at))

-- how `prefix_end` comes to each of its answers
module _ (family : Family) (v : List ℕ) (at : ℕ) where
  pub prefix-missing : length v ≤ at → Err (CutShort (length v)) ≡ prefix_end family v at
  unfolding prefix_end
  prefix-missing h = rw (le-leb _ _ h)

  pub prefix-long : at < length v → family.width < get_or v at 0 → Err (PrefixLength at) ≡ prefix_end family v at
  unfolding prefix_end
  prefix-long h k = rw (lt-leb _ _ h, lt-ltb _ _ k)

  module _ (lead : ℕ) (is : lead ≡ lead_of family) (within : at < length v) (narrow : get_or v at 0 ≤ family.width) where
    pub prefix-no-offset : length v < at + lead → Err (CutShort (length v)) ≡ prefix_end family v at
    unfolding prefix_end
    prefix-no-offset h = rw (lt-leb _ _ within, le-ltb _ _ narrow, ← is, lt-ltb _ _ h)

    module _ (offset : ℕ) (says : offset ≡ offset_at family v (at + 1)) (there : at + lead ≤ length v) where
      pub prefix-below : (ltb 0 offset && leb (get_or v at 0) offset) ≡ true → Err (PrefixLength at) ≡ prefix_end family v at
      unfolding prefix_end
      prefix-below h = rw (lt-leb _ _ within, le-ltb _ _ narrow, ← is, le-ltb _ _ there, ← says, h)

      module _ (above : (ltb 0 offset && leb (get_or v at 0) offset) ≡ false) where
        pub prefix-short : length v - (at + lead) < (get_or v at 0 - offset + 7) / 8 → Err (CutShort (length v)) ≡ prefix_end family v at
        unfolding prefix_end
        prefix-short h = rw (lt-leb _ _ within, le-ltb _ _ narrow, ← is, le-ltb _ _ there, ← says, above, lt-ltb _ _ h)

        pub prefix-whole : (get_or v at 0 - offset + 7) / 8 ≤ length v - (at + lead) → Ok (at + lead + (get_or v at 0 - offset + 7) / 8) ≡ prefix_end family v at
        unfolding prefix_end
        prefix-whole h = rw (lt-leb _ _ within, le-ltb _ _ narrow, ← is, le-ltb _ _ there, ← says, above, le-ltb _ _ h)

-- how `body_end` comes to each of its answers
module _ (family : Family) (kind : ℕ) (v : List ℕ) (at : ℕ) (end : (Result ℕ Refusal)) (shape : Shape) (is : shape ≡ shape_of family kind) where
  pub body-prefix : shape.prefix ≡ true → end ≡ prefix_end family v at → end ≡ body_end family kind v at
  unfolding body_end
  body-prefix h e = rw (← is, h) e

  pub body-list : shape.prefix ≡ false → end ≡ (pairs_from shape.largest v at).ending → end ≡ body_end family kind v at
  unfolding body_end
  body-list h e = rw (← is, h) e

-- how the cursor comes to each of its answers
module _ (family : Family) (v : List ℕ) (at previous : ℕ) where
  pub component-none : length v ≤ at → (Ok None) ≡ component_at family v at previous
  unfolding component_at
  component-none h = rw (le-leb _ _ h)

  abbrev unknown : Bool
  unknown = eqb (get_or v at 0) 0 || ltb family.highest (get_or v at 0)

  pub component-unknown : at < length v → unknown ≡ true → Err (UnknownType at) ≡ component_at family v at previous
  unfolding component_at
  component-unknown h t = rw (lt-leb _ _ h, t)

  pub component-order : at < length v → unknown ≡ false → get_or v at 0 ≤ previous → Err (TypeOrder at) ≡ component_at family v at previous
  unfolding component_at
  component-order h t l = rw (lt-leb _ _ h, t, le-leb _ _ l)

  module _ (within : at < length v) (known : unknown ≡ false) (rises : previous < get_or v at 0) (end : (Result ℕ Refusal)) (is : end ≡ body_end family (get_or v at 0) v (at + 1)) where
    pub component-whole : (next : ℕ) → end ≡ Ok next → Ok (Some (located (get_or v at 0) next)) ≡ component_at family v at previous
    unfolding component_at
    component-whole next e = rw (lt-leb _ _ within, known, lt-leb _ _ rises, ← is, e)

    pub component-refused : (refusal : Refusal) → end ≡ Err refusal → Err refusal ≡ component_at family v at previous
    unfolding component_at
    component-refused refusal e = rw (lt-leb _ _ within, known, lt-leb _ _ rises, ← is, e)
