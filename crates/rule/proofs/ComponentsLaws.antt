-- An accepted value is its head and its components, one after the other, and what holds of each of them: its type is one of the family's, above
-- the type before, and a prefix has the octets that its length asks for. By induction along the walk. Assumes nothing.
use mathlib.Core.Path.{◌≡◌, refl, sym, ap, subst, ◌∙◌}
use mathlib.Core.Bool.{true}
use mathlib.Core.List.{List, [], ◌∷◌, ◌++◌}
use Prim.Native.Nat.{ℕ, ◌+◌, ◌-◌, ◌/◌, ◌<◌, ◌≤◌}
use native.Mathlib.Omega.{arith}
use native.Mathlib.Decide.{dec_lt}
use native.Mathlib.Numerals.{add-one}
use native.Mathlib.Nat.{add-zero}
use lib.ListN.{length, get_or, drop, take-append-drop, drop_of_length-le, length-take, length-drop, get_or-eq_default}
use lib.Seq.{drop-cons, drop-drop, get_or-take, get_or-drop, length-take-le}
use Rattle.octets.specs.Test.{Each}
use Rattle.octets.proofs.Cases.{by-test}
use Rattle.octets.proofs.Facts.{Octets}
use Rattle.rule.specs.declared.Family.{Family}
use Rattle.rule.specs.Shape.{shape_of}
use Rattle.rule.specs.Component.{lead_of, offset_at, prefix_end, body_end}
use Rattle.rule.specs.Value.{Component, spelled, between, head_of, components_from, components, check_value}
use Rattle.rule.proofs.ComponentLaws.{prefix_cases, prefix-begins, lead-with, offset-with, offset-without}
use Rattle.rule.proofs.ValueLaws.{Found, was-found, none_left, components-ind, accepted-walk}
use Rattle.std.proofs.Common.{Result, Ok, Err}
use Rattle.rule.specs.declared.Refusal.{Refusal}

-- the octets from one place up to another: each of them, and how many
pub between-octet : (v : List ℕ) (from to i : ℕ) → i < to - from → get_or (between v from to) i 0 ≡ get_or v (from + i) 0
between-octet v from to i h = get_or-take (to - from) (drop from v) i 0 h ∙ get_or-drop from v i 0

pub between-length : (v : List ℕ) (from to : ℕ) → from ≤ to → to ≤ length v → length (between v from to) ≡ to - from
between-length v from to h inside = let l = length-drop from v in length-take-le (to - from) (drop from v) (omega arith)

-- a part of octets is octets
pub octets-between : (t : List ℕ) (from to : ℕ) → Octets t → Octets (between t from to)
octets-between t from to o i =
    elim (dec_lt i (to - from)) [
      | yes h ↦ rw (between-octet t from to i h) (o (from + i))
      | no h ↦ rw (get_or-eq_default (between t from to) 0 {n = i} (simp length-take (omega arith))) (omega arith)
    ]

-- the octets up to a place, and those from it on
between-then : (v : List ℕ) (from to : ℕ) → from ≤ to → between v from to ++ drop to v ≡ drop from v
between-then v from to h =
    let e : from + (to - from) ≡ to = omega arith in
    ap (λ n. between v from to ++ drop n v) (sym e) ∙ rw (← drop-drop (to - from) from v) (take-append-drop (to - from) (drop from v))

module _ (family : Family) (v : List ℕ) where
  spelled-from : (at previous : ℕ) → (components_from family v (record { at = at; previous = previous })).ending ≡ Ok tt
      → spelled (components_from family v (record { at = at; previous = previous })).items ≡ drop at v
  unfolding spelled
  spelled-from =
      components-ind family v (λ at previous w. w.ending ≡ Ok tt → spelled w.items ≡ drop at v)
      (λ at previous e ok. sym (drop_of_length-le v (none_left family v at previous e)))
      (λ at previous refusal e ok. cc)
      (λ at previous kind next w e h ok.
      let f = was-found family v at previous kind next e in
      let inside = f.inside in
      let within = f.within.0 in
      rw (h ok, between-then v (at + 1) next (omega arith), drop-cons v at 0 inside, f.is, add-one))

  -- an accepted value is its head and what its components spell
  pub spelled-whole : check_value family v ≡ Ok tt → head_of family v ++ spelled (components family v) ≡ v
  unfolding components
  spelled-whole ok =
      ap (λ (l : List ℕ). head_of family v ++ l) (spelled-from family.head 0 (accepted-walk family v ok)) ∙ take-append-drop family.head v

-- types that rise strictly, all above `previous`
abbrev pub Rising : ℕ → List Component → Type 0
Rising previous [] = Unit {0}
Rising previous (p ∷ ps) = (previous < p.kind) × Rising p.kind ps

module _ (family : Family) (v : List ℕ) where
  pub types-rise : Rising 0 (components family v)
  unfolding components
  types-rise =
      components-ind family v (λ at previous w. Rising previous w.items) (λ at previous e. tt) (λ at previous refusal e. tt)
      (λ at previous kind next w e h. ((was-found family v at previous kind next e).rises, h)) family.head 0

  -- what holds of all that the cursor finds holds of each component
  pub each-found : (P : Component → Type 0)
      → ((at previous kind next : ℕ) → Found family v at previous kind next → P (record { kind = kind; body = between v (at + 1) next }))
      → Each P (components family v)
  unfolding components
  each-found P holds =
      components-ind family v (λ at previous w. Each P w.items) (λ at previous e. tt) (λ at previous refusal e. tt)
      (λ at previous kind next w e h. (holds at previous kind next (was-found family v at previous kind next e), h)) family.head 0

-- a prefix's body: its length is within the width and not below its offset, and it has just the octets that these ask for
pub record PrefixBody (family : Family) (body : List ℕ) : Type 0 where
  pub within : get_or body 0 0 ≤ family.width
  pub below : offset_at family body 1 ≤ get_or body 0 0
  pub begins : get_or body 0 0 ≤ offset_at family body 1 → offset_at family body 1 ≡ 0
  pub whole : length body ≡ lead_of family + (get_or body 0 0 - offset_at family body 1 + 7) / 8

-- a component that the cursor can find
pub record SoundComponent (family : Family) (p : Component) : Type 0 where
  pub given : 1 ≤ p.kind
  pub had : p.kind ≤ family.highest
  pub prefix : (shape_of family p.kind).prefix ≡ true → PrefixBody family p.body

-- where a prefix that begins at a place ends
PrefixEnds : Family → List ℕ → ℕ → Result ℕ Refusal → Type 0
PrefixEnds family v at (Ok next) =
    (get_or v at 0 ≤ family.width) × ((offset_at family v (at + 1) ≤ get_or v at 0)
    × ((next ≡ at + lead_of family + (get_or v at 0 - offset_at family v (at + 1) + 7) / 8) × (at + lead_of family ≤ next)))
PrefixEnds family v at (Err refusal) = Unit {0}

module _ (family : Family) (v : List ℕ) where
  prefix-ends : (at : ℕ) → PrefixEnds family v at (prefix_end family v at)
  unfolding PrefixEnds
  prefix-ends at = prefix_cases family v at (PrefixEnds family v at) tt (λ h. tt) (λ h k l. (k, (l, (refl, omega arith))))

  module _ (at next : ℕ) (some : at < next) (inside : next ≤ length v) where
    body-first : get_or (between v at next) 0 0 ≡ get_or v at 0
    body-first = between-octet v at next 0 (omega arith) ∙ ap (λ n. get_or v n 0) (add-zero at)

    body-offset : at + lead_of family ≤ next → offset_at family (between v at next) 1 ≡ offset_at family v (at + 1)
    body-offset there =
        by-test family.offsets
        (λ t.
        let lead = lead-with family t in
        offset-with family (between v at next) 1 t ∙ between-octet v at next 1 (omega arith) ∙ sym (offset-with family v (at + 1) t))
        (λ t. offset-without family (between v at next) 1 t ∙ sym (offset-without family v (at + 1) t))

    pub prefix-body : (kind : ℕ) → (shape_of family kind).prefix ≡ true → body_end family kind v at ≡ Ok next → PrefixBody family (between v at next)
    unfolding body_end PrefixEnds
    prefix-body kind t e =
        let ends = subst (PrefixEnds family v at) (rw t at e) (prefix-ends at) in
        let offset = body-offset ends.1.1.1 in
        record {
          within = rw body-first ends.0;
          below = rw (body-first, offset) ends.1.0;
          begins = rw (body-first, offset) (prefix-begins family v at next (rw t at e));
          whole = rw (body-first, offset, between-length v at next (omega arith) inside) (omega arith);
        }

  -- each component of a value is sound
  pub each-sound : Each (SoundComponent family) (components family v)
  each-sound =
      each-found family v (SoundComponent family)
      (λ at previous kind next f.
      let rises = f.rises in
      let within = f.within in
      record { given = omega arith; had = f.had; prefix = λ t. prefix-body (at + 1) next within.0 within.1 kind t f.ends })

  -- each body of a value of octets is one of octets
  pub each-octets : Octets v → Each (λ p. Octets p.body) (components family v)
  each-octets o = each-found family v (λ p. Octets p.body) (λ at previous kind next f. octets-between v (at + 1) next o)
