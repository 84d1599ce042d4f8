-- The components of a value, from a place on: what the cursor found there, one more and the rest, the end, or a refusal. Assumes nothing.
use mathlib.Core.Path.{◌≡◌, refl, sym, ap, subst, ◌∙◌}
use mathlib.Core.Bool.{Bool, true, false, ◌||◌}
use mathlib.Core.List.{List, [], ◌∷◌}
use Prim.Native.Nat.{ℕ, ◌+◌, ◌-◌, ◌<◌, ◌≤◌}
use native.Mathlib.Omega.{arith}
use lib.Dec.{ltb, eqb}
use lib.ListN.{length, get_or}
use borrow.Author.Tests.{ltb-false, lt-ltb, le-ltb, eqb-false}
use Rattle.octets.specs.Walk.{Step, more, last, stop, Walk, before, through}
use Rattle.octets.proofs.Cases.{by-test, apart}
use Rattle.octets.proofs.WalkLaws.{walk-stop, walk_more, walk-ind}
use Rattle.rule.specs.declared.Family.{Family}
use Rattle.rule.specs.Component.{body_end, found, component_at}
use Rattle.rule.specs.Value.{most_value, Component, between, Progress, component_step, components_from, check_value}
use Rattle.rule.proofs.ComponentLaws.{component-cases, Within, Met, EndWithin, body-within}
use Rattle.rule.specs.declared.Refusal.{Refusal}
use Rattle.rule.proofs.Near.{Near, placeless}
use Rattle.std.proofs.Common.{Result, Ok, Err, Option, Some, None}
use Rattle.rule.specs.declared.Refusal.TheVariants.{Overlong, Empty, CutShort}
use Rattle.rule.specs.declared.Located.{Located}
use Rattle.rule.specs.Component.{located}

-- what the cursor found: a type octet of the family, above the one before, and a body behind it that ends in the value
pub record Found (family : Family) (v : List ℕ) (at previous kind next : ℕ) : Type 0 where
  pub inside : at < length v
  pub is : kind ≡ get_or v at 0
  pub given : kind ≡ 0 → ⊥
  pub had : kind ≤ family.highest
  pub rises : previous < kind
  pub ends : body_end family kind v (at + 1) ≡ Ok next
  pub within : Within v (at + 1) next

abbrev pub Says : Family → List ℕ → ℕ → ℕ → Result (Option Located) Refusal → Type 0
Says family v at previous (Ok None) = length v ≤ at
Says family v at previous (Ok (Some found)) = Found family v at previous found.kind found.next
Says family v at previous (Err refusal) = Met v refusal

module _ (family : Family) (v : List ℕ) where
  pub cursor-says : (at previous : ℕ) → Says family v at previous (component_at family v at previous)
  cursor-says at previous =
      component-cases family v at previous (Says family v at previous) (λ h. h) (λ h. (omega arith, (omega arith, omega arith))) (λ h. (omega arith, (omega arith, omega arith)))
      (λ h z k r. go h z k r (body_end family (get_or v at 0) v (at + 1)) refl)
    where
      go : at < length v → (get_or v at 0 ≡ 0 → ⊥) → get_or v at 0 ≤ family.highest → previous < get_or v at 0
          → (e : (Result ℕ Refusal)) → body_end family (get_or v at 0) v (at + 1) ≡ e → Says family v at previous (found (get_or v at 0) e)
      go h z k r (Ok next) e =
          record {
            inside = h;
            is = refl;
            given = z;
            had = k;
            rises = r;
            ends = e;
            within = subst (EndWithin v (at + 1)) e (body-within v family (get_or v at 0) (at + 1));
          }
      go h z k r (Err refusal) e = subst (EndWithin v (at + 1)) e (body-within v family (get_or v at 0) (at + 1))

  pub was-found : (at previous kind next : ℕ) → component_at family v at previous ≡ Ok (Some (located kind next)) → Found family v at previous kind next
  was-found at previous kind next e = subst (Says family v at previous) e (cursor-says at previous)

  -- a component that was found ends behind its place, and in the value
  module _ (at previous kind next : ℕ) (answer : (Result (Option Located) Refusal)) (is : answer ≡ component_at family v at previous) (found : answer ≡ Ok (Some (located kind next))) where
    pub ends-behind : at < next
    ends-behind = let w = (was-found at previous kind next (sym is ∙ found)).within in omega arith

    pub ends-inside : next ≤ length v
    ends-inside = (was-found at previous kind next (sym is ∙ found)).within.1

  pub none_left : (at previous : ℕ) → component_at family v at previous ≡ Ok None → length v ≤ at
  none_left at previous e = subst (Says family v at previous) e (cursor-says at previous)

  pub was-refused : (at previous : ℕ) (refusal : Refusal) → component_at family v at previous ≡ Err refusal → Met v refusal
  was-refused at previous refusal e = subst (Says family v at previous) e (cursor-says at previous)

  falls : (p q : Progress) (a : Component) → component_step v p.at (component_at family v p.at p.previous) ≡ more a q
      → length v - q.at < length v - p.at
  falls p q a = go (component_at family v p.at p.previous) refl
    where
      go : (x : (Result (Option Located) Refusal)) → component_at family v p.at p.previous ≡ x → component_step v p.at x ≡ more a q → length v - q.at < length v - p.at
      go (Ok None) e s = apart (cc)
      go (Ok (Some found)) e s =
          let f = was-found p.at p.previous found.kind found.next e in
          let n : found.next ≡ q.at = ap (λ (r : Progress). r.at) (same-state s) in
          let w = f.within in
          omega arith
        where
          same-state : {a b : Component} {r q : Progress} → ◌≡◌ {A = Step Progress Component (Result Unit Refusal)} (more a r) (more b q) → r ≡ q
          same-state e = cc
      go (Err refusal) e s = apart (cc)

  -- the components from a place on: one more and the rest, none, or a refusal
  pub components-more : (at previous kind next : ℕ) → component_at family v at previous ≡ Ok (Some (located kind next))
      → components_from family v (record { at = at; previous = previous })
      ≡ before (record { kind = kind; body = between v (at + 1) next }) (components_from family v (record { at = next; previous = kind }))
  unfolding components_from
  components-more at previous kind next e =
      walk_more (Err (CutShort (length v))) (λ (q : Progress). component_step v q.at (component_at family v q.at q.previous)) (λ q. length v - q.at) falls
      (length v + 1) (record { at = at; previous = previous }) (record { at = next; previous = kind }) (record { kind = kind; body = between v (at + 1) next })
      (omega arith) (ap (component_step v at) e)

  pub components-none : (at previous : ℕ) → component_at family v at previous ≡ Ok None
      → components_from family v (record { at = at; previous = previous }) ≡ record { items = []; ending = Ok tt }
  unfolding components_from
  components-none at previous e =
      walk-stop (Err (CutShort (length v))) (λ (q : Progress). component_step v q.at (component_at family v q.at q.previous)) (length v + 1)
      (record { at = at; previous = previous }) (Ok tt) (omega arith) (ap (component_step v at) e)

  pub components-refused : (at previous : ℕ) (refusal : Refusal) → component_at family v at previous ≡ Err refusal
      → components_from family v (record { at = at; previous = previous }) ≡ record { items = []; ending = Err refusal }
  unfolding components_from
  components-refused at previous refusal e =
      walk-stop (Err (CutShort (length v))) (λ (q : Progress). component_step v q.at (component_at family v q.at q.previous)) (length v + 1)
      (record { at = at; previous = previous }) (Err refusal) (omega arith) (ap (component_step v at) e)

  -- what holds at the end and at a refusal, and before a component where it holds behind it, holds of every walk over the value
  pub components-ind : (P : ℕ → ℕ → Walk Component (Result Unit Refusal) → Type 0)
      → ((at previous : ℕ) → component_at family v at previous ≡ Ok None → P at previous (record { items = []; ending = Ok tt }))
      → ((at previous : ℕ) (refusal : Refusal) → component_at family v at previous ≡ Err refusal → P at previous (record { items = []; ending = Err refusal }))
      → ((at previous kind next : ℕ) (w : Walk Component (Result Unit Refusal)) → component_at family v at previous ≡ Ok (Some (located kind next)) → P next kind w
      → P at previous (before (record { kind = kind; body = between v (at + 1) next }) w))
      → (at previous : ℕ) → P at previous (components_from family v (record { at = at; previous = previous }))
  unfolding components_from
  components-ind P none refused goes at previous =
      walk-ind (Err (CutShort (length v))) (λ (q : Progress). component_step v q.at (component_at family v q.at q.previous)) (λ q. length v - q.at) falls
      (λ p w. P p.at p.previous w)
      (λ p e q. stops p e (component_at family v p.at p.previous) refl q)
      (λ p a e q. lasts p a e (component_at family v p.at p.previous) q)
      (λ p r a w q h. mores p r a w (component_at family v p.at p.previous) refl q h)
      (length v + 1) (record { at = at; previous = previous }) (omega arith)
    where
      stops : (p : Progress) (e : (Result Unit Refusal)) (x : (Result (Option Located) Refusal)) → component_at family v p.at p.previous ≡ x → component_step v p.at x ≡ stop e
          → P p.at p.previous (record { items = []; ending = e })
      stops p e (Ok None) f q = let s : Ok tt ≡ e = cc in rw (← s) (none p.at p.previous f)
      stops p e (Ok (Some found)) f q = apart (cc)
      stops p e (Err refusal) f q = let s : Err refusal ≡ e = cc in rw (← s) (refused p.at p.previous refusal f)

      lasts : (p : Progress) (a : Component) (e : (Result Unit Refusal)) (x : (Result (Option Located) Refusal)) → component_step v p.at x ≡ last a e → P p.at p.previous (record { items = a ∷ []; ending = e })
      lasts p a e (Ok None) q = apart (cc)
      lasts p a e (Ok (Some found)) q = apart (cc)
      lasts p a e (Err refusal) q = apart (cc)

      mores : (p r : Progress) (a : Component) (w : Walk Component (Result Unit Refusal)) (x : (Result (Option Located) Refusal)) → component_at family v p.at p.previous ≡ x → component_step v p.at x ≡ more a r
          → P r.at r.previous w → P p.at p.previous (before a w)
      mores p r a w (Ok None) f q h = apart (cc)
      mores p r a w (Ok (Some found)) f q h =
          let s : record { at = found.next; previous = found.kind } ≡ r = cc in
          let u : record { kind = found.kind; body = between v (p.at + 1) found.next } ≡ a = cc in
          rw (← u) (goes p.at p.previous found.kind found.next w f (subst (λ (x : Progress). P x.at x.previous w) (sym s) h))
      mores p r a w (Err refusal) f q h = apart (cc)

  -- the refusal for too few steps is no matter: any other gives the same walk
  pub components-any : (out : (Result Unit Refusal)) (at previous : ℕ)
      → through v out (λ (q : Progress). component_step v q.at (component_at family v q.at q.previous)) (record { at = at; previous = previous })
      ≡ components_from family v (record { at = at; previous = previous })
  components-any out =
      components-ind (λ at previous w. through v out step (record { at = at; previous = previous }) ≡ w)
      (λ at previous e. walk-stop out step (length v + 1) (record { at = at; previous = previous }) (Ok tt) (omega arith) (ap (component_step v at) e))
      (λ at previous refusal e.
      walk-stop out step (length v + 1) (record { at = at; previous = previous }) (Err refusal) (omega arith) (ap (component_step v at) e))
      (λ at previous kind next w e h.
      walk_more out step (λ q. length v - q.at) falls (length v + 1) (record { at = at; previous = previous }) (record { at = next; previous = kind })
      (record { kind = kind; body = between v (at + 1) next }) (omega arith) (ap (component_step v at) e)
      ∙ ap (before (record { kind = kind; body = between v (at + 1) next })) h)
    where
      step : Progress → Step Progress Component (Result Unit Refusal)
      step q = component_step v q.at (component_at family v q.at q.previous)

-- how `check_value` goes on and comes to each of its answers
abbrev how : Walk Component (Result Unit Refusal) → Result Unit Refusal
how w = w.ending

abbrev pub accepts : Family → List ℕ → ℕ → ℕ → Result Unit Refusal
accepts family v at previous = (components_from family v (record { at = at; previous = previous })).ending

module _ (family : Family) (v : List ℕ) (at previous : ℕ) (next : (Result (Option Located) Refusal)) (is : next ≡ component_at family v at previous)
    (so_far : check_value family v ≡ accepts family v at previous) where
  pub check-on : (kind behind : ℕ) → next ≡ Ok (Some (located kind behind)) → check_value family v ≡ accepts family v behind kind
  check-on kind behind e = so_far ∙ ap how (components-more family v at previous kind behind (sym is ∙ e))

  pub check-accepted : next ≡ Ok None → Ok tt ≡ check_value family v
  check-accepted e = sym (so_far ∙ ap how (components-none family v at previous (sym is ∙ e)))

  pub check-refused : (refusal : Refusal) → next ≡ Err refusal → Err refusal ≡ check_value family v
  check-refused refusal e = sym (so_far ∙ ap how (components-refused family v at previous refusal (sym is ∙ e)))

-- the checks before the walk
module _ (family : Family) (v : List ℕ) where
  pub check-long : most_value < length v → Err Overlong ≡ check_value family v
  unfolding check_value
  check-long h = rw (lt-ltb _ _ h)

  -- no octet, or none behind the head
  abbrev none : Bool
  none = eqb (length v) 0 || eqb (length v) family.head

  pub check-empty : length v ≤ most_value → none ≡ true → Err Empty ≡ check_value family v
  unfolding check_value
  check-empty h e = rw (le-ltb _ _ h, e)

  pub check-cut : length v ≤ most_value → none ≡ false → length v < family.head → Err (CutShort (length v)) ≡ check_value family v
  unfolding check_value
  check-cut h e k = rw (le-ltb _ _ h, e, lt-ltb _ _ k)

  pub check-walk : length v ≤ most_value → none ≡ false → family.head ≤ length v → check_value family v ≡ accepts family v family.head 0
  unfolding check_value
  check-walk h e k = rw (le-ltb _ _ h, e, le-ltb _ _ k)

  -- what holds of each of these refusals, and of the walk of a value that is longer than the head, holds of the check
  pub check-cases : (P : Result Unit Refusal → Type 0) → P (Err Overlong) → P (Err Empty) → (length v ≤ most_value → P (Err (CutShort (length v))))
      → (length v ≤ most_value → family.head < length v → P (accepts family v family.head 0)) → P (check_value family v)
  unfolding check_value
  check-cases P long empty cut walked =
      by-test (ltb most_value (length v)) (λ t. rw t long)
      (λ t.
      let small = ltb-false most_value (length v) t in
      by-test (eqb (length v) 0) (λ u. rw (t, u) empty)
      (λ u. by-test (eqb (length v) family.head) (λ w. rw (t, u, w) empty)
      (λ w. by-test (ltb (length v) family.head) (λ x. rw (t, u, w, x) (cut small))
      (λ x.
      let other = eqb-false (length v) family.head w in
      let least = ltb-false (length v) family.head x in
      rw (t, u, w, x) (walked small (omega arith))))))

-- an accepted value has at most 4,095 octets and more than its head, and its walk is accepted
pub record Accepts (family : Family) (v : List ℕ) : Type 0 where
  pub small : length v ≤ most_value
  pub head : family.head < length v
  pub walk : accepts family v family.head 0 ≡ Ok tt

module _ (family : Family) (v : List ℕ) (ok : check_value family v ≡ Ok tt) where
  accepted : Accepts family v
  accepted =
      check-cases family v (λ c. c ≡ Ok tt → Accepts family v) (λ e. apart (cc)) (λ e. apart (cc)) (λ h e. apart (cc))
      (λ h k e. record { small = h; head = k; walk = e }) ok

  pub accepted-small : length v ≤ most_value
  accepted-small = accepted.small

  pub accepted-head : family.head < length v
  accepted-head = accepted.head

  pub accepted-some : length v ≡ 0 → ⊥
  accepted-some e = let h = accepted-head in omega arith

  pub accepted-walk : accepts family v family.head 0 ≡ Ok tt
  accepted-walk = accepted.walk

-- a value that is not accepted is refused with a number of 01's table, at a place in it
abbrev pub Checks : Result Unit Refusal → Type 0
Checks (Ok _) = Unit {0}
Checks (Err refusal) = Near refusal

pub value-checks : (family : Family) (v : List ℕ) → Checks (check_value family v)
value-checks family v =
    check-cases family v Checks (placeless Overlong refl) (placeless Empty refl)
    (λ h. record { near = h })
    (λ h k.
    components-ind family v (λ at previous w. Checks w.ending) (λ at previous e. tt)
    (λ at previous refusal e.
    let m = was-refused family v at previous refusal e in
    record { near = omega arith })
    (λ at previous kind next w e rest. rest) family.head 0)
