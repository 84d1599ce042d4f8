-- Section 5.1 is one order: that of the keys. So precedence has the laws of an order, and a tie is between equal plain spellings. All
-- this is for values of octets and a family as there are. Assumes nothing.
use mathlib.Core.Path.{◌≡◌, refl, sym, ap, ap₂, ◌∙◌}
use mathlib.Core.Bool.{true, false}
use mathlib.Core.Logic.{◌⊎◌, inl, inr}
use mathlib.Core.List.{List, [], ◌∷◌, ◌++◌, map, head-eq_of_cons-eq, tail-eq_of_cons-eq}
use native.Mathlib.Omega.{arith}
use Prim.Native.Nat.{ℕ, ◌-◌, ◌*◌, compare, Ordering}
use Rattle.std.proofs.Common.{Ok}
use Rattle.octets.specs.Test.{Each}
use Rattle.octets.specs.Order.{then, lex}
use Rattle.octets.proofs.Cases.{by-test}
use Rattle.octets.proofs.Facts.{Octets}
use Rattle.octets.proofs.OrderLaws.{swap, IsOrder, nat-order, lex-order}
use Rattle.prefix.specs.Prefix.{pattern_in}
use Rattle.prefix.proofs.ContainLaws.{tie}
use Rattle.prefix.proofs.PrefixLaws.{one-order as prefix-order}
use Rattle.rule.specs.declared.Family.{Family}
use Rattle.rule.specs.Family.{Fits}
use Rattle.rule.specs.Shape.{shape_of}
use Rattle.rule.specs.Value.{Component, spelled, head_of, components, check_value}
use Rattle.spelling.specs.Plain.{plain}
use Rattle.spelling.proofs.ClearedLaws.{plain-again}
use Rattle.spelling.proofs.SpellingLaws.{check-plain}
use Rattle.rule.proofs.ComponentsLaws.{spelled-whole}
use Rattle.order.specs.Precedence.{body_order, component_order, components_order, heads_order, plain_order, precedence}
use Rattle.order.specs.Key.{body_key, key_of, keys_of, key_order}
use Rattle.order.proofs.BodyLaws.{PlainBody, plain-bodies, prefix-only}

-- the order of keys has the laws of an order
pub key-order : IsOrder key_order
key-order = lex-order (lex compare) (lex-order compare nat-order)

module _ (family : Family) where
  -- two components in the plain spelling are ordered as their keys are
  component-order : (p q : Component) → PlainBody family p → PlainBody family q → component_order family p q ≡ lex compare (key_of family p) (key_of family q)
  unfolding component_order body_order key_of body_key
  component-order p q P Q = go (compare p.kind q.kind) refl
    where
      bodies : p.kind ≡ q.kind → body_order family p.kind p.body q.body ≡ lex compare (body_key family p.kind p.body) (body_key family q.kind q.body)
      bodies e =
          by-test (shape_of family p.kind).prefix
          (λ t.
          let u : (shape_of family q.kind).prefix ≡ true = sym (ap (λ k. (shape_of family k).prefix) e) ∙ t in
          rw (t, u) (prefix-order family.width (pattern_in family.width family.offsets p.body) (pattern_in family.width family.offsets q.body) (P.formed t) (Q.formed u)))
          (λ t. let u : (shape_of family q.kind).prefix ≡ false = sym (ap (λ k. (shape_of family k).prefix) e) ∙ t in rw (t, u))

      go : (o : Ordering) → compare p.kind q.kind ≡ o → component_order family p q ≡ lex compare (key_of family p) (key_of family q)
      go Ordering.lt e = rw e
      go Ordering.eq e = ap (then (compare p.kind q.kind)) (bodies (nat-order.only p.kind q.kind e))
      go Ordering.gt e = rw e

  components-order : (ps qs : List Component) → Each (PlainBody family) ps → Each (PlainBody family) qs
      → lex (component_order family) ps qs ≡ key_order (map (key_of family) ps) (map (key_of family) qs)
  components-order [] [] P Q = refl
  components-order [] (q ∷ qs) P Q = refl
  components-order (p ∷ ps) [] P Q = refl
  components-order (p ∷ ps) (q ∷ qs) P Q = λ i. then (component-order p q P.0 Q.0 i) (components-order ps qs P.1 Q.1 i)

module _ (family : Family) (fits : Fits family) where
  -- an address has whole octets
  abbrev n : ℕ
  n = 4 * (family.words - 3)

  wide : family.width ≡ 8 * n
  wide = omega (arith, fits)

  -- components in the plain spelling with one key are equal
  component-only : (p q : Component) → PlainBody family p → PlainBody family q → key_of family p ≡ key_of family q → p ≡ q
  unfolding key_of body_key
  component-only p q P Q e =
      let kinds : p.kind ≡ q.kind = head-eq_of_cons-eq e in
      let bodies = same kinds (tail-eq_of_cons-eq e) in
      λ i. record { kind = kinds i; body = bodies i }
    where
      same : p.kind ≡ q.kind → body_key family p.kind p.body ≡ body_key family q.kind q.body → p.body ≡ q.body
      same k f =
          by-test (shape_of family p.kind).prefix
          (λ t.
          let u : (shape_of family q.kind).prefix ≡ true = sym (ap (λ k. (shape_of family k).prefix) k) ∙ t in
          prefix-only family n wide p.body q.body (P.whole t) (Q.whole u) (P.clear t) (Q.clear u) P.octets Q.octets
          (tie family.width _ _ (P.formed t) (Q.formed u) (rw (t, u) at f)))
          (λ t. let u : (shape_of family q.kind).prefix ≡ false = sym (ap (λ k. (shape_of family k).prefix) k) ∙ t in rw (t, u) at f)

  components-only : (ps qs : List Component) → Each (PlainBody family) ps → Each (PlainBody family) qs
      → map (key_of family) ps ≡ map (key_of family) qs → ps ≡ qs
  components-only [] [] P Q e = refl
  components-only [] (q ∷ qs) P Q e = cc
  components-only (p ∷ ps) [] P Q e = cc
  components-only (p ∷ ps) (q ∷ qs) P Q e =
      λ i. component-only p q P.0 Q.0 (head-eq_of_cons-eq e) i ∷ components-only ps qs P.1 Q.1 (tail-eq_of_cons-eq e) i

  -- **One order**: the precedence of two values is the order of their keys.
  pub one-order : (v w : List ℕ) → Octets v → Octets w → precedence family v w ≡ key_order (keys_of family v) (keys_of family w)
  unfolding precedence plain_order components_order keys_of
  one-order v w o p =
      ap (then (heads_order family (plain family v) (plain family w)))
      (components-order family (components family (plain family v)) (components family (plain family w)) (plain-bodies family n wide v o) (plain-bodies family n wide w p))

  -- A value ties with itself, so that it does not come before itself.
  pub precedence-same : (v : List ℕ) → Octets v → precedence family v v ≡ Ordering.eq
  precedence-same v o = one-order v v o o ∙ key-order.same (keys_of family v)

  -- The other way round gives the other answer.
  pub precedence-flip : (v w : List ℕ) → Octets v → Octets w → precedence family w v ≡ swap (precedence family v w)
  precedence-flip v w o p = rw (one-order v w o p, one-order w v p o) (key-order.flip (keys_of family v) (keys_of family w))

  -- What comes before what comes before a value comes before that value.
  pub precedence-trans : (u v w : List ℕ) → Octets u → Octets v → Octets w
      → precedence family u v ≡ Ordering.lt → precedence family v w ≡ Ordering.lt → precedence family u w ≡ Ordering.lt
  precedence-trans u v w o p q e f =
      one-order u w o q
      ∙ key-order.trans (keys_of family u) (keys_of family v) (keys_of family w) (sym (one-order u v o p) ∙ e) (sym (one-order v w p q) ∙ f)

  module _ (v w : List ℕ) (o : Octets v) (p : Octets w) where
    -- values of one plain spelling tie
    pub equal-ties : plain family v ≡ plain family w → precedence family v w ≡ Ordering.eq
    unfolding precedence
    equal-ties e = rw e (precedence-same w p)

    module _ (ok : check_value family v ≡ Ok tt) (also : check_value family w ≡ Ok tt) where
      -- Accepted values of one key have one plain spelling.
      pub keys-only : keys_of family v ≡ keys_of family w → plain family v ≡ plain family w
      unfolding keys_of
      keys-only e =
          let heads : head_of family (plain family v) ≡ head_of family (plain family w) = head-eq_of_cons-eq e in
          let parts = components-only (components family (plain family v)) (components family (plain family w)) (plain-bodies family n wide v o) (plain-bodies family n wide w p)
          (tail-eq_of_cons-eq e) in
          sym (spelled-whole family (plain family v) (check-plain family v o ∙ ok)) ∙ ap₂ (λ (l : List ℕ) (ps : List Component). l ++ spelled ps) heads parts
          ∙ spelled-whole family (plain family w) (check-plain family w p ∙ also)

      -- **Tie**: 01, "A tie occurs exactly between equal plain spellings."
      pub tie-equal : precedence family v w ≡ Ordering.eq → plain family v ≡ plain family w
      tie-equal e = keys-only (key-order.only (keys_of family v) (keys_of family w) (sym (one-order v w o p) ∙ e))

      -- Of two accepted values that are not one rule, one comes first.
      pub one-first : (plain family v ≡ plain family w → ⊥) → (precedence family v w ≡ Ordering.lt) ⊎ (precedence family w v ≡ Ordering.lt)
      one-first differ = go (precedence family v w) refl
        where
          go : (x : Ordering) → precedence family v w ≡ x → (precedence family v w ≡ Ordering.lt) ⊎ (precedence family w v ≡ Ordering.lt)
          go Ordering.lt e = inl e
          go Ordering.eq e = absurd (differ (tie-equal e))
          go Ordering.gt e = inr (precedence-flip v w o p ∙ ap swap e)

-- a value has the key of its plain spelling, and what has that plain spelling has its key
pub keys-plain : (family : Family) (v : List ℕ) → Octets v → keys_of family (plain family v) ≡ keys_of family v
unfolding keys_of
keys-plain family v o = rw (plain-again family v o)

pub keys-same : (family : Family) (v w : List ℕ) → plain family v ≡ plain family w → keys_of family v ≡ keys_of family w
unfolding keys_of
keys-same family v w e = rw e

-- precedence knows a value by its plain spelling alone
pub precedence-plain : (family : Family) (v w : List ℕ) → Octets v → Octets w → precedence family (plain family v) (plain family w) ≡ precedence family v w
unfolding precedence
precedence-plain family v w o p = rw (plain-again family v o, plain-again family w p)
