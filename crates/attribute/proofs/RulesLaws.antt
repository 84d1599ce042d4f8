-- The rules of an attribute, step by step: what a place of it says of the rules from there on, and what a rule that stands there is when
-- its octets are lent alone. Assumes nothing.
use mathlib.Core.Path.{◌≡◌, refl, sym, ap, subst, ◌∙◌}
use mathlib.Core.List.{List, [], ◌∷◌}
use Prim.Native.Nat.{ℕ, ◌+◌, ◌-◌, ◌<◌, ◌≤◌}
use native.Mathlib.Omega.{arith}
use native.Mathlib.Nat.{add-sub_cancel_left}
use lib.Dec.{leb}
use lib.ListN.{length, take, drop, length-drop}
use lib.Seq.{length-take-le, take_all, take-take, take-add, drop_at, drop-drop}
use borrow.Author.Tests.{leb-true, leb-false, le-leb, lt-leb}
use Rattle.octets.specs.Walk.{more, last, stop, Walk, before}
use Rattle.octets.specs.Test.{Each}
use Rattle.octets.proofs.Cases.{by-test, apart}
use Rattle.octets.proofs.Facts.{Octets}
use Rattle.octets.proofs.WalkLaws.{walk-stop, walk_more, walk-ind}
use Rattle.rule.specs.declared.Family.{Family}
use Rattle.rule.specs.Value.{between, check_value}
use Rattle.rule.specs.Reading.{field_size, field_length, value_in, first_rule, one_rule}
use Rattle.rule.proofs.ReadingLaws.{some-field, front-size, front_length, ReadRule, rule-read, read-accepted, alone-whole}
use Rattle.rule.proofs.ComponentsLaws.{octets-between}
use Rattle.attribute.specs.Rules.{rule_from, rule_at, rule_step, rules_from}
use Rattle.std.proofs.Common.{Result, Ok, Err, Option, Some, None}
use Rattle.rule.specs.declared.Refusal.{Refusal}
use Rattle.rule.specs.declared.Refusal.TheVariants.{Overlong}
use Rattle.rule.specs.declared.Span.{Span}
use Rattle.attribute.specs.declared.RulePlace.{RulePlace}
use Rattle.rule.specs.Reading.{span}
use Rattle.attribute.specs.Rules.{rule_place}

-- a rule that is lent alone is read as it stands
abbrev pub ReadAlone : Family → List ℕ → Type 0
ReadAlone family rule = one_rule family rule ≡ Ok (span (field_size rule) (field_length rule))

-- the octets of a rule that was read, cut off behind it: they have its value, and are that rule alone
module _ (family : Family) (s : List ℕ) (start size : ℕ) (read : ReadRule family s start size) where
  abbrev front : List ℕ
  front = take (start + size) s

  start_is : field_size front ≡ start
  start_is = let f = read.field in front-size s (start + size) (omega arith) ∙ sym f

  size_is : field_length front ≡ size
  size_is = let f = read.field in front_length s (start + size) (omega arith) ∙ sym read.tells

  cut : drop start front ≡ take size (drop start s)
  cut =
      let i = read.inside in
      rw (take-add start size s) (drop_at (take start s) (take size (drop start s)) start (length-take-le start s (omega arith)))

  value-is : take size (drop start front) ≡ take size (drop start s)
  value-is = rw cut (take-take size size (drop start s) (omega arith))

  pub front-value : value_in front ≡ take size (drop start s)
  front-value = rw (start_is, size_is) value-is

  front-accepted : Ok tt ≡ check_value family (take (start + size - start) (drop start front))
  front-accepted = rw (add-sub_cancel_left start size, value-is) (sym read.accepted)

  pub front-alone : ReadAlone family front
  front-alone =
      let n : start + size ≡ length front = sym (length-take-le (start + size) s read.inside) in
      let one = read-accepted family front start size (sym start_is) (sym size_is) (Ok tt) front-accepted (omega arith) refl in
      rw (start_is, size_is) (sym (alone-whole family front (Ok (span start size)) one start size refl n))

-- ---- what stands at a place ----

-- a rule that stands at a place, as it is read from there on
pub record Stands (family : Family) (a : List ℕ) (at start end : ℕ) : Type 0 where
  pub inside : at < length a
  pub field : ℕ
  pub size : ℕ
  pub starts : start ≡ at + field
  pub ends : end ≡ start + size
  pub read : ReadRule family (drop at a) field size

-- what each answer says of the place
abbrev pub Says : Family → List ℕ → ℕ → Result (Option RulePlace) Refusal → Type 0
Says family a at (Ok None) = length a ≤ at
Says family a at (Ok (Some found)) = Stands family a at found.start found.end
Says family a at (Err refusal) = (at < length a) × (first_rule family (drop at a) ≡ Err refusal)

module _ (family : Family) (a : List ℕ) (at : ℕ) where
  pub place-says : Says family a at (rule_at family a at)
  unfolding rule_at
  place-says =
      by-test (leb (length a) at) (λ t. rw t (leb-true _ _ t)) (λ t. rw t (go (leb-false _ _ t) (first_rule family (drop at a)) refl))
    where
      go : at < length a → (r : Result Span Refusal) → first_rule family (drop at a) ≡ r → Says family a at (rule_from at r)
      go h (Ok read) e =
          record { inside = h; field = read.start; size = read.size; starts = refl; ends = refl; read = rule-read family (drop at a) read.start read.size e }
      go h (Err refusal) e = (h, e)

  pub says : (next : Result (Option RulePlace) Refusal) → rule_at family a at ≡ next → Says family a at next
  says next e = subst (Says family a at) e place-says

  -- how `rule_at` comes to each of its answers
  pub at-end : length a ≤ at → Ok None ≡ rule_at family a at
  unfolding rule_at
  at-end h = rw (le-leb _ _ h)

  module _ (inside : at < length a) (reading : Result Span Refusal) (reads : reading ≡ first_rule family (take (length a - at) (drop at a))) where
    is : reading ≡ first_rule family (drop at a)
    is = reads ∙ ap (first_rule family) (take_all (length a - at) (drop at a) (omega (arith, length-drop at a)))

    pub at-rule : (start size : ℕ) → reading ≡ Ok (span start size)
        → Ok (Some (rule_place (at + start) (at + start + size))) ≡ rule_at family a at
    unfolding rule_at
    at-rule start size e = rw (lt-leb _ _ inside, ← is, e)

    pub at-refused : (refusal : Refusal) → reading ≡ Err refusal → Err refusal ≡ rule_at family a at
    unfolding rule_at
    at-refused refusal e = rw (lt-leb _ _ inside, ← is, e)

    pub at-within : (start size : ℕ) → reading ≡ Ok (span start size) → at + start + size ≤ length a
    at-within start size e = omega (arith, (rule-read family (drop at a) start size (sym is ∙ e)).inside, length-drop at a)

-- a rule of an attribute: where it stands, its value, and that it is read when its octets are lent alone
pub record RuleThere (family : Family) (a : List ℕ) (at start end : ℕ) : Type 0 where
  pub begins : at < start
  pub ordered : start ≤ end
  pub within : end ≤ length a
  pub value : value_in (between a at end) ≡ between a start end
  pub accepted : check_value family (between a start end) ≡ Ok tt
  pub alone : ReadAlone family (between a at end)

pub rule-there : (family : Family) (a : List ℕ) (at start end : ℕ) → rule_at family a at ≡ Ok (Some (rule_place start end))
    → RuleThere family a at start end
rule-there family a at start end e = go (says family a at (Ok (Some (rule_place start end))) e)
  where
    go : Stands family a at start end → RuleThere family a at start end
    go s =
        let r = s.read in
        let inside = s.inside in
        let starts = s.starts in
        let ends = s.ends in
        let some = some-field (drop at a) in
        let field = r.field in
        let whole : end - at ≡ s.field + s.size = omega arith in
        let rest : end - start ≡ s.size = omega arith in
        let there : between a start end ≡ take s.size (drop s.field (drop at a)) = rw (rest, starts, drop-drop s.field at a) in
        record {
          begins = omega arith;
          ordered = omega arith;
          within = omega (arith, r.inside, length-drop at a);
          value = rw (there, whole) (front-value family (drop at a) s.field s.size r);
          accepted = rw there r.accepted;
          alone = rw whole (front-alone family (drop at a) s.field s.size r);
        }

-- ---- the rules from a place on ----

module _ (family : Family) (a : List ℕ) where
  falls : (i j : ℕ) (r : List ℕ) → rule_step a i (rule_at family a i) ≡ more r j → length a - j < length a - i
  falls i j r = go (rule_at family a i) refl
    where
      go : (x : Result (Option RulePlace) Refusal) → rule_at family a i ≡ x → rule_step a i x ≡ more r j → length a - j < length a - i
      go (Ok None) e q = apart (cc)
      go (Ok (Some found)) e q =
          let there = rule-there family a i found.start found.end e in
          let s : found.end ≡ j = cc in
          omega (arith, there.begins, there.ordered, there.within)
      go (Err refusal) e q = apart (cc)

  -- what holds at the end and at a refusal, and before a rule where it holds behind it, holds of the rules from every place on
  pub rules-ind : (P : ℕ → Walk (List ℕ) (Result Unit Refusal) → Type 0)
      → ((at : ℕ) → rule_at family a at ≡ Ok None → P at (record { items = []; ending = Ok tt }))
      → ((at : ℕ) (refusal : Refusal) → rule_at family a at ≡ Err refusal → P at (record { items = []; ending = Err refusal }))
      → ((at start end : ℕ) (w : Walk (List ℕ) (Result Unit Refusal)) → rule_at family a at ≡ Ok (Some (rule_place start end)) → P end w
      → P at (before (between a at end) w))
      → (at : ℕ) → P at (rules_from family a at)
  unfolding rules_from
  rules-ind P ends refused goes at =
      walk-ind (Err Overlong) (λ i. rule_step a i (rule_at family a i)) (λ i. length a - i) falls P (λ i e q. stops i e (rule_at family a i) refl q)
      (λ i r e q. lasts i r e (rule_at family a i) q) (λ i j r w q h. mores i j r w (rule_at family a i) refl q h) (length a + 1) at (omega arith)
    where
      stops : (i : ℕ) (e : Result Unit Refusal) (x : Result (Option RulePlace) Refusal) → rule_at family a i ≡ x
          → rule_step a i x ≡ stop e → P i (record { items = []; ending = e })
      stops i e (Ok None) f q = let s : Ok tt ≡ e = cc in rw (← s) (ends i f)
      stops i e (Ok (Some found)) f q = apart (cc)
      stops i e (Err refusal) f q = let s : Err refusal ≡ e = cc in rw (← s) (refused i refusal f)

      lasts : (i : ℕ) (r : List ℕ) (e : Result Unit Refusal) (x : Result (Option RulePlace) Refusal) → rule_step a i x ≡ last r e
          → P i (record { items = r ∷ []; ending = e })
      lasts i r e (Ok None) q = apart (cc)
      lasts i r e (Ok (Some found)) q = apart (cc)
      lasts i r e (Err refusal) q = apart (cc)

      mores : (i j : ℕ) (r : List ℕ) (w : Walk (List ℕ) (Result Unit Refusal)) (x : Result (Option RulePlace) Refusal)
          → rule_at family a i ≡ x → rule_step a i x ≡ more r j → P j w
          → P i (before r w)
      mores i j r w (Ok None) f q h = apart (cc)
      mores i j r w (Ok (Some found)) f q h =
          let s : found.end ≡ j = cc in
          let u : between a i found.end ≡ r = cc in
          rw (← u) (goes i found.start found.end w f (rw s h))
      mores i j r w (Err refusal) f q h = apart (cc)

  module _ (at : ℕ) where
    pub rules-end : rule_at family a at ≡ Ok None → rules_from family a at ≡ record { items = []; ending = Ok tt }
    unfolding rules_from
    rules-end e = walk-stop (Err Overlong) (λ i. rule_step a i (rule_at family a i)) (length a + 1) at (Ok tt) (omega arith) (ap (rule_step a at) e)

    pub rules-refused : (refusal : Refusal) → rule_at family a at ≡ Err refusal
        → rules_from family a at ≡ record { items = []; ending = Err refusal }
    unfolding rules_from
    rules-refused refusal e =
        walk-stop (Err Overlong) (λ i. rule_step a i (rule_at family a i)) (length a + 1) at (Err refusal) (omega arith)
        (ap (rule_step a at) e)

    pub rules-next : (start end : ℕ) → rule_at family a at ≡ Ok (Some (rule_place start end))
        → rules_from family a at ≡ before (between a at end) (rules_from family a end)
    unfolding rules_from
    rules-next start end e =
        walk_more (Err Overlong) (λ i. rule_step a i (rule_at family a i)) (λ i. length a - i) falls (length a + 1) at end (between a at end)
        (omega arith) (ap (rule_step a at) e)

-- all rules before the first that is refused are read when they are lent alone
pub each-alone : (family : Family) (a : List ℕ) (at : ℕ) → Each (ReadAlone family) (rules_from family a at).items
each-alone family a =
    rules-ind family a (λ at w. Each (ReadAlone family) w.items) (λ at e. tt) (λ at refusal e. tt)
    (λ at start end w e h. ((rule-there family a at start end e).alone, h))

pub each-octets : (family : Family) (a : List ℕ) (at : ℕ) → Octets a → Each Octets (rules_from family a at).items
each-octets family a at o =
    rules-ind family a (λ at w. Each Octets w.items) (λ at e. tt) (λ at refusal e. tt)
    (λ at start end w e h. (octets-between a at end o, h)) at
