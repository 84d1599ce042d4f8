-- **The rules of an attribute are refused, and accepted, exactly as 01's table says of the rules that begin in it**, one behind the other: what
-- the walk over them ends with, both ways. Assumes nothing.
use mathlib.Core.Path.{◌≡◌, refl, ap, subst, ◌∙◌}
use mathlib.Core.List.{List}
use mathlib.Core.Logic.{◌↔◌}
use Prim.Native.Nat.{ℕ, zero, suc, ◌+◌, ◌<◌, ◌≤◌}
use native.Mathlib.Omega.{arith}
use lib.Dec.{leb}
use lib.ListN.{length, drop}
use borrow.Author.Tests.{leb-true, leb-false, le-leb, lt-leb}
use Rattle.octets.proofs.Cases.{by-test}
use Rattle.rule.specs.declared.Family.{Family}
use Rattle.rule.specs.Reading.{field_size, rule_end, check_rule, first_rule}
use Rattle.rule.proofs.RefusalsLaws.{Numbered, rule-numbered}
use Rattle.attribute.specs.Rules.{rule_at, rules_from}
use Rattle.attribute.specs.Refusals.{RuleBegins, first, next, RulesRefused, RulesAccepted}
use Rattle.attribute.proofs.RulesLaws.{rules-end, rules-refused, rules-next, rule-there}
use Rattle.std.proofs.Common.{Result, Ok, Err, Some, None}
use Rattle.rule.specs.declared.Refusal.{Refusal}
use Rattle.rule.specs.Refusal.{number_of, place_of, RefusedWith}
use Rattle.attribute.specs.Rules.{rule_place}

-- what stands at a place, by the rule that the octets from there on begin with
module _ (family : Family) (a : List ℕ) (at : ℕ) where
  at-end : length a ≤ at → rule_at family a at ≡ Ok None
  unfolding rule_at
  at-end ends = rw (le-leb (length a) at ends)

  at-accepted : at < length a → check_rule family (drop at a) ≡ Ok tt
      → rule_at family a at ≡ Ok (Some (rule_place (at + field_size (drop at a)) (at + rule_end (drop at a))))
  unfolding rule_at first_rule
  at-accepted inside e =
      rw (lt-leb (length a) at inside, e) (ap (λ end. Ok (Some (rule_place (at + field_size (drop at a)) end))) (omega arith))

  at-refused : (refusal : Refusal) → at < length a → check_rule family (drop at a) ≡ Err refusal → rule_at family a at ≡ Err refusal
  unfolding rule_at first_rule
  at-refused refusal inside e = rw (lt-leb (length a) at inside, e)

module _ (family : Family) (a : List ℕ) (head : ℕ) where
  -- what the walk has come to where a rule begins
  reached : (at : ℕ) → RuleBegins family a head at → (rules_from family a head).ending ≡ (rules_from family a at).ending
  reached at first = refl
  reached behind (next {at} b inside e) = reached at b ∙ ap (λ w. w.ending) (rules-next family a at _ _ (at-accepted family a at inside e))

  -- what an ending must say
  abbrev Says : Result Unit Refusal → Type 0
  Says (Ok _) = RulesAccepted family a head
  Says (Err refusal) = RulesRefused family a head (number_of refusal) (place_of refusal)

  ends_there : (at : ℕ) → length a ≤ at → RuleBegins family a head at → Says (rules_from family a at).ending
  ends_there at ends b = rw (rules-end family a at (at-end family a at ends)) (record { at = at; begins = b; ends = ends })

  -- with so many octets left at most
  says-from : (left at : ℕ) → length a ≤ at + left → RuleBegins family a head at → Says (rules_from family a at).ending
  says-from zero at h b = ends_there at (omega arith) b
  says-from (suc left) at h b =
      by-test (leb (length a) at) (λ t. ends_there at (leb-true (length a) at t) b)
      (λ t. go (leb-false (length a) at t) (check_rule family (drop at a)) refl (says-from left))
    where
      go : at < length a → (c : Result Unit Refusal) → check_rule family (drop at a) ≡ c
          → ((behind : ℕ) → length a ≤ behind + left → RuleBegins family a head behind → Says (rules_from family a behind).ending)
          → Says (rules_from family a at).ending
      go inside (Ok _) e rest =
          let stands = at-accepted family a at inside e in
          let there = rule-there family a at _ _ stands in
          let begins = there.begins in
          let ordered = there.ordered in
          rw (rules-next family a at _ _ stands) (rest (at + rule_end (drop at a)) (omega arith) (next b inside e))
      go inside (Err refusal) e rest =
          rw (rules-refused family a at refusal (at-refused family a at refusal inside e))
          (record { at = at; begins = b; inside = inside; refused = rw e (refl, refl) })

  says : Says (rules_from family a head).ending
  says = says-from (length a) head (omega arith) first

  -- **a rule is refused**, 1 to 7, with its place
  pub refused-rules : (number place : ℕ) → RefusedWith (rules_from family a head).ending number place ↔ RulesRefused family a head number place
  refused-rules number place = (
    named (rules_from family a head).ending says,
    (λ r. met r.at r.begins r.inside (check_rule family (drop r.at a)) refl r.refused),
  )
    where
      named : (c : Result Unit Refusal) → Says c → RefusedWith c number place → RulesRefused family a head number place
      named (Ok _) r e = absurd e
      named (Err refusal) r e = rw (← e.0, ← e.1) r

      met : (at : ℕ) → RuleBegins family a head at → at < length a → (c : Result Unit Refusal) → check_rule family (drop at a) ≡ c
          → RefusedWith c number place → RefusedWith (rules_from family a head).ending number place
      met at b inside (Ok _) e r = absurd r
      met at b inside (Err refusal) e r =
          rw (reached at b ∙ ap (λ w. w.ending) (rules-refused family a at refusal (at-refused family a at refusal inside e))) r

  -- **all are accepted**
  pub accepted-rules : ((rules_from family a head).ending ≡ Ok tt) ↔ RulesAccepted family a head
  accepted-rules = (
    (λ e. subst Says e says),
    (λ r. reached r.at r.begins ∙ ap (λ w. w.ending) (rules-end family a r.at (at-end family a r.at r.ends))),
  )

  -- a refusal has a number from 1 to 7
  pub rules-numbered : Numbered (rules_from family a head).ending
  rules-numbered = go (rules_from family a head).ending says
    where
      of-rule : (c : Result Unit Refusal) (number place : ℕ) → Numbered c → RefusedWith c number place → (1 ≤ number) × (number ≤ 7)
      of-rule (Ok _) number place n e = absurd e
      of-rule (Err refusal) number place n e = rw (← e.0) n

      go : (c : Result Unit Refusal) → Says c → Numbered c
      go (Ok _) r = tt
      go (Err refusal) r =
          of-rule (check_rule family (drop r.at a)) (number_of refusal) (place_of refusal) (rule-numbered family (drop r.at a)) r.refused
