-- Counting the rules of an attribute: one law for each turn and for each return, and what a count says of the rules. Assumes nothing.
use mathlib.Core.Path.{◌≡◌, refl, sym, ◌∙◌}
use mathlib.Core.List.{List}
use Prim.Native.Nat.{ℕ, suc, ◌+◌, ◌<◌, ◌≤◌}
use native.Mathlib.Omega.{arith}
use lib.ListN.{length}
use Rattle.octets.specs.Walk.{Walk}
use Rattle.octets.proofs.Cases.{apart}
use Rattle.rule.specs.declared.Family.{Family}
use Rattle.attribute.specs.Rules.{rule_at, rules_from}
use Rattle.attribute.specs.Count.{counted_as, count_of}
use Rattle.attribute.proofs.RulesLaws.{rules-end, rules-refused, rules-next, rule-there}
use Rattle.std.proofs.Common.{Result, Ok, Err, Option, Some, None}
use Rattle.rule.specs.declared.Refusal.{Refusal}
use Rattle.attribute.specs.declared.RulePlace.{RulePlace}
use Rattle.attribute.specs.Rules.{rule_place}

-- the rules counted so far and those from here on are all rules, and the ending is the same; a rule takes an octet or more
pub record Counting (family : Family) (a : List ℕ) (from at count : ℕ) : Type 0 where
  pub counts : count_of (rules_from family a from) ≡ counted_as (count + length (rules_from family a at).items) (rules_from family a at).ending
  pub below : count ≤ at

module _ (family : Family) (a : List ℕ) where
  pub count-starts : (from : ℕ) → Counting family a from from 0
  count-starts from =
      let n : 0 + length (rules_from family a from).items ≡ length (rules_from family a from).items = omega arith in
      record { counts = rw n; below = omega arith }

  module _ (from at count : ℕ) (s : Counting family a from at count) (next : Result (Option RulePlace) Refusal) (is : next ≡ rule_at family a at) where
    pub count-end : next ≡ Ok None → Ok count ≡ count_of (rules_from family a from)
    count-end e =
        let n : count + 0 ≡ count = omega arith in
        sym (s.counts ∙ rw (rules-end family a at (sym is ∙ e), n))

    pub count-refused : (refusal : Refusal) → next ≡ Err refusal → Err refusal ≡ count_of (rules_from family a from)
    count-refused refusal e = sym (s.counts ∙ rw (rules-refused family a at refusal (sym is ∙ e)))

    module _ (start end : ℕ) (e : next ≡ Ok (Some (rule_place start end))) where
      pub count-within : (count + 1 ≤ end) × (at < end) × (end ≤ length a)
      count-within =
          let there = rule-there family a at start end (sym is ∙ e) in
          let below = s.below in
          let begins = there.begins in
          let ordered = there.ordered in
          (omega arith, omega arith, there.within)

      pub count-on : Counting family a from end (count + 1)
      count-on =
          let rest = length (rules_from family a end).items in
          let n : count + suc rest ≡ count + 1 + rest = omega arith in
          record { counts = s.counts ∙ rw (rules-next family a at start end (sym is ∙ e), n); below = count-within.0 }

-- what a count says of the rules
module _ (rules : Walk (List ℕ) (Result Unit Refusal)) (counted : Result ℕ Refusal) (counts : counted ≡ count_of rules) where
  pub counted-refused : (refusal : Refusal) → counted ≡ Err refusal → rules.ending ≡ Err refusal
  counted-refused refusal f = go rules.ending (sym counts ∙ f)
    where
      go : (ending : Result Unit Refusal) → counted_as (length rules.items) ending ≡ Err refusal → ending ≡ Err refusal
      go (Ok _) e = apart (cc)
      go (Err r) e = let s : r ≡ refusal = cc in rw s

  pub counted-all : (count : ℕ) → counted ≡ Ok count → (rules.ending ≡ Ok tt) × (length rules.items ≡ count)
  counted-all count f = go rules.ending (sym counts ∙ f)
    where
      go : (ending : Result Unit Refusal) → counted_as (length rules.items) ending ≡ Ok count → (ending ≡ Ok tt) × (length rules.items ≡ count)
      go (Ok _) e = (refl, cc)
      go (Err refusal) e = apart (cc)
