-- Comparing two rules: one law for each way in which the code comes to an answer. Assumes nothing.
use mathlib.Core.Path.{◌≡◌, ap, ◌∙◌}
use mathlib.Core.List.{List}
use Prim.Native.Nat.{ℕ, ◌+◌, ◌-◌}
use native.Mathlib.Nat.{add-sub_cancel_left}
use lib.ListN.{take, drop}
use Rattle.std.proofs.Common.{Result, Ok, Err}
use Rattle.std.specs.declared.cmp.Ordering.{Ordering as Order}
use Rattle.octets.specs.Order.{ordered}
use Rattle.rule.specs.declared.Family.{Family}
use Rattle.rule.specs.declared.Refusal.{Refusal}
use Rattle.rule.specs.declared.Span.{Span}
use Rattle.rule.specs.Value.{check_value}
use Rattle.rule.specs.Reading.{one_rule, span}
use Rattle.rule.proofs.ReadingLaws.{ReadRule}
use Rattle.order.specs.Precedence.{precedence}
use Rattle.order.specs.Compare.{compare_rules}

module _ (family : Family) (a b : List ℕ) (left : Result Span Refusal) (is : left ≡ one_rule family a) where
  pub compare-first-refused : (refusal : Refusal) → left ≡ Err refusal → Err refusal ≡ compare_rules family a b
  unfolding compare_rules
  compare-first-refused refusal e = rw (← is, e)

  module _ (start size : ℕ) (read : left ≡ Ok (span start size)) (right : Result Span Refusal) (other-is : right ≡ one_rule family b) where
    pub compare-second-refused : (refusal : Refusal) → right ≡ Err refusal → Err refusal ≡ compare_rules family a b
    unfolding compare_rules
    compare-second-refused refusal e = rw (← is, read, ← other-is, e)

    module _ (begin extent : ℕ) (also : right ≡ Ok (span begin extent)) where
      pub compare-both : (which : Order)
          → which ≡ ordered (precedence family (take (start + size - start) (drop start a)) (take (begin + extent - begin) (drop begin b)))
          → Ok which ≡ compare_rules family a b
      unfolding compare_rules
      compare-both which e =
          let g = rw (add-sub_cancel_left start size, add-sub_cancel_left begin extent) at e in
          ap (λ order. Ok order) g ∙ rw (← is, read, ← other-is, also)

-- a value that was read is accepted
pub value-accepted : (family : Family) (s : List ℕ) (start size : ℕ) → ReadRule family s start size → check_value family (take (start + size - start) (drop start s)) ≡ Ok tt
value-accepted family s start size r = rw (add-sub_cancel_left start size) r.accepted
