-- What an announcement asks: one law for each way in which the code comes to it. Assumes nothing.
use mathlib.Core.Path.{◌≡◌, refl, sym, ap, ◌∙◌}
use mathlib.Core.Bool.{Bool}
use mathlib.Core.List.{List}
use Prim.Native.Nat.{ℕ, ◌+◌, ◌-◌}
use native.Mathlib.Nat.{add-sub_cancel_left}
use Rattle.std.proofs.Common.{Result, Ok, Err, Option, Some, None}
use Rattle.octets.proofs.Cases.{apart}
use Rattle.octets.proofs.Facts.{Octets}
use Rattle.rule.specs.declared.Family.{Family}
use Rattle.rule.specs.Reading.{value_of, one_rule, span}
use Rattle.rule.specs.declared.Refusal.{Refusal}
use Rattle.rule.specs.declared.Refusal.TheVariants.{UnsoundActions}
use Rattle.rule.specs.declared.Span.{Span}
use Rattle.rule.proofs.ReadingLaws.{ReadRule, one-read}
use Rattle.rule.proofs.ComponentsLaws.{octets-between}
use Rattle.action.specs.declared.Actions.{Actions}
use Rattle.action.specs.Actions.{actions_of}
use Rattle.request.specs.Input.{Announcement, Policy}
use Rattle.request.specs.Judging.{read_with_routes, is_feasible}
use Rattle.request.specs.Request.{request_for, request_of, request}
use Rattle.request.specs.declared.Request.{Request}
use Rattle.request.proofs.JudgingLaws.{with-routes}

-- a rule's value is octets
pub octets-value : (rule : List ℕ) (start size : ℕ) → Octets rule → Octets (value_of rule start size)
octets-value rule start size o = rw (add-sub_cancel_left start size) at (octets-between rule start (start + size) o)

module _ (family : Family) (policy : Policy) (a : Announcement) (reading : Result Span Refusal) (read_is : reading ≡ read_with_routes family policy.routes a.rule) where
  pub ask-refused : (refusal : Refusal) → reading ≡ Err refusal → Err refusal ≡ request_of family policy a
  unfolding request_of
  ask-refused refusal e = rw (← read_is, e)

  module _ (start size : ℕ) (e : reading ≡ Ok (span start size)) (actions : Option Actions) (acts : actions ≡ actions_of a.communities) where
    pub ask-actions : actions ≡ None → Err UnsoundActions ≡ request_of family policy a
    unfolding request_of
    ask-actions h = rw (← read_is, e, ← acts, h)

    pub ask-announce : (read : Actions) (judged : Bool) → actions ≡ Some read
        → judged ≡ is_feasible family policy (value_of a.rule start (start + size - start)) a.origin
        → Ok (request start size read judged) ≡ request_of family policy a
    unfolding request_of
    ask-announce read judged h j = rw (← read_is, e, ← acts, h, j, add-sub_cancel_left start size)

-- what an announcement that asks for an entry was read from, and how it was judged
pub record Asked (family : Family) (policy : Policy) (a : Announcement) (start size : ℕ) (actions : Actions) (judged : Bool) : Type 0 where
  pub read : one_rule family a.rule ≡ Ok (span start size)
  pub acts : actions_of a.communities ≡ Some actions
  pub is : judged ≡ is_feasible family policy (value_of a.rule start size) a.origin

module _ (family : Family) (policy : Policy) (a : Announcement) (start size : ℕ) (actions : Actions) (judged : Bool) where
  pub asked-from : request_of family policy a ≡ Ok (request start size actions judged)
      → Asked family policy a start size actions judged
  unfolding request_of
  asked-from e =
      go (read_with_routes family policy.routes a.rule) refl (actions_of a.communities) refl e
    where
      go : (r : Result Span Refusal) → read_with_routes family policy.routes a.rule ≡ r → (acts : Option Actions) → actions_of a.communities ≡ acts
          → request_for family policy a r acts ≡ Ok (request start size actions judged)
          → Asked family policy a start size actions judged
      go (Err refusal) f acts g z = apart (cc)
      go (Ok value) f None g z = apart (cc)
      go (Ok value) f (Some read) g z =
          let same : request value.start value.size read (is_feasible family policy (value_of a.rule value.start value.size) a.origin)
          ≡ request start size actions judged
          = cc in
          let starts = ap (λ (asks : Request). asks.start) same in
          let sizes = ap (λ (asks : Request). asks.size) same in
          let reads = ap (λ (asks : Request). asks.actions) same in
          let judges = ap (λ (asks : Request). asks.feasible) same in
          record {
            read = with-routes family policy.routes a.rule start size (f ∙ rw (starts, sizes));
            acts = g ∙ rw reads;
            is = sym judges ∙ rw (starts, sizes);
          }

  pub asked-rule : request_of family policy a ≡ Ok (request start size actions judged) → ReadRule family a.rule start size
  asked-rule e = one-read family a.rule start size (asked-from e).read
