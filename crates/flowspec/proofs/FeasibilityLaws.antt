-- Judging one rule: one law for each way in which the code comes to an answer. Assumes nothing.
use mathlib.Core.Path.{◌≡◌, refl, ap, ◌∙◌}
use mathlib.Core.Bool.{Bool}
use mathlib.Core.List.{List, [], ◌∷◌}
use Prim.Native.Nat.{ℕ, ◌+◌, ◌-◌}
use native.Mathlib.Nat.{add-sub_cancel_left}
use Rattle.std.proofs.Common.{Result, Ok, Err}
use Rattle.rule.specs.declared.Family.{Family}
use Rattle.rule.specs.Reading.{value_of, span}
use Rattle.rule.specs.declared.Refusal.{Refusal}
use Rattle.rule.specs.declared.Span.{Span}
use Rattle.route.specs.declared.Origin.{Origin}
use Rattle.request.specs.Input.{Policy}
use Rattle.request.specs.Judging.{read_with_routes, is_feasible}
use Rattle.flowspec.specs.Feasibility.{feasibility_of, judgement}
use Rattle.flowspec.specs.Told.{feasibility_told}
use Rattle.flowspec.specs.Promise.{JudgesOne}
use Rattle.flowspec.proofs.ToldLaws.{judge-tells}

-- a promise from the equation for the answer
kept : (family : Family) (policy : Policy) (rule : List ℕ) (origin : Origin) (answer : Result Unit Refusal)
    → answer ≡ judgement family policy rule origin → JudgesOne family policy rule origin answer (policy.routes ∷ rule ∷ [])
kept family policy rule origin answer e =
    record { is = e; tells = ap feasibility_told e ∙ judge-tells family policy rule origin; keeps = refl }

module _ (family : Family) (policy : Policy) (rule : List ℕ) (origin : Origin) (reading : Result Span Refusal)
    (read : reading ≡ read_with_routes family policy.routes rule) where
  pub judge-refused : (refusal : Refusal) → reading ≡ Err refusal → (answer : Result Unit Refusal) → answer ≡ Err refusal
      → JudgesOne family policy rule origin answer (policy.routes ∷ rule ∷ [])
  unfolding judgement
  judge-refused refusal e answer h = kept family policy rule origin answer (h ∙ rw (← read, e))

  pub judge-read : (start size : ℕ) (feasibly : Bool) (answer : Result Unit Refusal) → reading ≡ Ok (span start size)
      → feasibly ≡ is_feasible family policy (value_of rule start (start + size - start)) origin → answer ≡ feasibility_of feasibly
      → JudgesOne family policy rule origin answer (policy.routes ∷ rule ∷ [])
  unfolding judgement
  judge-read start size feasibly answer e f a =
      kept family policy rule origin answer (a ∙ rw (← read, e, f, add-sub_cancel_left start size))
