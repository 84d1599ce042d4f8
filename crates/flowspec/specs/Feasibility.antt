-- Judging one rule by the routes (RFC 8955 section 6): the routes are checked, the rule is read, and its destination is judged.
use Rattle.std.specs.Prelude.{ℕ, Bool, true, false, List, Result, Ok, Err}
use Rattle.rule.specs.declared.Family.{Family}
use Rattle.rule.specs.Reading.{value_of}
use Rattle.rule.specs.declared.Refusal.{Refusal}
use Rattle.rule.specs.declared.Refusal.TheVariants.{Infeasible}
use Rattle.rule.specs.declared.Span.{Span}
use Rattle.route.specs.declared.Origin.{Origin}
use Rattle.request.specs.Judging.{read_with_routes, is_feasible}
use Rattle.request.specs.Input.{Policy}

-- Infeasible is refusal 8.
abbrev pub feasibility_of : Bool → Result Unit Refusal
feasibility_of true = Ok tt
feasibility_of false = Err Infeasible

-- A rule that was refused is refused so; a rule that was read is judged.
abbrev pub judge_read : Family → Policy → List ℕ → Origin → Result Span Refusal → Result Unit Refusal
judge_read family policy rule origin (Err refusal) = Err refusal
judge_read family policy rule origin (Ok read) = feasibility_of (is_feasible family policy (value_of rule read.start read.size) origin)

-- 01: "feasibility alone 9, 1 to 7, 15, 8".
unfoldable pub judgement : Family → Policy → List ℕ → Origin → Result Unit Refusal
judgement family policy rule origin = judge_read family policy rule origin (read_with_routes family policy.routes rule)
