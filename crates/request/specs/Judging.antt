-- Judging a rule by the routes (RFC 8955 section 6): the routes are checked, the rule is read, and its value's destination is judged.
use Rattle.std.specs.Prelude.{ℕ, Bool, cond, List, Result, Err}
use Rattle.rule.specs.declared.Family.{Family}
use Rattle.rule.specs.Reading.{one_rule}
use Rattle.rule.specs.declared.Refusal.{Refusal}
use Rattle.rule.specs.declared.Refusal.TheVariants.{UnsoundRoutes}
use Rattle.rule.specs.declared.Span.{Span}
use Rattle.route.specs.declared.Origin.{Origin}
use Rattle.route.specs.Route.{routes_of, sound_routes}
use Rattle.route.specs.Destination.{destination_of}
use Rattle.route.specs.Feasible.{feasible}
use Rattle.request.specs.Input.{Policy}

-- 01: "9, 1 to 7, 15": unsound routes are refused before the rule is read.
unfoldable pub read_with_routes : Family → List ℕ → List ℕ → Result Span Refusal
read_with_routes family routes rule = cond (sound_routes family routes) (one_rule family rule) (Err UnsoundRoutes)

-- An accepted value is feasible where its destination is, for this origin and by this policy.
unfoldable pub is_feasible : Family → Policy → List ℕ → Origin → Bool
is_feasible family policy value origin =
    feasible family.width policy.settings (destination_of family value) origin (routes_of family policy.routes)
