-- Reading a rule with the routes and judging its value: one law for each way in which the code comes to an answer. Assumes nothing.
use mathlib.Core.Path.{◌≡◌, sym, ◌∙◌}
use mathlib.Core.Bool.{Bool, true, false, not}
use mathlib.Core.List.{List}
use Prim.Native.Nat.{ℕ}
use borrow.Author.Tests.{not-true, not-false}
use Rattle.std.proofs.Common.{Result, Ok, Err}
use Rattle.octets.proofs.Cases.{by-test, apart}
use Rattle.rule.specs.declared.Family.{Family}
use Rattle.rule.specs.Reading.{one_rule, span}
use Rattle.rule.specs.declared.Refusal.{Refusal}
use Rattle.rule.specs.declared.Refusal.TheVariants.{UnsoundRoutes}
use Rattle.rule.specs.declared.Span.{Span}
use Rattle.rule.proofs.ReadingLaws.{ReadRule, one-read}
use Rattle.route.specs.declared.Origin.{Origin}
use Rattle.route.specs.Route.{routes_of, sound_routes}
use Rattle.route.specs.Destination.{destination_of}
use Rattle.route.specs.Feasible.{feasible}
use Rattle.request.specs.Input.{Policy}
use Rattle.request.specs.Judging.{read_with_routes, is_feasible}

-- reading a rule once the routes are found sound
module _ (family chosen : Family) (chose : chosen ≡ family) (words rule : List ℕ) where
  pub with-unsound : (sound : Bool) → sound ≡ sound_routes chosen words → not sound ≡ true → Err UnsoundRoutes ≡ read_with_routes family words rule
  unfolding read_with_routes
  with-unsound sound is h = rw (← chose, ← is, not-true sound h)

  pub with-sound : (sound : Bool) (reading : Result Span Refusal) → sound ≡ sound_routes chosen words → not sound ≡ false → reading ≡ one_rule chosen rule
      → reading ≡ read_with_routes family words rule
  unfolding read_with_routes
  with-sound sound reading is h read = read ∙ rw (← chose, ← is, not-false sound h)

module _ (family : Family) (words rule : List ℕ) where
  -- a rule that was so read is one that was read
  pub with-routes : (start size : ℕ) → read_with_routes family words rule ≡ Ok (span start size) → one_rule family rule ≡ Ok (span start size)
  unfolding read_with_routes
  with-routes start size e = by-test (sound_routes family words) (λ h. rw h at e) (λ h. let z : Err UnsoundRoutes ≡ Ok (span start size) = rw h at e in apart (cc))

  pub rule-there : (reading : Result Span Refusal) (start size : ℕ) → reading ≡ read_with_routes family words rule → reading ≡ Ok (span start size) → ReadRule family rule start size
  rule-there reading start size is e = one-read family rule start size (with-routes start size (sym is ∙ e))

-- judging a value
pub value-judged : (family chosen : Family) → chosen ≡ family → (policy : Policy) (value : List ℕ) (origin : Origin) (destination : _) (feasibly : Bool)
    → destination ≡ destination_of chosen value
    → feasibly ≡ feasible chosen.width policy.settings destination origin (routes_of chosen policy.routes)
    → feasibly ≡ is_feasible family policy value origin
unfolding is_feasible
value-judged family chosen chose policy value origin destination feasibly is says = says ∙ rw (← chose, is)
