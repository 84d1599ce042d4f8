-- **A held rule never meets 11.** 01: "No room means exactly that the costs after the call would pass the buffer's length." A rule that
-- the table holds takes after the call what it took before, so that whatever an announcement of it is answered, it is not 11. Of what
-- the call is given only what its types say is assumed: octets are below 256.
use mathlib.Core.Path.{◌≡◌, sym, ◌∙◌}
use mathlib.Core.Bool.{true}
use mathlib.Core.List.{List}
use Prim.Native.Nat.{ℕ}
use Rattle.std.proofs.Common.{Result, Ok, Err, Option, Some, None}
use Rattle.octets.proofs.Cases.{by-test, apart}
use Rattle.octets.proofs.Facts.{Octets}
use Rattle.rule.specs.declared.Family.{Family}
use Rattle.rule.specs.declared.Refusal.{Refusal}
use Rattle.rule.specs.declared.Refusal.TheVariants.{NoRoom}
use Rattle.rule.specs.Family.{Fits}
use Rattle.spelling.specs.Plain.{plain}
use Rattle.rule.specs.Reading.{value_of, one_rule, span}
use Rattle.rule.proofs.ReadingLaws.{one-read}
use Rattle.spelling.proofs.ClearedLaws.{octets-plain}
use Rattle.order.specs.Key.{keys_of}
use Rattle.route.specs.Route.{sound_routes}
use Rattle.action.specs.declared.Actions.{Actions}
use Rattle.action.specs.Actions.{actions_of}
use Rattle.table.specs.Sound.{sound_table}
use Rattle.table.specs.Change.{holds}
use Rattle.table.proofs.CaseLaws.{changed-infeasible}
use Rattle.table.proofs.ChangeLaws.{held-is-done}
use Rattle.table.proofs.CallLaws.{plain-held}
use Rattle.request.specs.Input.{Announcement, Policy}
use Rattle.request.specs.Request.{announced_entry, request_for, request_of}
use Rattle.flowspec.specs.Announce.{announced_by, announcing}
use Rattle.request.specs.Judging.{read_with_routes, is_feasible}
use Rattle.flowspec.specs.Promise.{Announces}
use Rattle.request.proofs.RequestLaws.{octets-value}

-- an answer is not 11
abbrev Not11 : Result ℕ Refusal → Type 0
Not11 answer = answer ≡ Err NoRoom → ⊥

module _ (family : Family) (fits : Fits family) (policy : Policy) (a : Announcement) (t : List ℕ) (o : Octets t) (octets : Octets a.rule)
    (start size : ℕ) (read : one_rule family a.rule ≡ Ok (span start size)) (held : holds family t (keys_of family (plain family (value_of a.rule start size))) ≡ true) where
  pub held-not-11 : Not11 (announcing family policy a t).answer
  unfolding announcing request_of read_with_routes
  held-not-11 =
      by-test (sound_table family t)
      (λ sound. rw sound (by-test (sound_routes family policy.routes) (λ r. rw (read_with_routes, r, read) (go sound (actions_of a.communities))) (λ r. rw (read_with_routes, r) (λ e. apart (cc)))))
      (λ sound. rw sound (λ e. apart (cc)))
    where
      go : sound_table family t ≡ true → (acts : Option Actions) → Not11 (announced_by family a t (request_for family policy a (Ok (span start size)) acts)).answer
      go sound None = λ e. apart (cc)
      go sound (Some actions) =
          let v = octets-value a.rule start size octets in
          let done = held-is-done family t o sound (announced_entry family a start size actions) fits
          (octets-plain family (value_of a.rule start size) v) (plain-held family (value_of a.rule start size) v (one-read family a.rule start size read).accepted) held in
          by-test (is_feasible family policy (value_of a.rule start size) a.origin)
          (λ f. rw (f, done) (λ e. apart (cc)))
          (λ f. rw (f, changed-infeasible family t (announced_entry family a start size actions)) (λ e. apart (cc)))

  -- the same of the call, by its promise
  pub held-announcement : (answer : Result ℕ Refusal) (exit : List ℕ) (kept : List (List ℕ)) → Announces family policy a t answer exit kept
      → Not11 answer
  held-announcement answer exit kept promise e = held-not-11 (sym promise.is ∙ e)
