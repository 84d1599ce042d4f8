-- Reading what the calls are given: one law for each return. Assumes nothing.
use mathlib.Core.Path.{◌≡◌, sym, ap}
use mathlib.Core.Bool.{Bool, true, false, not}
use mathlib.Core.List.{List}
use Prim.Native.Nat.{ℕ, ◌<◌, ◌≤◌}
use borrow.Author.Tests.{not-true, not-false, le-leb, lt-leb}
use Rattle.std.proofs.Common.{Result, Ok, Err, Option, Some, None}
use Rattle.rule.specs.declared.Family.{Family}
use Rattle.rule.specs.declared.Refusal.{Refusal}
use Rattle.rule.specs.declared.Refusal.TheVariants.{UnsoundRoutes, UnsoundActions, ShortBuffer, UntakenAttribute}
use Rattle.rule.specs.Refusal.{refused_with}
use Rattle.rule.proofs.Near.{refusal-with}
use Rattle.action.specs.declared.Actions.{Actions}
use Rattle.action.specs.Actions.{actions_of}
use Rattle.route.specs.Route.{sound_routes}
use Rattle.flowspec.specs.Checks.{actions_read}
use Rattle.attribute.specs.Head.{is_reach, is_unreach}
use Rattle.attribute.specs.Rules.{reach_rules, unreach_rules}
use Rattle.attribute.specs.Count.{count_of}
use Rattle.attribute.proofs.CountLaws.{counted-refused, counted-all}
use Rattle.update.specs.Checks.{reach_count, unreach_count, reach_input, unreach_input, rules_read}
use Rattle.update.specs.Apply.{decided}
use Rattle.update.specs.declared.RulesRead.{RulesRead}

-- ---- an unreach ----

abbrev unreach_read : Family → List ℕ → ℕ → Result ℕ Refusal
unreach_read family a words = decided (unreach_input family a words) (Ok (unreach_count family a)) refused_with

module _ (family : Family) (a : List ℕ) (words : ℕ) (taken : Bool) (is : taken ≡ is_unreach family a) where
  pub unreach-other : not taken ≡ true → Err UntakenAttribute ≡ unreach_read family a words
  unreach-other h = rw (← is, not-true taken h)

  module _ (yes : not taken ≡ false) (counted : Result ℕ Refusal) (counts : counted ≡ count_of (unreach_rules family a)) where
    pub unreach-refused : (refusal : Refusal) → counted ≡ Err refusal → Err refusal ≡ unreach_read family a words
    unreach-refused refusal e =
        rw (← is, not-false taken yes, counted-refused (unreach_rules family a) counted counts refusal e)
        (ap (λ r. Err r) (sym (refusal-with refusal)))

    module _ (count : ℕ) (e : counted ≡ Ok count) where
      pub unreach-short : words < count → Err ShortBuffer ≡ unreach_read family a words
      unreach-short h =
          let all = counted-all (unreach_rules family a) counted counts count e in
          rw (← is, not-false taken yes, all.0, all.1, lt-leb _ _ h)

      pub unreach-read : count ≤ words → Ok count ≡ unreach_read family a words
      unreach-read h =
          let all = counted-all (unreach_rules family a) counted counts count e in
          rw (← is, not-false taken yes, all.0, all.1, le-leb _ _ h)

-- ---- a reach ----

abbrev reach_read : Family → List ℕ → List ℕ → List ℕ → ℕ → Result RulesRead Refusal
reach_read family routes a communities words =
    decided (reach_input family routes a communities words)
    (Ok (rules_read (reach_count family a) (actions_read (actions_of communities)))) refused_with

module _ (family : Family) (routes a communities : List ℕ) (words : ℕ) (sound : Bool) (sound-is : sound ≡ sound_routes family routes) where
  pub reach-unsound : not sound ≡ true → Err UnsoundRoutes ≡ reach_read family routes a communities words
  reach-unsound h = rw (← sound-is, not-true sound h)

  module _ (ok : not sound ≡ false) (taken : Bool) (is : taken ≡ is_reach family a) where
    pub reach-other : not taken ≡ true → Err UntakenAttribute ≡ reach_read family routes a communities words
    reach-other h = rw (← sound-is, not-false sound ok, ← is, not-true taken h)

    module _ (yes : not taken ≡ false) (counted : Result ℕ Refusal) (counts : counted ≡ count_of (reach_rules family a)) where
      pub reach-refused : (refusal : Refusal) → counted ≡ Err refusal → Err refusal ≡ reach_read family routes a communities words
      reach-refused refusal e =
          rw (← sound-is, not-false sound ok, ← is, not-false taken yes, counted-refused (reach_rules family a) counted counts refusal e)
          (ap (λ r. Err r) (sym (refusal-with refusal)))

      module _ (count : ℕ) (e : counted ≡ Ok count) (reading : Option Actions) (reads : reading ≡ actions_of communities) where
        all : ((reach_rules family a).ending ≡ Ok tt) × (reach_count family a ≡ count)
        all = counted-all (reach_rules family a) counted counts count e

        pub reach-actions : reading ≡ None → Err UnsoundActions ≡ reach_read family routes a communities words
        reach-actions h = rw (← sound-is, not-false sound ok, ← is, not-false taken yes, all.0, ← reads, h)

        module _ (actions : Actions) (f : reading ≡ Some actions) where
          pub reach-short : words < count → Err ShortBuffer ≡ reach_read family routes a communities words
          reach-short h = rw (← sound-is, not-false sound ok, ← is, not-false taken yes, all.0, all.1, ← reads, f, lt-leb _ _ h)

          pub reach-read : count ≤ words → Ok (rules_read count actions) ≡ reach_read family routes a communities words
          reach-read h = rw (← sound-is, not-false sound ok, ← is, not-false taken yes, all.0, all.1, ← reads, f, le-leb _ _ h)
