-- The two calls: what comes of their checks, what their answers say, and the promises, one law for each way in which the code comes to an
-- answer. Assumes nothing.
use mathlib.Core.Path.{◌≡◌, refl, sym, ap, ◌∙◌}
use mathlib.Core.Bool.{true, false}
use mathlib.Core.List.{List, [], ◌∷◌}
use mathlib.Core.Logic.{◌↔◌}
use Prim.Native.Nat.{ℕ, ◌^◌, ◌<◌}
use lib.ListN.{length}
use borrow.Author.Tests.{leb-true}
use Rattle.std.proofs.Common.{Result, Ok, Err, Option, Some, None}
use Rattle.octets.specs.Test.{Each}
use Rattle.octets.proofs.Cases.{by-test, apart}
use Rattle.octets.proofs.Facts.{Octets}
use Rattle.rule.specs.declared.Family.{Family}
use Rattle.rule.specs.Family.{Fits}
use Rattle.rule.specs.declared.Refusal.{Refusal}
use Rattle.rule.specs.Refusal.{refusal_with, refused_with}
use Rattle.rule.proofs.Near.{refusal-with}
use Rattle.action.specs.declared.Actions.{Actions}
use Rattle.action.specs.Actions.{actions_of, notes_of}
use Rattle.action.proofs.PossibleLaws.{read-possible}
use Rattle.table.specs.Sound.{soundness}
use Rattle.table.proofs.LeaveLaws.{was-sound, was-ready, was-unsound}
use Rattle.request.specs.Input.{Policy}
use Rattle.flowspec.specs.Told.{Told, done, refused, refusal_told}
use Rattle.flowspec.specs.Checks.{Check, one_to_seven, AllHold, told, is_sound, actions_read}
use Rattle.attribute.specs.Head.{reach_head, unreach_head}
use Rattle.attribute.specs.Rules.{reach_rules, unreach_rules}
use Rattle.update.specs.declared.Task.TheVariants.{Withdraw}
use Rattle.update.specs.Singles.{Reach, Singles, announcing_one, announcing_each, withdrawing_one, withdrawing_each}
use Rattle.update.specs.Checks.{reach_count, reach_notes, reach_values, unreach_count, reach_input, unreach_input, reach_checks, unreach_checks, rules_read}
use Rattle.update.specs.Apply.{decided, Left, applied_all, refused_whole, reaching, unreaching, reached_told, unreached_told, reached}
use Rattle.update.specs.Promise.{Reaches, Unreaches}
use Rattle.update.specs.Steps.{tasks_from, Prepared, LeavesAll}
use Rattle.update.proofs.SinglesLaws.{each-length, reach_task, announces-are, withdraws-are}
use Rattle.update.specs.declared.RulesRead.{RulesRead}
use Rattle.update.specs.declared.Reached.{Reached}

-- ---- what comes of checks ----

-- something is made of what comes of checks
pub decided-of : {A B : Type 0} (of : A → B) (cs : List Check) (granted : A) (refuse : ℕ → ℕ → A)
    → of (decided cs granted refuse) ≡ decided cs (of granted) (λ number place. of (refuse number place))
decided-of of [] granted refuse = refl
decided-of of (c ∷ cs) granted refuse = by-test c.holds (λ h. rw h (decided-of of cs granted refuse)) (λ h. rw h)

-- the same of an answer that was found
found_of : {A B : Type 0} (of : A → B) (cs : List Check) (granted : A) (refuse : ℕ → ℕ → A) (answer found : A) → answer ≡ decided cs granted refuse
    → answer ≡ found → decided cs (of granted) (λ number place. of (refuse number place)) ≡ of found
found_of of cs granted refuse answer found is e = sym (decided-of of cs granted refuse) ∙ ap of (sym is ∙ e)

-- what is told of checks comes of them
pub told_of : (cs : List Check) (grant : Told) → decided cs grant (λ number place. refused number place (length grant.values)) ≡ told cs grant
told_of [] grant = refl
told_of (c ∷ cs) grant = by-test c.holds (λ h. rw h (told_of cs grant)) (λ h. rw h)

-- what holds of what is granted, where all checks hold, and of each check's own refusal, where it does not, holds of what comes of checks
pub decided-ind : {A : Type 0} (P : A → Type 0) (cs : List Check) (granted : A) (refuse : ℕ → ℕ → A) → (AllHold cs → P granted)
    → Each (λ c. c.holds ≡ false → P (refuse c.number c.place)) cs → P (decided cs granted refuse)
decided-ind P [] granted refuse g r = g tt
decided-ind P (c ∷ cs) granted refuse g r =
    by-test c.holds (λ h. rw h (decided-ind P cs granted refuse (λ rest. g (h, rest)) r.1)) (λ h. rw h (r.0 h))

-- the same where every refusal will do
pub decided-either : {A : Type 0} (P : A → Type 0) (cs : List Check) (granted : A) (refuse : ℕ → ℕ → A) → (AllHold cs → P granted)
    → ((number place : ℕ) → P (refuse number place)) → P (decided cs granted refuse)
decided-either P cs granted refuse g r = decided-ind P cs granted refuse g (each cs)
  where
    each : (rest : List Check) → Each (λ c. c.holds ≡ false → P (refuse c.number c.place)) rest
    each [] = tt
    each (c ∷ rest) = (λ h. r c.number c.place, each rest)

-- an answer that is no refusal is what is granted, and all checks hold
pub was_granted : {A : Type 0} (cs : List Check) (granted : A) (refuse : ℕ → ℕ → A) (answer : A) → answer ≡ decided cs granted refuse
    → ((number place : ℕ) → answer ≡ refuse number place → ⊥) → AllHold cs × (answer ≡ granted)
was_granted cs granted refuse answer is never =
    decided-either (λ came. answer ≡ came → AllHold cs × (answer ≡ granted)) cs granted refuse (λ hold e. (hold, e))
    (λ number place e. absurd (never number place e)) is

-- **what an answer says** is what its checks come to, where it says of each check's refusal what that check names
decided-tells : {A : Type 0} (tells : A → Told) (cs : List Check) (granted : A) (refuse : ℕ → ℕ → A) (grant : Told) → tells granted ≡ grant
    → Each (λ c. c.holds ≡ false → tells (refuse c.number c.place) ≡ refused c.number c.place (length grant.values)) cs
    → tells (decided cs granted refuse) ≡ told cs grant
decided-tells tells [] granted refuse grant g r = g
decided-tells tells (c ∷ cs) granted refuse grant g r =
    by-test c.holds (λ h. rw h (decided-tells tells cs granted refuse grant g r.1)) (λ h. rw h (r.0 h))

-- the refusal of a value is told as its check names it
value-tells : (c : Result Unit Refusal) (many : ℕ) → (one_to_seven c).holds ≡ false
    → refusal_told (refusal_with (one_to_seven c).number (one_to_seven c).place) many
    ≡ refused (one_to_seven c).number (one_to_seven c).place many
value-tells (Ok _) many h = apart (cc)
value-tells (Err refusal) many h = ap (λ r. refusal_told r many) (refusal-with refusal)

-- the check of a value holds where it is accepted
pub accepted-holds : (c : Result Unit Refusal) → ((one_to_seven c).holds ≡ true) ↔ (c ≡ Ok tt)
accepted-holds (Ok _) = ((λ e. refl), (λ e. refl))
accepted-holds (Err refusal) = ((λ e. apart (cc)), (λ e. apart (cc)))

-- communities are read where that check holds
pub were-read : (a : Option Actions) → is_sound a ≡ true → a ≡ Some (actions_read a)
were-read (Some actions) h = refl
were-read None h = apart (cc)

-- ---- a reach ----

-- a number is listed for each rule
pub reach-count : (family : Family) (policy : Policy) (reach : Reach) (t : List ℕ)
    → length (announcing_each family policy reach t).numbers ≡ reach_count family reach.attribute
reach-count family policy reach t =
    each-length (announcing_one family policy reach) (reach_rules family reach.attribute).items t

module _ (family : Family) (policy : Policy) (reach : Reach) (t answers : List ℕ) where
  pub reach-tells : reached_told (reaching family policy reach t answers).answer
      ≡ told (reach_checks family policy reach t answers) (done (reach_values family reach))
  unfolding reaching
  reach-tells =
      decided-tells (λ (left : Left (Result Reached Refusal)). reached_told left.answer) (reach_checks family policy reach t answers)
      (applied_all (λ count. Ok (reached count (reach_notes reach))) (announcing_each family policy reach t) answers)
      (refused_whole t answers) (done (reach_values family reach)) (rw (reach-count family policy reach t))
      (λ h. refl, (λ h. refl, (λ h. refl, (value-tells (reach_rules family reach.attribute).ending 2, (λ h. refl, (λ h. refl, tt))))))

  -- a promise from the equation for what is left
  reach-kept : (left : Left (Result Reached Refusal)) (answer : Result Reached Refusal) (exit words : List ℕ)
      → reaching family policy reach t answers ≡ left → answer ≡ left.answer
      → exit ≡ left.table → words ≡ left.words
      → Reaches family policy reach t answers answer exit words (policy.routes ∷ reach.attribute ∷ reach.communities ∷ [])
  reach-kept left answer exit words e a x w =
      let q : answer ≡ (reaching family policy reach t answers).answer = rw e a in
      record { is = q; tells = ap reached_told q ∙ reach-tells; leaves = rw e x; lists = rw e w; keeps = refl }

-- what a reach is given, beside the table, and what is read where all of it holds
abbrev pub reach_given : Family → Policy → Reach → List ℕ → List Check
reach_given family policy reach answers = reach_input family policy.routes reach.attribute reach.communities (length answers)

abbrev pub reach_read : Family → Reach → Result RulesRead Refusal
reach_read family reach = Ok (rules_read (reach_count family reach.attribute) (actions_read (actions_of reach.communities)))

-- two readings that are the same read the same
same-read : (one other : RulesRead) → ◌≡◌ {A = Result RulesRead Refusal} (Ok one) (Ok other) → one ≡ other
same-read one other e = cc

-- what a reach that is read leaves
abbrev left_by : Singles → List ℕ → List ℕ → Result RulesRead Refusal → Left (Result Reached Refusal)
left_by singles t answers (Ok read) = applied_all (λ n. Ok (reached n (notes_of read.actions))) singles answers
left_by singles t answers (Err refusal) = record { answer = Err refusal; table = t; words = answers }

module _ (family chosen : Family) (chose : chosen ≡ family) (policy : Policy) (reach : Reach) (t answers : List ℕ) (s : Result ℕ Refusal)
    (is : s ≡ soundness chosen t) where
  pub reach-unsound : (refusal : Refusal) → s ≡ Err refusal → (answer : Result Reached Refusal) → answer ≡ Err refusal
      → Reaches family policy reach t answers answer t answers (policy.routes ∷ reach.attribute ∷ reach.communities ∷ [])
  unfolding reaching
  reach-unsound refusal e answer h =
      let u = was-unsound chosen t s is refusal e in
      rw (← chose)
      (reach-kept chosen policy reach t answers (refused_whole t answers 10 0) answer t answers (rw u.0)
      (h ∙ ap (λ r. Err r) u.1) refl refl)

  module _ (used : ℕ) (e : s ≡ Ok used) (given : Result RulesRead Refusal)
      (read : given ≡ decided (reach_given chosen policy reach answers) (reach_read chosen reach) refused_with) where
    reach-leaves : (found : Result RulesRead Refusal) → given ≡ found
        → reaching chosen policy reach t answers ≡ left_by (announcing_each chosen policy reach t) t answers found
    unfolding reaching
    reach-leaves found f =
        rw (was-sound chosen t s is used e).0
        (found_of (left_by (announcing_each chosen policy reach t) t answers) (reach_given chosen policy reach answers)
        (reach_read chosen reach)
        refused_with given found read f)

    pub reach-refused : (refusal : Refusal) → given ≡ Err refusal → (answer : Result Reached Refusal) → answer ≡ Err refusal
        → Reaches family policy reach t answers answer t answers (policy.routes ∷ reach.attribute ∷ reach.communities ∷ [])
    reach-refused refusal f answer h =
        rw (← chose)
        (reach-kept chosen policy reach t answers (left_by (announcing_each chosen policy reach t) t answers (Err refusal)) answer t answers
        (reach-leaves (Err refusal) f) h refl refl)

    module _ (count : ℕ) (actions : Actions) (f : given ≡ Ok (rules_read count actions)) where
      granted : AllHold (reach_given chosen policy reach answers) × (given ≡ reach_read chosen reach)
      granted =
          was_granted (reach_given chosen policy reach answers) (reach_read chosen reach) refused_with given read
          (λ number place g. let z : Ok (rules_read count actions) ≡ Err (refusal_with number place) = sym f ∙ g in apart (cc))

      same : rules_read count actions ≡ rules_read (reach_count chosen reach.attribute) (actions_read (actions_of reach.communities))
      same = same-read _ _ (sym f ∙ granted.1)

      counts : count ≡ reach_count chosen reach.attribute
      counts = ap (λ (read : RulesRead). read.count) same

      acts : actions_of reach.communities ≡ Some actions
      acts = were-read (actions_of reach.communities) granted.0.1.1.1.0 ∙ ap (λ (read : RulesRead). Some read.actions) (sym same)

      pub reach-prepared : Fits chosen → reach.origin.originator < 2 ^ 32
          → Prepared family (reach_task policy reach actions) reach.attribute reach_head t used (length answers)
      reach-prepared fits small =
          rw (← chose) (record {
            ready = was-ready chosen t s is fits used e;
            could = (small, read-possible reach.communities actions acts);
            accepted = (accepted-holds (reach_rules chosen reach.attribute).ending).0 granted.0.1.1.0;
            enough = leb-true (reach_count chosen reach.attribute) (length answers) granted.0.1.1.1.1.0;
          })

      pub reach-done : Octets reach.attribute → reach.origin.originator < 2 ^ 32 → (exit words : List ℕ) (notes : ℕ) → notes ≡ notes_of actions
          → LeavesAll (tasks_from family policy.routes (reach_task policy reach actions) reach.attribute reach_head t) answers exit words
          → Reaches family policy reach t answers (Ok (reached count notes)) exit words (policy.routes ∷ reach.attribute ∷ reach.communities ∷ [])
      reach-done o small exit words notes n h =
          let same = announces-are chosen t (was-sound chosen t s is used e).0 policy reach actions granted.0.0 acts small o in
          let k = rw (← chose, ← same) at h in
          rw (← chose)
          (reach-kept chosen policy reach t answers
          (applied_all (λ m. Ok (reached m (notes_of actions))) (announcing_each chosen policy reach t) answers) (Ok (reached count notes))
          exit words (reach-leaves (Ok (rules_read count actions)) f)
          (λ i. Ok (reached ((counts ∙ sym (reach-count chosen policy reach t)) i) (n i))) k.leaves k.lists)

-- ---- an unreach ----

-- a number is listed for each rule
pub unreach-count : (family : Family) (attribute t : List ℕ) → length (withdrawing_each family attribute t).numbers ≡ unreach_count family attribute
unreach-count family attribute t = each-length (withdrawing_one family) (unreach_rules family attribute).items t

module _ (family : Family) (attribute t answers : List ℕ) where
  pub unreach-tells : unreached_told (unreaching family attribute t answers).answer
      ≡ told (unreach_checks family attribute t answers) (done (unreach_count family attribute ∷ []))
  unfolding unreaching
  unreach-tells =
      decided-tells (λ (left : Left (Result ℕ Refusal)). unreached_told left.answer) (unreach_checks family attribute t answers)
      (applied_all (λ count. Ok count) (withdrawing_each family attribute t) answers) (refused_whole t answers)
      (done (unreach_count family attribute ∷ [])) (rw (unreach-count family attribute t))
      (λ h. refl, (λ h. refl, (value-tells (unreach_rules family attribute).ending 1, (λ h. refl, tt))))

  -- a promise from the equation for what is left
  unreach-kept : (left : Left (Result ℕ Refusal)) (answer : Result ℕ Refusal) (exit words : List ℕ)
      → unreaching family attribute t answers ≡ left → answer ≡ left.answer
      → exit ≡ left.table → words ≡ left.words → Unreaches family attribute t answers answer exit words (attribute ∷ [])
  unreach-kept left answer exit words e a x w =
      let q : answer ≡ (unreaching family attribute t answers).answer = rw e a in
      record { is = q; tells = ap unreached_told q ∙ unreach-tells; leaves = rw e x; lists = rw e w; keeps = refl }

-- what an unreach is given, beside the table, and what is read where all of it holds
abbrev pub unreach_given : Family → List ℕ → List ℕ → List Check
unreach_given family attribute answers = unreach_input family attribute (length answers)

abbrev pub unreach_read : Family → List ℕ → Result ℕ Refusal
unreach_read family attribute = Ok (unreach_count family attribute)

-- what an unreach that is read leaves
abbrev left_of : Singles → List ℕ → List ℕ → Result ℕ Refusal → Left (Result ℕ Refusal)
left_of singles t answers (Ok read) = applied_all (λ count. Ok count) singles answers
left_of singles t answers (Err refusal) = record { answer = Err refusal; table = t; words = answers }

module _ (family chosen : Family) (chose : chosen ≡ family) (attribute t answers : List ℕ) (s : Result ℕ Refusal)
    (is : s ≡ soundness chosen t) where
  pub unreach-unsound : (refusal : Refusal) → s ≡ Err refusal → (answer : Result ℕ Refusal) → answer ≡ Err refusal
      → Unreaches family attribute t answers answer t answers (attribute ∷ [])
  unfolding unreaching
  unreach-unsound refusal e answer h =
      let u = was-unsound chosen t s is refusal e in
      rw (← chose)
      (unreach-kept chosen attribute t answers (refused_whole t answers 10 0) answer t answers (rw u.0) (h ∙ ap (λ r. Err r) u.1) refl refl)

  module _ (used : ℕ) (e : s ≡ Ok used) (counted : Result ℕ Refusal)
      (read : counted ≡ decided (unreach_given chosen attribute answers) (unreach_read chosen attribute) refused_with) where
    unreach-leaves : (found : Result ℕ Refusal) → counted ≡ found
        → unreaching chosen attribute t answers ≡ left_of (withdrawing_each chosen attribute t) t answers found
    unfolding unreaching
    unreach-leaves found f =
        rw (was-sound chosen t s is used e).0
        (found_of (left_of (withdrawing_each chosen attribute t) t answers) (unreach_given chosen attribute answers)
        (unreach_read chosen attribute)
        refused_with counted found read f)

    pub unreach-refused : (refusal : Refusal) → counted ≡ Err refusal → (answer : Result ℕ Refusal) → answer ≡ Err refusal
        → Unreaches family attribute t answers answer t answers (attribute ∷ [])
    unreach-refused refusal f answer h =
        rw (← chose)
        (unreach-kept chosen attribute t answers (left_of (withdrawing_each chosen attribute t) t answers (Err refusal)) answer t answers
        (unreach-leaves (Err refusal) f) h refl refl)

    module _ (count : ℕ) (f : counted ≡ Ok count) where
      passed : AllHold (unreach_given chosen attribute answers) × (counted ≡ unreach_read chosen attribute)
      passed =
          was_granted (unreach_given chosen attribute answers) (unreach_read chosen attribute) refused_with counted read
          (λ number place g. let z : Ok count ≡ Err (refusal_with number place) = sym f ∙ g in apart (cc))

      pub unreach-prepared : Fits chosen → Prepared family Withdraw attribute unreach_head t used (length answers)
      unreach-prepared fits =
          rw (← chose) (record {
            ready = was-ready chosen t s is fits used e;
            could = tt;
            accepted = (accepted-holds (unreach_rules chosen attribute).ending).0 passed.0.1.0;
            enough = leb-true (unreach_count chosen attribute) (length answers) passed.0.1.1.0;
          })

      pub unreach-done : Octets attribute → (routes exit words : List ℕ)
          → LeavesAll (tasks_from family routes Withdraw attribute unreach_head t) answers exit words
          → Unreaches family attribute t answers (Ok count) exit words (attribute ∷ [])
      unreach-done o routes exit words h =
          let z = sym f ∙ passed.1 in
          let counts : count ≡ unreach_count chosen attribute = cc in
          let same = withdraws-are chosen t (was-sound chosen t s is used e).0 routes attribute o in
          let k = rw (← chose, ← same) at h in
          rw (← chose)
          (unreach-kept chosen attribute t answers (applied_all (λ n. Ok n) (withdrawing_each chosen attribute t) answers) (Ok count)
          exit words
          (unreach-leaves (Ok count) f) (ap (λ n. Ok n) (counts ∙ sym (unreach-count chosen attribute t))) k.leaves k.lists)
