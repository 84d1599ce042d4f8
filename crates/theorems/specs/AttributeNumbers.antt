-- 01's table of refusals, "given exactly when", for the two calls with whole attributes: where an answer has each number, and where it has
-- the number 0; and which numbers there are, of an answer and of a rule. That the answers of the calls are such is shown in
-- proofs/AttributeNumbers.antt, and that the numbers of the rules are in proofs/Listed.antt, from their promises.
use Rattle.std.specs.Prelude.{ℕ, ◌<◌, ◌≤◌, ◌≡◌, List, ◌↔◌, ◌⊎◌, length}
use Rattle.rule.specs.declared.Family.{Family}
use Rattle.route.specs.Route.{sound_routes}
use Rattle.action.specs.Actions.{actions_of}
use Rattle.table.specs.Sound.{sound_table}
use Rattle.request.specs.Input.{Policy}
use Rattle.flowspec.specs.Told.{Told}
use Rattle.flowspec.specs.Checks.{AllHold, is_sound}
use Rattle.theorems.specs.Numbers.{Yes, No, OneToSeven, SoundBoth}
use Rattle.attribute.specs.Head.{reach_head, unreach_head, is_reach, is_unreach}
use Rattle.attribute.specs.Refusals.{RulesRefused, RulesAccepted}
use Rattle.update.specs.Singles.{Reach}
use Rattle.update.specs.Checks.{reach_count, unreach_count, reach_checks, unreach_checks}

-- A reach whose head is taken and whose rules are all accepted, and the rest holds.
abbrev pub ReadReach : Family → List ℕ → Type 0 → Type 0
ReadReach family attribute then = Yes (is_reach family attribute) × (RulesAccepted family attribute reach_head × then)

-- An unreach whose head is taken and whose rules are all accepted, and the rest holds.
abbrev pub ReadUnreach : Family → List ℕ → Type 0 → Type 0
ReadUnreach family attribute then = Yes (is_unreach family attribute) × (RulesAccepted family attribute unreach_head × then)

-- The numbers that a reach is answered with: never 15, and never 8 or 11, which are numbers of its rules.
abbrev pub ReachNumber : ℕ → Type 0
ReachNumber n = (n ≤ 7) ⊎ ((n ≡ 9) ⊎ ((n ≡ 10) ⊎ ((n ≡ 13) ⊎ ((n ≡ 16) ⊎ (n ≡ 19)))))

-- The numbers that an unreach is answered with: never 15, and never 14, which is a number of its rules.
abbrev pub UnreachNumber : ℕ → Type 0
UnreachNumber n = (n ≤ 7) ⊎ ((n ≡ 10) ⊎ ((n ≡ 16) ⊎ (n ≡ 19)))

-- The number of a rule that a reach announces: done, infeasible, or no room.
abbrev pub AnnouncedNumber : ℕ → Type 0
AnnouncedNumber n = (n ≡ 0) ⊎ ((n ≡ 8) ⊎ (n ≡ 11))

-- The number of a rule that an unreach withdraws: done, or not held.
abbrev pub WithdrawnNumber : ℕ → Type 0
WithdrawnNumber n = (n ≡ 0) ⊎ (n ≡ 14)

-- Announcing the rules of a reach.
pub record ReachNumbers (family : Family) (policy : Policy) (reach : Reach) (table answers : List ℕ) (answer : Told) : Type 0 where
  pub ten : (answer.number ≡ 10) ↔ No (sound_table family table)
  pub nine : (answer.number ≡ 9) ↔ (Yes (sound_table family table) × No (sound_routes family policy.routes))
  pub nineteen : (answer.number ≡ 19) ↔ SoundBoth family policy table (No (is_reach family reach.attribute))
  pub one-to-seven : OneToSeven answer (λ number place. SoundBoth family policy table
      (Yes (is_reach family reach.attribute) × RulesRefused family reach.attribute reach_head number place))
  pub thirteen : (answer.number ≡ 13)
      ↔ SoundBoth family policy table (ReadReach family reach.attribute (No (is_sound (actions_of reach.communities))))
  pub sixteen : (answer.number ≡ 16)
      ↔ SoundBoth family policy table (ReadReach family reach.attribute (Yes (is_sound (actions_of reach.communities))
      × (length answers < reach_count family reach.attribute)))
  pub zero : (answer.number ≡ 0) ↔ AllHold (reach_checks family policy reach table answers)
  pub only : ReachNumber answer.number

-- Withdrawing the rules of an unreach.
pub record UnreachNumbers (family : Family) (attribute table answers : List ℕ) (answer : Told) : Type 0 where
  pub ten : (answer.number ≡ 10) ↔ No (sound_table family table)
  pub nineteen : (answer.number ≡ 19) ↔ (Yes (sound_table family table) × No (is_unreach family attribute))
  pub one-to-seven : OneToSeven answer (λ number place. Yes (sound_table family table)
      × (Yes (is_unreach family attribute) × RulesRefused family attribute unreach_head number place))
  pub sixteen : (answer.number ≡ 16)
      ↔ (Yes (sound_table family table) × ReadUnreach family attribute (length answers < unreach_count family attribute))
  pub zero : (answer.number ≡ 0) ↔ AllHold (unreach_checks family attribute table answers)
  pub only : UnreachNumber answer.number
