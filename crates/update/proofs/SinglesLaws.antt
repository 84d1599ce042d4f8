-- **The changes that the code makes are those of the single calls**: on a sound table, with input that is read, a task done for each rule of an
-- attribute leaves what the announcements or withdrawals of its rules leave. Assumes nothing.
use mathlib.Core.Path.{◌≡◌, refl, ap}
use mathlib.Core.Bool.{true}
use mathlib.Core.List.{List, [], ◌∷◌}
use Prim.Native.Nat.{ℕ, suc, ◌^◌, ◌<◌}
use lib.ListN.{length}
use Rattle.std.proofs.Common.{Ok, Some}
use Rattle.octets.specs.Test.{Each}
use Rattle.octets.proofs.Facts.{Octets}
use Rattle.rule.specs.declared.Family.{Family}
use Rattle.rule.specs.Value.{check_value}
use Rattle.rule.specs.Reading.{field_size, field_length, value_in}
use Rattle.rule.proofs.ReadingLaws.{one-read}
use Rattle.action.specs.declared.Actions.{Actions}
use Rattle.action.specs.Actions.{actions_of}
use Rattle.action.proofs.PossibleLaws.{read-possible}
use Rattle.route.specs.Route.{sound_routes}
use Rattle.table.specs.Walk.{entries}
use Rattle.table.specs.Sound.{Encodes, sound_table}
use Rattle.table.specs.Change.{outcome_of}
use Rattle.table.proofs.SoundLaws.{sound-encodes, encodes-sound, encodes-entries}
use Rattle.table.proofs.LeaveLaws.{changed-encodes}
use Rattle.request.specs.Input.{Policy}
use Rattle.request.specs.Judging.{read_with_routes}
use Rattle.request.specs.Request.{request_of}
use Rattle.flowspec.specs.Announce.{Outcome, outcome, announcing, withdrawing}
use Rattle.flowspec.proofs.TableLaws.{announced-told, withdrawn-told}
use Rattle.request.proofs.RequestLaws.{octets-value}
use Rattle.attribute.specs.Head.{reach_head, unreach_head}
use Rattle.attribute.specs.Rules.{rules_from}
use Rattle.attribute.proofs.RulesLaws.{ReadAlone, each-alone, each-octets}
use Rattle.update.specs.declared.Task.{Task}
use Rattle.update.specs.declared.Task.TheVariants.{Announce, Withdraw}
use Rattle.update.specs.Singles.{Reach, Singles, each_rule, announcing_one, announcing_each, withdrawing_one, withdrawing_each}
use Rattle.update.specs.Steps.{rule_asks, rule_change, rule_call, tasks_from, TaskCouldBe}
use Rattle.update.proofs.StepLaws.{task-brings}

-- ---- one call for each rule ----

-- a number is listed for each rule
pub each-length : (call : List ℕ → List ℕ → Outcome ℕ) (rules : List (List ℕ)) (t : List ℕ) → length (each_rule call rules t).numbers ≡ length rules
each-length call [] t = refl
each-length call (rule ∷ rules) t = ap suc (each-length call rules (call rule t).table)

-- what holds of the number of every call holds of each that is listed
pub each-listed : (Listed : ℕ → Type 0) (call : List ℕ → List ℕ → Outcome ℕ) → ((rule t : List ℕ) → Listed (call rule t).answer)
    → (rules : List (List ℕ)) (t : List ℕ) → Each Listed (each_rule call rules t).numbers
each-listed Listed call one [] t = tt
each-listed Listed call one (rule ∷ rules) t = (one rule t, each-listed Listed call one rules (call rule t).table)

-- two calls that agree, for such rules, on every such table, where the second leaves such a table again, leave the same
pub each-agrees : (Given Kept : List ℕ → Type 0) (call other : List ℕ → List ℕ → Outcome ℕ)
    → ((rule t : List ℕ) → Given rule → Kept t → call rule t ≡ other rule t)
    → ((rule t : List ℕ) → Given rule → Kept t → Kept (other rule t).table)
    → (rules : List (List ℕ)) (t : List ℕ) → Each Given rules → Kept t → each_rule call rules t ≡ each_rule other rules t
each-agrees Given Kept call other agree keep [] t given kept = refl
each-agrees Given Kept call other agree keep (rule ∷ rules) t given kept =
    rw (agree rule t given.0 kept)
    (ap (λ (rest : Singles). record { numbers = (other rule t).answer ∷ rest.numbers; table = rest.table })
    (each-agrees Given Kept call other agree keep rules (other rule t).table given.1 (keep rule t given.0 kept)))

-- ---- a task for one rule ----

-- a table that is the encoding of its entries
abbrev Coded : Family → List ℕ → Type 0
Coded family t = Encodes family t (entries t)

-- such a table is left again
change-coded : (family : Family) (t : List ℕ) → Coded family t → (routes : List ℕ) (task : Task) (value : List ℕ) → TaskCouldBe task → Octets value
    → check_value family value ≡ Ok tt → Coded family (rule_change family routes task value t).table
change-coded family t coded routes task value could octets ok =
    let left = changed-encodes family t (entries t) coded (rule_asks family routes task value) (task-brings family routes task value could octets ok) in
    rw (encodes-entries family _ _ left) left

-- the task of a reach whose actions are read
abbrev pub reach_task : Policy → Reach → Actions → Task
reach_task policy reach actions = Announce (record { origin = reach.origin; actions = actions }) policy.settings

-- what is done for a rule that is read alone, on a sound table, is what its announcement does
one-announced : (family : Family) (policy : Policy) (reach : Reach) (actions : Actions) → sound_routes family policy.routes ≡ true
    → actions_of reach.communities ≡ Some actions → (rule t : List ℕ) → ReadAlone family rule → sound_table family t ≡ true
    → announcing_one family policy reach rule t ≡ rule_call family policy.routes (reach_task policy reach actions) rule t
unfolding announcing request_of read_with_routes rule_asks
one-announced family policy reach actions routes acts rule t alone sound =
    let done = rule_change family policy.routes (reach_task policy reach actions) (value_in rule) t in
    rw (sound, routes, alone, acts) (ap (λ (n : ℕ). outcome (λ told. n) done) (announced-told actions (outcome_of done.number)))

-- and what its withdrawal does
one-withdrawn : (family : Family) (routes rule t : List ℕ) → ReadAlone family rule → sound_table family t ≡ true
    → withdrawing_one family rule t ≡ rule_call family routes Withdraw rule t
unfolding withdrawing rule_asks
one-withdrawn family routes rule t alone sound =
    let done = rule_change family routes Withdraw (value_in rule) t in
    rw (sound, alone) (ap (λ (n : ℕ). outcome (λ told. n) done) (withdrawn-told (outcome_of done.number)))

-- ---- the rules of an attribute ----

-- a rule of octets that is read when they are lent alone
abbrev Readable : Family → List ℕ → Type 0
Readable family rule = ReadAlone family rule × Octets rule

each-readable : (family : Family) (rules : List (List ℕ)) → Each (ReadAlone family) rules → Each Octets rules → Each (Readable family) rules
each-readable family [] alone octets = tt
each-readable family (rule ∷ rules) alone octets = ((alone.0, octets.0), each-readable family rules alone.1 octets.1)

module _ (family : Family) (t : List ℕ) (sound : sound_table family t ≡ true) where
  -- calls that do what a task does, for each rule
  tasks-are : (call : List ℕ → List ℕ → Outcome ℕ) (routes : List ℕ) (task : Task) → TaskCouldBe task
      → ((rule u : List ℕ) → ReadAlone family rule → sound_table family u ≡ true → call rule u ≡ rule_call family routes task rule u)
      → (attribute : List ℕ) (at : ℕ) → Octets attribute
      → each_rule call (rules_from family attribute at).items t ≡ tasks_from family routes task attribute at t
  tasks-are call routes task could one attribute at o =
      each-agrees (Readable family) (Coded family) call (rule_call family routes task)
      (λ rule u given coded. one rule u given.0 (encodes-sound family u (entries u) coded))
      (λ rule u given coded.
      let octets = octets-value rule (field_size rule) (field_length rule) given.1 in
      let accepted = (one-read family rule (field_size rule) (field_length rule) given.0).accepted in
      change-coded family u coded routes task (value_in rule) could octets accepted)
      (rules_from family attribute at).items t
      (each-readable family (rules_from family attribute at).items (each-alone family attribute at) (each-octets family attribute at o))
      (sound-encodes family t sound)

  -- **the announcements of a reach**
  pub announces-are : (policy : Policy) (reach : Reach) (actions : Actions) → sound_routes family policy.routes ≡ true
      → actions_of reach.communities ≡ Some actions → reach.origin.originator < 2 ^ 32 → Octets reach.attribute
      → announcing_each family policy reach t ≡ tasks_from family policy.routes (reach_task policy reach actions) reach.attribute reach_head t
  announces-are policy reach actions routes acts small o =
      tasks-are (announcing_one family policy reach) policy.routes (reach_task policy reach actions)
      (small, read-possible reach.communities actions acts) (one-announced family policy reach actions routes acts) reach.attribute reach_head o

  -- **the withdrawals of an unreach**
  pub withdraws-are : (routes attribute : List ℕ) → Octets attribute
      → withdrawing_each family attribute t ≡ tasks_from family routes Withdraw attribute unreach_head t
  withdraws-are routes attribute o = tasks-are (withdrawing_one family) routes Withdraw tt (one-withdrawn family routes) attribute unreach_head o
