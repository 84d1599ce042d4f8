-- What each public call promises, for whatever family of addresses (rule/specs/Family.antt has what it decides, `family` here) and
-- whatever octets it is lent: its answer (`is`), the number, place and values of that answer (`tells`), by the list of 01's checks that
-- the call goes through (Checks.antt), what each buffer lent to be changed holds at exit (`leaves`), and that what is lent to be read
-- alone is as it was (`keeps`; `kept` is what those slices hold at exit). `FirstMatches` has no `tells`: its answer is octets, and
-- `begins` says where they stand. No call has a `requires`. That no second result satisfies a promise is shown in
-- theorems/proofs/Unique.antt.
use Rattle.std.specs.Prelude.{ℕ, ◌+◌, ◌≤◌, ◌≡◌, List, [], ◌∷◌, length, IfOk, Result, Option}
use Rattle.std.specs.declared.cmp.Ordering.{Ordering as Order}
use Rattle.rule.specs.declared.Family.{Family}
use Rattle.rule.specs.Reading.{one_rule}
use Rattle.spelling.specs.Writing.{writing, after_writing}
use Rattle.route.specs.declared.Origin.{Origin}
use Rattle.action.specs.Actions.{actions_of}
use Rattle.action.specs.declared.Actions.{Actions}
use Rattle.table.specs.declared.Place.{Place}
use Rattle.lookup.specs.declared.Matched.{Matched}
use Rattle.request.specs.Input.{Announcement, Policy}
use Rattle.flowspec.specs.Announce.{announcing, withdrawing}
use Rattle.flowspec.specs.Look.{looking_up, first_match, match_place}
use Rattle.rule.specs.Value.{between}
use Rattle.rule.specs.declared.Refusal.{Refusal}
use Rattle.rule.specs.declared.Span.{Span}
use Rattle.order.specs.Compare.{compare_rules}
use Rattle.flowspec.specs.Feasibility.{judgement}
use Rattle.flowspec.specs.Told.{done, reading_told, writing_told, comparison_told, feasibility_told, actions_told, announced_told, withdrawn_told, lookup_told, match_place_told}
use Rattle.flowspec.specs.Checks.{told, read_checks, read_values, write_checks, write_values, compare_checks, compare_values, judge_checks, actions_checks, actions_values, announce_checks, announce_values, withdraw_checks, lookup_checks, lookup_values, first_match_values}

-- Reading one rule: refusals 1 to 7, then 15.
pub record ReadsOne (family : Family) (rule : List ℕ) (answer : Result Span Refusal) (kept : List (List ℕ)) : Type 0 where
  pub is : answer ≡ one_rule family rule
  pub tells : reading_told answer ≡ told (read_checks family rule) (done (read_values rule))
  pub keeps : kept ≡ rule ∷ []

-- Writing one rule from a value: refusals 1 to 7, then 16; on success the front of the buffer is filled and the rest kept, and a
-- refusal changes no octet.
pub record WritesOne (family : Family) (value buffer : List ℕ) (answer : Result ℕ Refusal) (exit : List ℕ) (kept : List (List ℕ)) : Type 0 where
  pub is : answer ≡ writing family value (length buffer)
  pub tells : writing_told answer ≡ told (write_checks family value buffer) (done (write_values family value))
  pub leaves : exit ≡ after_writing family value buffer
  pub keeps : kept ≡ value ∷ []

-- Comparing two rules: refusals 1 to 7 and 15 of the first, then of the second.
pub record ComparesTwo (family : Family) (first second : List ℕ) (answer : Result Order Refusal) (kept : List (List ℕ)) : Type 0 where
  pub is : answer ≡ compare_rules family first second
  pub tells : comparison_told answer ≡ told (compare_checks family first second) (done (compare_values family first second))
  pub keeps : kept ≡ first ∷ second ∷ []

-- Judging one rule: refusals 9, 1 to 7, 15, 8.
pub record JudgesOne (family : Family) (policy : Policy) (rule : List ℕ) (origin : Origin)
    (answer : Result Unit Refusal) (kept : List (List ℕ)) : Type 0 where
  pub is : answer ≡ judgement family policy rule origin
  pub tells : feasibility_told answer ≡ told (judge_checks family policy rule origin) (done [])
  pub keeps : kept ≡ policy.routes ∷ rule ∷ []

-- Reading actions: refusal 13.
pub record ReadsActions (communities : List ℕ) (answer : Option Actions) (kept : List (List ℕ)) : Type 0 where
  pub is : answer ≡ actions_of communities
  pub tells : actions_told answer ≡ told (actions_checks communities) (done (actions_values communities))
  pub keeps : kept ≡ communities ∷ []

-- Announcing: refusals 10, 9, 1 to 7, 15, 13, 8, 11. The table at exit is the outcome's: changed where done and, at 8, where the rule was
-- held; every other refusal changes no octet.
pub record Announces (family : Family) (policy : Policy) (announcement : Announcement) (table : List ℕ)
    (answer : Result ℕ Refusal) (exit : List ℕ) (kept : List (List ℕ)) : Type 0 where
  pub is : answer ≡ (announcing family policy announcement table).answer
  pub tells : announced_told answer ≡ told (announce_checks family policy announcement table) (done (announce_values announcement))
  pub leaves : exit ≡ (announcing family policy announcement table).table
  pub keeps : kept ≡ policy.routes ∷ announcement.rule ∷ announcement.communities ∷ []

-- Withdrawing: refusals 10, 1 to 7, 15, 14, none of which changes an octet.
pub record Withdraws (family : Family) (rule table : List ℕ) (answer : Result Unit Refusal) (exit : List ℕ) (kept : List (List ℕ)) : Type 0 where
  pub is : answer ≡ (withdrawing family rule table).answer
  pub tells : withdrawn_told answer ≡ told (withdraw_checks family rule table) (done [])
  pub leaves : exit ≡ (withdrawing family rule table).table
  pub keeps : kept ≡ rule ∷ []

-- Looking up: refusals 10, 12.
pub record LooksUp (family : Family) (table packet : List ℕ) (answer : Result (Option Matched) Refusal) (kept : List (List ℕ)) : Type 0 where
  pub is : answer ≡ looking_up family table packet
  pub tells : lookup_told answer ≡ told (lookup_checks family table packet) (done (lookup_values family table packet))
  pub keeps : kept ≡ table ∷ packet ∷ []

-- The first match's place, refusals 10, 12: a part of the table, 0 and 0 where nothing matches.
pub record LocatesFirst (family : Family) (table packet : List ℕ) (answer : Result Place Refusal) (kept : List (List ℕ)) : Type 0 where
  pub is : answer ≡ match_place family table packet
  pub tells : match_place_told answer ≡ told (lookup_checks family table packet) (done (first_match_values family table packet))
  pub ordered : IfOk answer (λ place. place.start ≤ place.end)
  pub inside : IfOk answer (λ place. place.end ≤ length table)
  pub keeps : kept ≡ table ∷ packet ∷ []

-- The first match's record: the table's octets at its place, and none where nothing matches or the lookup is refused. `lent` and `stands`
-- are where the table and the part stand in memory, a block and a place in it: the part begins in the table, at its place there.
pub record FirstMatches (family : Family) (table packet : List ℕ) (lent : ℕ × ℕ) (part : List ℕ) (stands : ℕ × ℕ)
    (kept : List (List ℕ)) : Type 0 where
  pub is : part ≡ between table (first_match family table packet).start (first_match family table packet).end
  pub begins : stands ≡ (lent.0, (first_match family table packet).start + lent.1)
  pub keeps : kept ≡ table ∷ packet ∷ []
