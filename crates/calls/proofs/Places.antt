-- Every refusal of a call carries a place that is at most 4,095. Assumes nothing.
use mathlib.Core.Path.{◌≡◌, refl, subst}
use mathlib.Core.Bool.{Bool, true, false}
use mathlib.Core.List.{List}
use Prim.Native.Nat.{ℕ}
use lib.Dec.{leb}
use lib.ListN.{length}
use Rattle.octets.proofs.Cases.{by-test, apart}
use Rattle.sorted.specs.Table.{lookup, insert}
use Rattle.sorted.specs.History.{Op, refuse, announce, withdraw, costs, is_held}
use Rattle.rule.specs.declared.Family.{Family}
use Rattle.rule.specs.declared.Refusal.{Refusal}
use Rattle.rule.specs.declared.Refusal.TheVariants.{Infeasible, UnsoundRoutes, UnsoundTable, NoRoom, UnusablePacket, UnsoundActions, NotHeld}
use Rattle.rule.specs.declared.Span.{Span}
use Rattle.spelling.specs.Plain.{plain}
use Rattle.rule.specs.Reading.{value_of, one_rule}
use Rattle.rule.proofs.Near.{Near, placeless}
use Rattle.rule.proofs.ReadingLaws.{SaysRule, one-says}
use Rattle.order.specs.Key.{RuleKey, keys_of, key_order}
use Rattle.route.specs.declared.Origin.{Origin}
use Rattle.route.specs.Route.{sound_routes}
use Rattle.action.specs.declared.Actions.{Actions}
use Rattle.action.specs.Actions.{actions_of}
use Rattle.packet.specs.declared.Packet.{Packet}
use Rattle.packet.specs.Packet.{packet_of}
use Rattle.entry.specs.Entry.{Entry, entry_key}
use Rattle.table.specs.declared.Place.{Place}
use Rattle.table.specs.Walk.{entries}
use Rattle.table.specs.Sound.{cost, sound_table}
use Rattle.table.specs.Change.{outcome_of, changed}
use Rattle.order.specs.Compare.{compare_read, compare_rules}
use Rattle.request.specs.declared.Request.{Request}
use Rattle.request.specs.Input.{Announcement, Policy}
use Rattle.request.specs.Judging.{read_with_routes, is_feasible}
use Rattle.request.specs.Request.{announced_entry, request_for, request_of}
use Rattle.flowspec.specs.Feasibility.{feasibility_of, judge_read, judgement}
use Rattle.flowspec.specs.Announce.{announced_of, announced_by, announcing, withdrawn_by, withdrawing}
use Rattle.lookup.specs.declared.Matched.{Matched}
use Rattle.lookup.specs.Opening.{opening_of, opening}
use Rattle.flowspec.specs.Look.{looked_up, looking_up, placed, match_place}
use Rattle.std.specs.declared.cmp.Ordering.{Ordering as Order}
use Rattle.std.proofs.Common.{Result, Ok, Err, Option, Some, None}

-- ---- comparing ----

abbrev Compares : Result Order Refusal → Type 0
Compares (Err refusal) = Near refusal
Compares (Ok order) = Unit {0}

pub not-compared : (family : Family) (a b : List ℕ) (refusal : Refusal) → compare_rules family a b ≡ Err refusal → Near refusal
unfolding compare_rules
not-compared family a b refusal e = subst Compares e (go (one_rule family a) (one_rule family b) (one-says family a) (one-says family b))
  where
    go : (r q : Result Span Refusal) → SaysRule family a r → SaysRule family b q → Compares (compare_read family a r b q)
    go (Err refusal) q h k = h
    go (Ok first) (Err refusal) h k = k
    go (Ok first) (Ok second) h k = tt

-- ---- judging ----

-- an outcome is done, or its refusal is near
abbrev Ends : Result Unit Refusal → Type 0
Ends (Err refusal) = Near refusal
Ends (Ok _) = Unit {0}

-- a reading once the routes are found sound
abbrev Reads : Result Span Refusal → Type 0
Reads (Err refusal) = Near refusal
Reads (Ok read) = Unit {0}

with-says : (family : Family) (words rule : List ℕ) → Reads (read_with_routes family words rule)
unfolding read_with_routes
with-says family words rule =
    by-test (sound_routes family words) (λ t. rw t (go (one_rule family rule) (one-says family rule))) (λ t. rw t (placeless UnsoundRoutes refl))
  where
    go : (r : Result Span Refusal) → SaysRule family rule r → Reads r
    go (Err refusal) h = h
    go (Ok read) h = tt

pub not-feasible : (family : Family) (policy : Policy) (rule : List ℕ) (origin : Origin) (refusal : Refusal) → judgement family policy rule origin ≡ Err refusal
    → Near refusal
unfolding judgement
not-feasible family policy rule origin refusal e = subst Ends e (go (read_with_routes family policy.routes rule) (with-says family policy.routes rule))
  where
    verdict : (b : Bool) → Ends (feasibility_of b)
    verdict true = tt
    verdict false = placeless Infeasible refl

    go : (r : Result Span Refusal) → Reads r → Ends (judge_read family policy rule origin r)
    go (Err refusal) h = h
    go (Ok read) h = verdict (is_feasible family policy (value_of rule read.start read.size) origin)

-- ---- announcing and withdrawing ----

abbrev Announces : Result ℕ Refusal → Type 0
Announces (Err refusal) = Near refusal
Announces (Ok notes) = Unit {0}

-- a change of an applied call is done, or its refusal is near
changed-near : (family : Family) (t : List ℕ) (op : Op RuleKey Entry) → ((number : ℕ) → op ≡ refuse number → ⊥) → Ends (outcome_of (changed family t op).number)
unfolding changed
changed-near family t (refuse number) h = absurd (h number refl)
changed-near family t (announce e true) h =
    by-test (leb (costs cost (insert key_order (entry_key family) e (entries t))) (length t)) (λ r. rw r tt) (λ r. rw r (placeless NoRoom refl))
changed-near family t (announce e false) h = placeless Infeasible refl
changed-near family t (withdraw k) h =
    by-test (is_held (lookup key_order (entry_key family) k (entries t))) (λ r. rw r tt) (λ r. rw r (placeless NotHeld refl))

announces : (actions : Actions) (outcome : Result Unit Refusal) → Ends outcome → Announces (announced_of actions outcome)
announces actions (Err refusal) h = h
announces actions (Ok _) h = tt

abbrev Asks : Result Request Refusal → Type 0
Asks (Err refusal) = Near refusal
Asks (Ok asked) = Unit {0}

module _ (family : Family) (policy : Policy) (a : Announcement) where
  asks : Asks (request_of family policy a)
  unfolding request_of
  asks = go (read_with_routes family policy.routes a.rule) (with-says family policy.routes a.rule) (actions_of a.communities)
    where
      go : (r : Result Span Refusal) → Reads r → (acts : Option Actions) → Asks (request_for family policy a r acts)
      go (Err refusal) h acts = h
      go (Ok read) h None = placeless UnsoundActions refl
      go (Ok read) h (Some actions) = tt

  pub not-announced : (t : List ℕ) (refusal : Refusal) → (announcing family policy a t).answer ≡ Err refusal → Near refusal
  unfolding announcing
  not-announced t refusal e =
      subst Announces e
      (by-test (sound_table family t) (λ s. rw s (go (request_of family policy a) asks)) (λ s. rw s (placeless UnsoundTable refl)))
    where
      go : (r : Result Request Refusal) → Asks r → Announces (announced_by family a t r).answer
      go (Err refusal) h = h
      go (Ok asked) h =
          announces asked.actions _ (changed-near family t (announce (announced_entry family a asked.start asked.size asked.actions) asked.feasible) (λ n z. apart (cc)))

pub not-withdrawn : (family : Family) (rule t : List ℕ) (refusal : Refusal) → (withdrawing family rule t).answer ≡ Err refusal → Near refusal
unfolding withdrawing
not-withdrawn family rule t refusal e =
    subst Ends e
    (by-test (sound_table family t) (λ s. rw s (go (one_rule family rule) (one-says family rule))) (λ s. rw s (placeless UnsoundTable refl)))
  where
    go : (r : Result Span Refusal) → SaysRule family rule r → Ends (withdrawn_by family t rule r).answer
    go (Err refusal) h = h
    go (Ok read) h =
        changed-near family t (withdraw (keys_of family (plain family (value_of rule read.start read.size)))) (λ n z. apart (cc))

-- ---- looking up ----

-- an opening shows a packet, or its refusal is near
abbrev Opens : Result Packet Refusal → Type 0
Opens (Err refusal) = Near refusal
Opens (Ok packet) = Unit {0}

abbrev Looks : Result (Option Matched) Refusal → Type 0
Looks (Err refusal) = Near refusal
Looks (Ok verdict) = Unit {0}

abbrev Locates : Result Place Refusal → Type 0
Locates (Err refusal) = Near refusal
Locates (Ok place) = Unit {0}

module _ (family : Family) (t octets : List ℕ) where
  opens : Opens (opening family t octets)
  unfolding opening
  opens = by-test (sound_table family t) (λ s. rw s (go (packet_of family octets))) (λ s. rw s (placeless UnsoundTable refl))
    where
      go : (s : Option Packet) → Opens (opening_of s)
      go None = placeless UnusablePacket refl
      go (Some packet) = tt

  pub not-looked-up : (refusal : Refusal) → looking_up family t octets ≡ Err refusal → Near refusal
  unfolding looking_up
  not-looked-up refusal e = subst Looks e (go (opening family t octets) opens)
    where
      go : (o : Result Packet Refusal) → Opens o → Looks (looked_up family t o)
      go (Err refusal) h = h
      go (Ok packet) h = tt

  pub not-located : (refusal : Refusal) → match_place family t octets ≡ Err refusal → Near refusal
  unfolding match_place
  not-located refusal e = subst Locates e (go (opening family t octets) opens)
    where
      go : (o : Result Packet Refusal) → Opens o → Locates (placed family t o)
      go (Err refusal) h = h
      go (Ok packet) h = tt
