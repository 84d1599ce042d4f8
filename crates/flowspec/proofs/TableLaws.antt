-- Announcing, withdrawing and looking up: the promises, one law for each way in which the code comes to an answer. Assumes nothing.
use mathlib.Core.Path.{◌≡◌, refl, sym, ap, ◌∙◌}
use mathlib.Core.Bool.{Bool}
use mathlib.Core.List.{List, [], ◌∷◌}
use Prim.Native.Nat.{ℕ, ◌+◌, ◌-◌, ◌≤◌}
use native.Mathlib.Nat.{add-sub_cancel_left}
use lib.ListN.{length, take, drop}
use Rattle.std.proofs.Common.{Result, Ok, Err, Option, IfOk}
use Rattle.octets.proofs.Cases.{apart}
use Rattle.sorted.specs.History.{announce, withdraw}
use Rattle.rule.specs.declared.Family.{Family}
use Rattle.rule.specs.Family.{Fits}
use Rattle.rule.specs.Value.{check_value}
use Rattle.rule.specs.Reading.{value_of, one_rule, span}
use Rattle.rule.specs.declared.Refusal.{Refusal}
use Rattle.rule.specs.declared.Refusal.TheVariants.{UnsoundTable}
use Rattle.rule.specs.declared.Span.{Span}
use Rattle.rule.specs.Refusal.{told_number}
use Rattle.rule.proofs.ReadingLaws.{ReadRule, one-read}
use Rattle.spelling.specs.Plain.{plain}
use Rattle.order.specs.Key.{keys_of}
use Rattle.action.specs.declared.Actions.{Actions}
use Rattle.action.specs.Actions.{notes_of}
use Rattle.packet.specs.declared.Packet.{Packet}
use Rattle.entry.specs.Entry.{entry_for}
use Rattle.table.specs.declared.Place.{Place}
use Rattle.table.specs.Walk.{entries}
use Rattle.table.specs.Sound.{soundness}
use Rattle.table.specs.declared.Answer.{Answer}
use Rattle.table.specs.Change.{changed, Ready, Leaves}
use Rattle.table.proofs.LeaveLaws.{was-sound, was-ready, was-unsound}
use Rattle.lookup.specs.Lookup.{hit, verdict_for, first_place}
use Rattle.lookup.specs.Opening.{opening}
use Rattle.lookup.specs.declared.Matched.{Matched}
use Rattle.request.specs.Request.{announced_entry, request_of, request}
use Rattle.request.specs.Input.{Announcement, Policy}
use Rattle.request.specs.declared.Request.{Request}
use Rattle.request.proofs.RequestLaws.{asked-rule}
use Rattle.flowspec.specs.Announce.{Outcome, outcome, unchanged, announced_of, announcing, withdrawing}
use Rattle.flowspec.specs.Look.{no_head, looking_up, first_in, first_match, placed, match_place}
use Rattle.flowspec.specs.Told.{announced_told, withdrawn_told, lookup_told, match_place_told}
use Rattle.flowspec.specs.Promise.{Announces, Withdraws, LooksUp, LocatesFirst}
use Rattle.flowspec.proofs.ToldLaws.{announce-tells, withdraw-tells, lookup-tells, locate-tells}

-- ---- announcing ----

-- how `announced_of` comes to its answers
module _ (actions : Actions) (outcome : Result Unit Refusal) where
  pub announced-held : (u : Unit) (notes : ℕ) → outcome ≡ Ok u → notes ≡ notes_of actions → Ok notes ≡ announced_of actions outcome
  announced-held u notes h n = rw (h, n)

  pub announced-refused : (refusal : Refusal) → outcome ≡ Err refusal → Err refusal ≡ announced_of actions outcome
  announced-refused refusal h = rw h

-- the answer for an outcome tells its number
pub announced-told : (actions : Actions) (outcome : Result Unit Refusal)
    → (announced_told (announced_of actions outcome)).number ≡ told_number outcome
announced-told actions (Ok _) = refl
announced-told actions (Err refusal) = refl

-- a promise from the equation for the outcome
pub announce-kept : (family : Family) (policy : Policy) (a : Announcement) (t : List ℕ) (o : Outcome (Result ℕ Refusal))
    (answer : Result ℕ Refusal) (exit : List ℕ)
    → announcing family policy a t ≡ o → answer ≡ o.answer → exit ≡ o.table
    → Announces family policy a t answer exit (policy.routes ∷ a.rule ∷ a.communities ∷ [])
announce-kept family policy a t o answer exit e h x =
    let q : answer ≡ (announcing family policy a t).answer = rw e h in
    record { is = q; tells = ap announced_told q ∙ announce-tells family policy a t; leaves = rw e x; keeps = refl }

module _ (family chosen : Family) (chose : chosen ≡ family) (policy : Policy) (a : Announcement) (t : List ℕ) (s : Result ℕ Refusal)
    (is : s ≡ soundness chosen t) where
  pub announce-unsound : (refusal : Refusal) → s ≡ Err refusal → (answer : Result ℕ Refusal) → answer ≡ Err refusal
      → Announces family policy a t answer t (policy.routes ∷ a.rule ∷ a.communities ∷ [])
  unfolding announcing
  announce-unsound refusal e answer h =
      let u = was-unsound chosen t s is refusal e in
      rw (← chose) (announce-kept chosen policy a t (unchanged (Err UnsoundTable) t) answer t (rw u.0) (h ∙ ap (λ r. Err r) u.1) refl)

  module _ (used : ℕ) (e : s ≡ Ok used) (reply : Result Request Refusal) (asks : reply ≡ request_of family policy a) where
    asks-so : reply ≡ request_of chosen policy a
    asks-so = rw chose asks

    pub announce-refused : (refusal : Refusal) → reply ≡ Err refusal → (answer : Result ℕ Refusal) → answer ≡ Err refusal
        → Announces family policy a t answer t (policy.routes ∷ a.rule ∷ a.communities ∷ [])
    unfolding announcing
    announce-refused refusal f answer h =
        rw (← chose)
        (announce-kept chosen policy a t (unchanged (Err refusal) t) answer t (rw ((was-sound chosen t s is used e).0, ← asks-so, f)) h refl)

    module _ (start size : ℕ) (actions : Actions) (feasible : Bool) (f : reply ≡ Ok (request start size actions feasible)) where
      pub announce-rule : ReadRule chosen a.rule start size
      announce-rule = asked-rule chosen policy a start size actions feasible (sym asks-so ∙ f)

      pub announce-requires : Fits chosen → Ready chosen t used × (check_value chosen (take (start + size - start) (drop start a.rule)) ≡ Ok tt)
      announce-requires fits = (was-ready chosen t s is fits used e, rw (add-sub_cancel_left start size) announce-rule.accepted)

      pub announce-done : (told : Answer) (answer : Result ℕ Refusal) (exit : List ℕ)
          → Leaves (changed chosen t (announce (entry_for (record { origin = a.origin; actions = actions }) (plain chosen (take (start + size - start) (drop start a.rule)))) feasible)) told exit
          → answer ≡ announced_of actions told.outcome → Announces family policy a t answer exit (policy.routes ∷ a.rule ∷ a.communities ∷ [])
      unfolding announcing
      announce-done told answer exit h says =
          let k = rw (add-sub_cancel_left start size) at h in
          rw (← chose)
          (announce-kept chosen policy a t (outcome (announced_of actions) (changed chosen t (announce (announced_entry chosen a start size actions) feasible))) answer exit
          (rw ((was-sound chosen t s is used e).0, ← asks-so, f)) (says ∙ ap (announced_of actions) k.outcome) k.table)

-- ---- withdrawing ----

-- the answer tells the outcome's number
pub withdrawn-told : (outcome : Result Unit Refusal) → (withdrawn_told outcome).number ≡ told_number outcome
withdrawn-told (Ok _) = refl
withdrawn-told (Err refusal) = refl

-- a promise from the equation for the outcome
pub withdraw-kept : (family : Family) (rule t : List ℕ) (o : Outcome (Result Unit Refusal)) (answer : Result Unit Refusal) (exit : List ℕ)
    → withdrawing family rule t ≡ o → answer ≡ o.answer → exit ≡ o.table → Withdraws family rule t answer exit (rule ∷ [])
withdraw-kept family rule t o answer exit e a x =
    let q : answer ≡ (withdrawing family rule t).answer = rw e a in
    record { is = q; tells = ap withdrawn_told q ∙ withdraw-tells family rule t; leaves = rw e x; keeps = refl }

module _ (family chosen : Family) (chose : chosen ≡ family) (rule t : List ℕ) (s : Result ℕ Refusal) (is : s ≡ soundness chosen t) where
  pub withdraw-unsound : (refusal : Refusal) → s ≡ Err refusal → (answer : Result Unit Refusal) → answer ≡ Err refusal
      → Withdraws family rule t answer t (rule ∷ [])
  unfolding withdrawing
  withdraw-unsound refusal e answer h =
      let u = was-unsound chosen t s is refusal e in
      rw (← chose) (withdraw-kept chosen rule t (unchanged (Err UnsoundTable) t) answer t (rw u.0) (h ∙ ap (λ r. Err r) u.1) refl)

  module _ (used : ℕ) (e : s ≡ Ok used) (reading : Result Span Refusal) (read_is : reading ≡ one_rule chosen rule) where
    pub withdraw-refused : (refusal : Refusal) → reading ≡ Err refusal → (answer : Result Unit Refusal) → answer ≡ Err refusal
        → Withdraws family rule t answer t (rule ∷ [])
    unfolding withdrawing
    withdraw-refused refusal f answer h =
        rw (← chose)
        (withdraw-kept chosen rule t (unchanged (Err refusal) t) answer t (rw ((was-sound chosen t s is used e).0, ← read_is, f)) h refl)

    module _ (start size : ℕ) (f : reading ≡ Ok (span start size)) where
      pub withdraw-rule : ReadRule chosen rule start size
      withdraw-rule = one-read chosen rule start size (sym read_is ∙ f)

      pub withdraw-requires : Fits chosen → Ready chosen t used × (check_value chosen (take (start + size - start) (drop start rule)) ≡ Ok tt)
      withdraw-requires fits = (was-ready chosen t s is fits used e, rw (add-sub_cancel_left start size) withdraw-rule.accepted)

      pub withdraw-done : (told : Answer) (exit : List ℕ)
          → Leaves (changed chosen t (withdraw (keys_of chosen (plain chosen (take (start + size - start) (drop start rule)))))) told exit
          → Withdraws family rule t told.outcome exit (rule ∷ [])
      unfolding withdrawing
      withdraw-done told exit h =
          let k = rw (add-sub_cancel_left start size) at h in
          rw (← chose)
          (withdraw-kept chosen rule t
          (outcome (λ answer. answer) (changed chosen t (withdraw (keys_of chosen (plain chosen (value_of rule start size)))))) told.outcome exit
          (rw ((was-sound chosen t s is used e).0, ← read_is, f)) k.outcome k.table)

-- ---- looking up ----

module _ (family : Family) (t octets : List ℕ) where
  look-kept : (answer : Result (Option Matched) Refusal) → answer ≡ looking_up family t octets
      → LooksUp family t octets answer (t ∷ octets ∷ [])
  look-kept answer e = record { is = e; tells = ap lookup_told e ∙ lookup-tells family t octets; keeps = refl }

  locate-kept : (answer : Result Place Refusal) → answer ≡ match_place family t octets
      → IfOk answer (λ place. place.start ≤ place.end) → IfOk answer (λ place. place.end ≤ length t)
      → LocatesFirst family t octets answer (t ∷ octets ∷ [])
  locate-kept answer e ordered inside =
      record { is = e; tells = ap match_place_told e ∙ locate-tells family t octets; ordered = ordered; inside = inside; keeps = refl }

module _ (family chosen : Family) (chose : chosen ≡ family) (t octets : List ℕ) (sees : Result Packet Refusal)
    (is : sees ≡ opening chosen t octets) where
  module _ (refusal : Refusal) (e : sees ≡ Err refusal) where
    pub look-refused : (answer : Result (Option Matched) Refusal) → answer ≡ Err refusal → LooksUp family t octets answer (t ∷ octets ∷ [])
    unfolding looking_up
    look-refused answer h = rw (← chose) (look-kept chosen t octets answer (h ∙ rw (← is, e)))

    pub locate-refused : (answer : Result Place Refusal) → answer ≡ Err refusal → LocatesFirst family t octets answer (t ∷ octets ∷ [])
    unfolding match_place
    locate-refused answer h = rw (← chose, h) (locate-kept chosen t octets (Err refusal) (rw (← is, e)) tt tt)

  module _ (packet : Packet) (e : sees ≡ Ok packet) where
    pub look-judged : (verdict : Option Matched) → verdict ≡ verdict_for chosen no_head packet (entries t)
        → LooksUp family t octets (Ok verdict) (t ∷ octets ∷ [])
    unfolding looking_up
    look-judged verdict v = rw (← chose) (look-kept chosen t octets _ (rw (← is, e, v)))

    pub locate-found : (place : Place)
        → (place ≡ first_place (hit chosen no_head packet) 0 (entries t)) × ((place.start ≤ place.end) × (place.end ≤ length t))
        → LocatesFirst family t octets (Ok place) (t ∷ octets ∷ [])
    unfolding match_place
    locate-found place v = rw (← chose) (locate-kept chosen t octets (Ok place) (rw (← is, e, ← v.0)) v.1.0 v.1.1)

-- where a first match was located is where it stands, and where the lookup is refused it stands nowhere
module _ {family : Family} {t octets : List ℕ} {answer : Result Place Refusal} {kept : List (List ℕ)}
    (h : LocatesFirst family t octets answer kept) where
  pub located-at : (place : Place) → answer ≡ Ok place → place ≡ first_match family t octets
  unfolding match_place first_match
  located-at place e = go (opening family t octets) (sym e ∙ h.is)
    where
      go : (sees : Result Packet Refusal) → Ok place ≡ placed family t sees → place ≡ first_in family t sees
      go (Ok packet) z = cc
      go (Err refusal) z = apart (cc)

  pub located-nowhere : (refusal : Refusal) → answer ≡ Err refusal → record { start = 0; end = 0 } ≡ first_match family t octets
  unfolding match_place first_match
  located-nowhere refusal e = go (opening family t octets) (sym e ∙ h.is)
    where
      go : (sees : Result Packet Refusal) → Err refusal ≡ placed family t sees → record { start = 0; end = 0 } ≡ first_in family t sees
      go (Ok packet) z = apart (cc)
      go (Err other) z = refl
