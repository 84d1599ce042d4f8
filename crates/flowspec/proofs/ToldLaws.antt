-- What each answer says is what 01's checks come to, in their order: one law for each call. Assumes nothing.
use mathlib.Core.Path.{◌≡◌, refl, sym, ap, ◌∙◌}
use mathlib.Core.List.{List, [], ◌∷◌}
use Prim.Native.Nat.{ℕ, ◌≤◌, Ordering}
use native.Mathlib.Omega.{arith}
use lib.Dec.{leb, ltb, eqb}
use lib.ListN.{length}
use borrow.Author.Tests.{le-leb, lt-leb, ltb-true, ltb-false, eqb-true, eqb-false, ne_eqb}
use Rattle.std.proofs.Common.{Result, Ok, Err, Option, Some, None}
use Rattle.octets.specs.Order.{ordered}
use Rattle.octets.proofs.Cases.{by-test}
use Rattle.sorted.specs.Table.{by_order}
use Rattle.rule.specs.declared.Family.{Family}
use Rattle.spelling.specs.Plain.{plain}
use Rattle.rule.specs.Value.{check_value}
use Rattle.rule.specs.Reading.{field_size, field_length, read_as, rule_end, value_in, check_rule, alone, first_rule, one_rule, span}
use Rattle.rule.specs.declared.Refusal.{Refusal}
use Rattle.rule.specs.declared.Span.{Span}
use Rattle.spelling.specs.Writing.{rule_for, into_room, writing}
use Rattle.rule.proofs.ReadingLaws.{one-read}
use Rattle.order.specs.Key.{keys_of}
use Rattle.order.specs.Precedence.{precedence}
use Rattle.action.specs.Actions.{no_actions, actions_of, flags_of, notes_of, values_of}
use Rattle.action.specs.declared.Actions.{Actions}
use Rattle.entry.specs.Entry.{Entry}
use Rattle.route.specs.declared.Origin.{Origin}
use Rattle.route.specs.Route.{sound_routes}
use Rattle.packet.specs.Packet.{is_unusable, fields_of, packet_of}
use Rattle.table.specs.Walk.{entries}
use Rattle.table.specs.Sound.{sound_table}
use Rattle.lookup.specs.Lookup.{hit, collected, merged_onto, verdict_of, verdict_for}
use Rattle.table.specs.Change.{holds, has_room}
use Rattle.table.proofs.CaseLaws.{changed-room, changed-no-room, changed-infeasible, changed-held, changed-not-held}
use Rattle.order.specs.Compare.{compare_read, compare_rules}
use Rattle.request.specs.Input.{Announcement, Policy}
use Rattle.request.specs.Judging.{read_with_routes, is_feasible}
use Rattle.flowspec.specs.Feasibility.{judge_read, judgement}
use Rattle.request.specs.Request.{request_for, request_of, announced_entry}
use Rattle.flowspec.specs.Announce.{announced_by, announcing, withdrawn_by, withdrawing}
use Rattle.lookup.specs.Opening.{opening}
use Rattle.flowspec.specs.Look.{no_head, looking_up, match_place}
use Rattle.flowspec.specs.Told.{Told, done, refusal_told, reading_told, writing_told, comparison_told, feasibility_told, actions_told, announced_told, withdrawn_told, lookup_told, match_place_told}
use Rattle.flowspec.specs.Checks.{judge_checks, announce_checks, announce_values, Check, check, one_to_seven, told, ends_there, read_checks, read_values, write_checks, write_values, compare_checks, compare_values, actions_checks, actions_values, withdraw_checks, lookup_checks, lookup_values, first_match_values, is_sound, actions_read}

-- ---- reading ----

-- what a call says that goes on only once a rule was read
abbrev pub after_reading : Result Span Refusal → ℕ → Told → Told
after_reading (Ok read) many next = next
after_reading (Err refusal) many next = refusal_told refusal many

-- 1 to 7 and 15 are the refusals of reading, whatever is checked next
module _ (family : Family) (rule : List ℕ) (cs : List Check) (grant : Told) where
  pub read_first : told (one_to_seven (check_rule family rule) ∷ check (ends_there rule) 15 ∷ cs) grant
      ≡ after_reading (one_rule family rule) (length grant.values) (told cs grant)
  unfolding one_rule first_rule
  read_first =
      by-test (ltb (length rule) (rule_end rule)) (λ t. rw t)
      (λ t. let h = ltb-false (length rule) (rule_end rule) t in rw t (go (omega arith) (check_value family (value_in rule))))
    where
      go : rule_end rule ≤ length rule → (c : Result Unit Refusal) → told (one_to_seven c ∷ check (ends_there rule) 15 ∷ cs) grant
          ≡ after_reading (alone (length rule) (read_as (field_size rule) (field_length rule) c)) (length grant.values) (told cs grant)
      go fits (Ok _) =
          by-test (eqb (rule_end rule) (length rule))
          (λ t. let e = eqb-true (rule_end rule) (length rule) t in rw (t, le-leb (length rule) (rule_end rule) (omega arith)))
          (λ t. let e = eqb-false (rule_end rule) (length rule) t in rw (t, lt-leb (length rule) (rule_end rule) (omega arith)))
      go fits (Err refusal) = refl

-- a rule that was read starts behind its length field, and is as long as that tells
read-value : (family : Family) (rule : List ℕ) (start size : ℕ) → one_rule family rule ≡ Ok (span start size) → (start ≡ field_size rule) × (size ≡ field_length rule)
read-value family rule start size e = let r = one-read family rule start size e in (r.field, r.tells)

pub read-tells : (family : Family) (rule : List ℕ) → reading_told (one_rule family rule) ≡ told (read_checks family rule) (done (read_values rule))
read-tells family rule = go (one_rule family rule) refl ∙ sym (read_first family rule [] (done (read_values rule)))
  where
    go : (r : Result Span Refusal) → one_rule family rule ≡ r → reading_told r ≡ after_reading r 2 (done (read_values rule))
    go (Ok read) e = let v = read-value family rule read.start read.size e in rw (v.0, v.1)
    go (Err refusal) e = refl

-- ---- writing ----

pub write-tells : (family : Family) (value buffer : List ℕ) → writing_told (writing family value (length buffer)) ≡ told (write_checks family value buffer) (done (write_values family value))
unfolding writing
write-tells family value buffer = go (check_value family value)
  where
    go : (c : Result Unit Refusal) → writing_told (into_room family value (length buffer) c)
        ≡ told (one_to_seven c ∷ check (leb (length (rule_for family value)) (length buffer)) 16 ∷ []) (done (write_values family value))
    go (Ok _) =
        by-test (ltb (length buffer) (length (rule_for family value)))
        (λ t. rw (t, lt-leb (length (rule_for family value)) (length buffer) (ltb-true (length buffer) (length (rule_for family value)) t)))
        (λ t. rw (t, le-leb (length (rule_for family value)) (length buffer) (ltb-false (length buffer) (length (rule_for family value)) t)))
    go (Err refusal) = refl

-- ---- comparing ----

pub compare-tells : (family : Family) (a b : List ℕ) → comparison_told (compare_rules family a b) ≡ told (compare_checks family a b) (done (compare_values family a b))
unfolding compare_rules
compare-tells family a b =
    go (one_rule family a) refl (one_rule family b) refl
    ∙ sym (read_first family a (one_to_seven (check_rule family b) ∷ check (ends_there b) 15 ∷ []) (done (compare_values family a b))
    ∙ ap (after_reading (one_rule family a) 1) (read_first family b [] (done (compare_values family a b))))
  where
    order : (o : Ordering) → comparison_told (Ok (ordered o)) ≡ done (by_order o 1 3 2 ∷ [])
    order Ordering.lt = refl
    order Ordering.eq = refl
    order Ordering.gt = refl

    go : (r : Result Span Refusal) → one_rule family a ≡ r → (q : Result Span Refusal) → one_rule family b ≡ q
        → comparison_told (compare_read family a r b q) ≡ after_reading r 1 (after_reading q 1 (done (compare_values family a b)))
    go (Err refusal) e q f = refl
    go (Ok read) e (Err refusal) f = refl
    go (Ok read) e (Ok read_2) f =
        let v = read-value family a read.start read.size e in
        let w = read-value family b read_2.start read_2.size f in
        rw (v.0, v.1, w.0, w.1) (order (precedence family (value_in a) (value_in b)))

-- ---- actions ----

pub actions-tells : (communities : List ℕ) → actions_told (actions_of communities) ≡ told (actions_checks communities) (done (actions_values communities))
actions-tells communities = go (actions_of communities)
  where
    go : (a : Option Actions) → actions_told a ≡ told (check (is_sound a) 13 ∷ []) (done (values_of (actions_read a)))
    go (Some actions) = refl
    go None = refl

-- ---- judging ----

pub judge-tells : (family : Family) (policy : Policy) (rule : List ℕ) (origin : Origin)
    → feasibility_told (judgement family policy rule origin) ≡ told (judge_checks family policy rule origin) (done [])
unfolding judgement read_with_routes
judge-tells family policy rule origin =
    by-test (sound_routes family policy.routes)
    (λ s. rw s (go (one_rule family rule) refl ∙ sym (read_first family rule (check (is_feasible family policy (value_in rule) origin) 8 ∷ []) (done []))))
    (λ s. rw s)
  where
    go : (r : Result Span Refusal) → one_rule family rule ≡ r → feasibility_told (judge_read family policy rule origin r)
        ≡ after_reading r 0 (told (check (is_feasible family policy (value_in rule) origin) 8 ∷ []) (done []))
    go (Err refusal) e = refl
    go (Ok read) e =
        let v = read-value family rule read.start read.size e in
        rw (v.0, v.1) (by-test (is_feasible family policy (value_in rule) origin) (λ h. rw h) (λ h. rw h))

-- ---- announcing ----

module _ (family : Family) (policy : Policy) (a : Announcement) (t : List ℕ) where
  -- what is checked behind the rule
  abbrev behind_rule : Option Actions → List Check
  behind_rule c =
      check (is_sound c) 13
      ∷ check (is_feasible family policy (value_in a.rule) a.origin) 8
      ∷ check (has_room family t (announced_entry family a (field_size a.rule) (field_length a.rule) (actions_read c))) 11
      ∷ []

  pub announce-tells : announced_told (announcing family policy a t).answer ≡ told (announce_checks family policy a t) (done (announce_values a))
  unfolding announcing request_of read_with_routes
  announce-tells =
      by-test (sound_table family t)
      (λ s. by-test (sound_routes family policy.routes)
      (λ r. rw (s, r) (go (one_rule family a.rule) refl (actions_of a.communities) ∙ sym (read_first family a.rule (behind_rule (actions_of a.communities)) (done (announce_values a)))))
      (λ r. rw (s, r)))
      (λ s. rw s)
    where
      go : (r : Result Span Refusal) → one_rule family a.rule ≡ r → (c : Option Actions)
          → announced_told (announced_by family a t (request_for family policy a r c)).answer ≡ after_reading r 1 (told (behind_rule c) (done (notes_of (actions_read c) ∷ [])))
      go (Err refusal) e c = refl
      go (Ok read) e None = refl
      go (Ok read) e (Some actions) =
          let v = read-value family a.rule read.start read.size e in
          let entry = announced_entry family a (field_size a.rule) (field_length a.rule) actions in
          rw (v.0, v.1)
          (by-test (is_feasible family policy (value_in a.rule) a.origin)
          (λ f. by-test (has_room family t entry) (λ h. rw (f, h, changed-room family t entry h)) (λ h. rw (f, h, changed-no-room family t entry h)))
          (λ f. rw (f, changed-infeasible family t entry)))

-- ---- withdrawing ----

pub withdraw-tells : (family : Family) (rule t : List ℕ) → withdrawn_told (withdrawing family rule t).answer ≡ told (withdraw_checks family rule t) (done [])
unfolding withdrawing
withdraw-tells family rule t =
    by-test (sound_table family t)
    (λ s. rw s (go (one_rule family rule) refl
    ∙ sym (read_first family rule (check (holds family t (keys_of family (plain family (value_in rule)))) 14 ∷ []) (done []))))
    (λ s. rw s)
  where
    go : (r : Result Span Refusal) → one_rule family rule ≡ r → withdrawn_told (withdrawn_by family t rule r).answer
        ≡ after_reading r 0 (told (check (holds family t (keys_of family (plain family (value_in rule)))) 14 ∷ []) (done []))
    go (Err refusal) e = refl
    go (Ok read) e =
        let v = read-value family rule read.start read.size e in
        let k = keys_of family (plain family (value_in rule)) in
        rw (v.0, v.1) (by-test (holds family t k) (λ h. rw (h, changed-held family t k h)) (λ h. rw (h, changed-not-held family t k h)))

-- ---- looking up ----

pub lookup-tells : (family : Family) (t packet : List ℕ) → lookup_told (looking_up family t packet) ≡ told (lookup_checks family t packet) (done (lookup_values family t packet))
unfolding looking_up opening packet_of verdict_for verdict_of merged_onto flags_of notes_of
lookup-tells family t packet =
    by-test (sound_table family t)
    (λ s. by-test (is_unusable family packet) (λ u. rw (s, u)) (λ u. rw (s, u) (go (collected (hit family no_head (fields_of family packet)) (entries t)))))
    (λ s. rw s)
  where
    go : (rules : List Entry) → lookup_told (Ok (verdict_of (merged_onto no_actions rules) (length rules)))
        ≡ done (length rules ∷ values_of (merged_onto no_actions rules))
    go [] = refl
    go (e ∷ es) = rw (ne_eqb (length (e ∷ es)) 0 (λ z. omega arith))

pub locate-tells : (family : Family) (t packet : List ℕ) → match_place_told (match_place family t packet) ≡ told (lookup_checks family t packet) (done (first_match_values family t packet))
unfolding match_place opening packet_of
locate-tells family t packet =
    by-test (sound_table family t) (λ s. by-test (is_unusable family packet) (λ u. rw (s, u)) (λ u. rw (s, u))) (λ s. rw s)
