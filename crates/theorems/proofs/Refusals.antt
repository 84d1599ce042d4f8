-- **No refusal but 8 changes an octet** of a table: a withdrawal that is refused, and an announcement that is refused with another number than 8,
-- leave the table as it was; and **8 changes nothing else** than that it removes a held equal rule. Assumes nothing.
use mathlib.Core.Path.{◌≡◌, refl, sym, ap, ◌∙◌}
use mathlib.Core.Bool.{Bool, true, false}
use mathlib.Core.List.{List, [], ◌∷◌, ◌++◌, Memᴰ}
use mathlib.Core.Logic.{◌⊎◌, inl, inr}
use mathlib.Core.Option.{Option, none, some}
use Prim.Native.Nat.{ℕ}
use native.Mathlib.Omega.{arith}
use lib.ListN.{length}
use Rattle.std.proofs.Common.{Result, Ok, Err, Option as OptionInCode, Some, None}
use Rattle.octets.proofs.Cases.{by-test, apart}
use Rattle.octets.proofs.Facts.{Octets}
use Rattle.sorted.specs.Table.{lookup}
use Rattle.sorted.specs.History.{announce, withdraw}
use Rattle.sorted.proofs.SplitLaws.{front, rear, skip, front-rear, held-split, remove-split}
use Rattle.sorted.proofs.MemberLaws.{every_in, found_in, in-found}
use Rattle.rule.specs.declared.Family.{Family}
use Rattle.rule.specs.declared.Refusal.{Refusal}
use Rattle.rule.specs.declared.Refusal.TheVariants.{Infeasible}
use Rattle.rule.specs.declared.Span.{Span}
use Rattle.rule.specs.Family.{Fits}
use Rattle.spelling.specs.Plain.{plain}
use Rattle.rule.specs.Refusal.{number_of}
use Rattle.rule.specs.Value.{check_value}
use Rattle.rule.specs.Reading.{field_size, field_length, value_of, value_in, check_rule, one_rule, span}
use Rattle.spelling.proofs.ClearedLaws.{octets-plain, plain-again}
use Rattle.spelling.proofs.SpellingLaws.{check-plain}
use Rattle.rule.proofs.ReadingLaws.{one-read}
use Rattle.rule.proofs.Near.{number-given}
use Rattle.order.specs.Key.{RuleKey, keys_of, key_order}
use Rattle.order.proofs.KeyLaws.{key-order, keys-only}
use Rattle.action.specs.declared.Actions.{Actions}
use Rattle.action.specs.Actions.{actions_of, notes_of}
use Rattle.entry.specs.Entry.{Entry, entry_key, possible}
use Rattle.entry.proofs.ValueLaws.{is-possible}
use Rattle.table.specs.Walk.{entries}
use Rattle.table.specs.Sound.{table_of, sound_table, Encodes}
use Rattle.table.specs.Change.{holds, has_room, changed}
use Rattle.table.proofs.SoundLaws.{sound-encodes}
use Rattle.table.proofs.CaseLaws.{removed, changed-room, changed-no-room, changed-infeasible, changed-held, changed-not-held}
use Rattle.table.proofs.ChangeLaws.{removed-none, value-octets}
use Rattle.request.specs.declared.Request.{Request}
use Rattle.request.specs.Input.{Announcement, Policy}
use Rattle.request.specs.Judging.{read_with_routes, is_feasible}
use Rattle.request.specs.Request.{announced_entry, request_for, request_of}
use Rattle.flowspec.specs.Announce.{Outcome, outcome, announced_of, announced_by, announcing, withdrawn_by, withdrawing}
use Rattle.flowspec.specs.Told.{Told, done, refusal_told, announced_told}
use Rattle.flowspec.specs.Checks.{ends_there, is_sound}
use Rattle.theorems.specs.Numbers.{Yes, No, Accepts, SoundBoth, OneRule}
use Rattle.flowspec.specs.Promise.{Announces, Withdraws}
use Rattle.flowspec.proofs.ToldLaws.{read_first}
use Rattle.theorems.proofs.Numbers.{announce-numbers}
use Rattle.request.proofs.RequestLaws.{octets-value}

-- a withdrawal's outcome leaves the table as it was where it is refused; an announcement's where it is refused with another number than 8
abbrev Keeps : List ℕ → Outcome (Result Unit Refusal) → Type 0
Keeps t o = (refusal : Refusal) → o.answer ≡ Err refusal → o.table ≡ t

abbrev KeepsButAt8 : List ℕ → Outcome (Result ℕ Refusal) → Type 0
KeepsButAt8 t o = (refusal : Refusal) → o.answer ≡ Err refusal → (number_of refusal ≡ 8 → ⊥) → o.table ≡ t

module _ (family : Family) (t : List ℕ) (sound : sound_table family t ≡ true) where
  announced : (actions : Actions) (e : Entry) (feasible : Bool) → KeepsButAt8 t (outcome (announced_of actions) (changed family t (announce e feasible)))
  announced actions e true refusal h n =
      by-test (has_room family t e) (λ r. let z : Ok (notes_of actions) ≡ Err refusal = rw (changed-room family t e r) at h in apart (cc))
      (λ r. rw (changed-no-room family t e r) (sym (sound-encodes family t sound).is))
  announced actions e false refusal h n =
      let z : Err Infeasible ≡ Err refusal = rw (changed-infeasible family t e) at h in
      let same : Infeasible ≡ refusal = cc in
      absurd (n (sym (ap number_of same)))

  withdrew : (k : RuleKey) → Keeps t (outcome (λ answer. answer) (changed family t (withdraw k)))
  withdrew k refusal h =
      by-test (holds family t k) (λ r. let z : Ok tt ≡ Err refusal = rw (changed-held family t k r) at h in apart (cc))
      (λ r. rw (changed-not-held family t k r) (sym (sound-encodes family t sound).is))

announce-keeps : (family : Family) (policy : Policy) (a : Announcement) (t : List ℕ) → KeepsButAt8 t (announcing family policy a t)
unfolding announcing
announce-keeps family policy a t =
    by-test (sound_table family t) (λ s. rw s (go s (request_of family policy a))) (λ s. rw s (λ refusal h n. refl))
  where
    go : sound_table family t ≡ true → (r : Result Request Refusal) → KeepsButAt8 t (announced_by family a t r)
    go s (Ok asked) = announced family t s asked.actions (announced_entry family a asked.start asked.size asked.actions) asked.feasible
    go s (Err refused) = λ refusal h n. refl

withdraw-keeps : (family : Family) (rule t : List ℕ) → Keeps t (withdrawing family rule t)
unfolding withdrawing
withdraw-keeps family rule t = by-test (sound_table family t) (λ s. rw s (go s (one_rule family rule))) (λ s. rw s (λ refusal h. refl))
  where
    go : sound_table family t ≡ true → (r : Result Span Refusal) → Keeps t (withdrawn_by family t rule r)
    go s (Ok read) = withdrew family t s (keys_of family (plain family (value_of rule read.start read.size)))
    go s (Err refused) = λ refusal h. refl

-- **No refusal but 8 changes an octet**, of the calls by their promises.
pub refused-announcement : (family : Family) (policy : Policy) (a : Announcement) (t : List ℕ) (answer : Result ℕ Refusal) (exit : List ℕ) (kept : List (List ℕ))
    → Announces family policy a t answer exit kept → (refusal : Refusal) → answer ≡ Err refusal → (number_of refusal ≡ 8 → ⊥) → exit ≡ t
refused-announcement family policy a t answer exit kept p refusal e n =
    p.leaves ∙ announce-keeps family policy a t refusal (sym p.is ∙ e) n

pub refused-withdrawal : (family : Family) (rule t : List ℕ) (answer : Result Unit Refusal) (exit : List ℕ) (kept : List (List ℕ)) → Withdraws family rule t answer exit kept
    → (refusal : Refusal) → answer ≡ Err refusal → exit ≡ t
refused-withdrawal family rule t answer exit kept p refusal e = p.leaves ∙ withdraw-keeps family rule t refusal (sym p.is ∙ e)

-- ---- 8 ----

-- no entry of a table has a value
abbrev pub NotHeld : List ℕ → List ℕ → Type 0
NotHeld t value = (e : Entry) → Memᴰ e (entries t) → e.value ≡ value → ⊥

-- a table has an entry of a value, and another table is the same without that entry's record
pub record Without (t value exit : List ℕ) : Type 0 where
  pub before : List Entry
  pub held : Entry
  pub behind : List Entry
  pub equal : held.value ≡ value
  pub had : entries t ≡ before ++ held ∷ behind
  pub was : t ≡ table_of (length t) (before ++ held ∷ behind)
  pub is : exit ≡ table_of (length t) (before ++ behind)

-- what taking a value's rule out of a table leaves
module _ (family : Family) (fits : Fits family) (t : List ℕ) (octets : Octets t) (sound : sound_table family t ≡ true) (v : List ℕ) (o : Octets v) (ok : check_value family v ≡ Ok tt) where
  abbrev key : RuleKey
  key = keys_of family (plain family v)

  taken_out : (NotHeld t (plain family v) × (removed family t key ≡ t)) ⊎ Without t (plain family v) (removed family t key)
  unfolding holds
  taken_out = go (lookup key_order (entry_key family) key (entries t)) refl
    where
      here : Encodes family t (entries t)
      here = sound-encodes family t sound

      absent : lookup key_order (entry_key family) key (entries t) ≡ none → NotHeld t (plain family v)
      absent e x m q =
          let f = in-found key_order (entry_key family) key-order x (entries t) here.rising m in
          let z : some x ≡ none = sym f ∙ rw q e in
          apart (cc)

      go : (l : Option Entry) → lookup key_order (entry_key family) key (entries t) ≡ l
          → (NotHeld t (plain family v) × (removed family t key ≡ t)) ⊎ Without t (plain family v) (removed family t key)
      go none e = inl (absent e, removed-none family t octets sound key (rw e))
      go (some y) e =
          let found = found_in key_order (entry_key family) key-order key y (entries t) e in
          let old = (is-possible family y (every_in (possible family) (entries t) here.each y found.0)).value in
          let split = held-split key_order (entry_key family) key (entries t) y e in
          let all : entries t ≡ front key_order (entry_key family) key (entries t) ++ y ∷ skip key_order (entry_key family) key (rear key_order (entry_key family) key (entries t))
          = sym (rw (← split) (front-rear key_order (entry_key family) key (entries t))) in
          let same = keys-only family fits y.value (plain family v) (value-octets family t (entries t) here key y e octets) (octets-plain family v o) old.accepted (check-plain family v o ∙ ok) found.1 in
          inr (record {
            before = front key_order (entry_key family) key (entries t);
            held = y;
            behind = skip key_order (entry_key family) key (rear key_order (entry_key family) key (entries t));
            equal = sym old.spelled ∙ same ∙ plain-again family v o;
            had = all;
            was = here.is ∙ ap (table_of (length t)) all;
            is = ap (table_of (length t)) (remove-split key_order (entry_key family) key (entries t));
          })

-- a rule that is accepted and ends there is read
one-rule-is : (family : Family) (rule : List ℕ) → Accepts (check_rule family rule) → Yes (ends_there rule) → one_rule family rule ≡ Ok (span (field_size rule) (field_length rule))
one-rule-is family rule accepts ends = go (one_rule family rule) refl
  where
    go : (r : Result Span Refusal) → one_rule family rule ≡ r → one_rule family rule ≡ Ok (span (field_size rule) (field_length rule))
    go (Ok read) e = let r = one-read family rule read.start read.size e in e ∙ rw (r.field, r.tells)
    go (Err refusal) e =
        let first = rw e at (read_first family rule [] (done [])) in
        let told : done [] ≡ refusal_told refusal 0 = rw (accepts, ends) at first in
        let z : 0 ≡ number_of refusal = ap (λ (x : Told). x.number) told in
        let listed = number-given refusal in
        absurd (omega arith)

module _ (family : Family) (policy : Policy) (a : Announcement) (t : List ℕ) where
  -- what 8 leaves is the table without the rule
  eight-leaves : SoundBoth family policy t (OneRule family a.rule (Yes (is_sound (actions_of a.communities)) × No (is_feasible family policy (value_in a.rule) a.origin)))
      → (announcing family policy a t).table ≡ removed family t (keys_of family (plain family (value_in a.rule)))
  unfolding announcing request_of read_with_routes
  eight-leaves (sound, (routes, (accepts, (ends, (acts, not))))) =
      rw (sound, routes, one-rule-is family a.rule accepts ends) (go (actions_of a.communities) acts)
    where
      go : (c : OptionInCode Actions) → is_sound c ≡ true
          → (announced_by family a t (request_for family policy a (Ok (span (field_size a.rule) (field_length a.rule))) c)).table ≡ removed family t (keys_of family (plain family (value_in a.rule)))
      go (Some actions) e = rw (not, changed-infeasible family t (announced_entry family a (field_size a.rule) (field_length a.rule) actions))
      go None e = apart (cc)

  -- **8 changes nothing else.** 01: "Refusals change nothing, except that 8 removes a held equal rule": a rule that is not held leaves the table as
  -- it was, and a held one leaves it exactly without that record.
  pub eight-removes : Fits family → Octets t → Octets a.rule → (answer : Result ℕ Refusal) (exit : List ℕ) (kept : List (List ℕ)) → Announces family policy a t answer exit kept
      → (announced_told answer).number ≡ 8
      → (NotHeld t (plain family (value_in a.rule)) × (exit ≡ t)) ⊎ Without t (plain family (value_in a.rule)) exit
  eight-removes fits octets o answer exit kept p e =
      let passed = (announce-numbers p).eight.0 e in
      let rule = one-rule-is family a.rule passed.1.1.0 passed.1.1.1.0 in
      let accepted = (one-read family a.rule (field_size a.rule) (field_length a.rule) rule).accepted in
      rw (p.leaves, eight-leaves passed) (taken_out family fits t octets passed.0 (value_in a.rule) (octets-value a.rule (field_size a.rule) (field_length a.rule) o) accepted)
