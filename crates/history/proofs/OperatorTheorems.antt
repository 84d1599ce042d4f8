-- What an operator relies on, of the calls by their own promises: an announcement that was answered 0, made again with the same routes and
-- setting, is answered 0 with the same notes and changes nothing; withdrawing after it is done, and leaves what withdrawing alone would have
-- left; and two announcements of different rules, each by its own routes, answered 0 in either order, leave equal octets and tell the same
-- notes. Of what a call is given only what its types say is assumed (`CanBe`).
use mathlib.Core.Path.{◌≡◌, refl, sym, ap, ap₂, ◌∙◌}
use mathlib.Core.Bool.{Bool, true, false}
use mathlib.Core.List.{List}
use Prim.Native.Nat.{Ordering}
use Prim.Native.Nat.{ℕ, ◌^◌, ◌<◌}
use Rattle.std.proofs.Common.{Result, Ok, Err}
use Rattle.std.specs.declared.cmp.Ordering.TheVariants.{Equal}
use Rattle.octets.proofs.Cases.{by-test, apart}
use Rattle.octets.proofs.Facts.{Octets}
use Rattle.rule.specs.declared.Family.{Family}
use Rattle.rule.specs.declared.Refusal.{Refusal}
use Rattle.rule.specs.declared.Refusal.TheVariants.{Infeasible, UnsoundTable, NoRoom}
use Rattle.rule.specs.Family.{Fits}
use Rattle.spelling.specs.Plain.{plain}
use Rattle.rule.specs.Reading.{value_of, one_rule, span}
use Rattle.order.specs.Precedence.{precedence}
use Rattle.order.specs.Key.{keys_of}
use Rattle.order.proofs.KeyLaws.{key-order, keys-plain, one-order}
use Rattle.action.specs.declared.Actions.{Actions}
use Rattle.action.specs.Actions.{notes_of}
use Rattle.entry.specs.Entry.{Entry, entry_key, possible}
use Rattle.table.specs.Walk.{entries}
use Rattle.table.specs.Sound.{sound_table, Encodes}
use Rattle.table.specs.Change.{holds, has_room}
use Rattle.table.proofs.CaseLaws.{inserted, removed, changed-room, changed-no-room, changed-infeasible, changed-held, changed-without}
use Rattle.table.proofs.SoundLaws.{sound-encodes}
use Rattle.table.proofs.AgainLaws.{sound-with, room-again, inserted-again, holds-with, removed-again, inserted-either}
use Rattle.request.specs.declared.Request.{Request}
use Rattle.request.specs.Input.{Announcement, Policy}
use Rattle.request.specs.Request.{announced_entry, request_of, request}
use Rattle.flowspec.specs.Announce.{Outcome, announced_by, announcing, withdrawing}
use Rattle.order.specs.Compare.{compare_rules}
use Rattle.flowspec.specs.Promise.{Announces, Withdraws}
use Rattle.request.proofs.RequestLaws.{octets-value, asked-from}
use Rattle.history.proofs.HistoryLaws.{asked-could}

module _ (family : Family) (policy : Policy) (a : Announcement) where
  -- what a done announcement asked, what it found, and what it left
  record Stored (t : List ℕ) (notes : ℕ) (left : List ℕ) : Type 0 where
    pub start : ℕ
    pub size : ℕ
    pub actions : Actions
    pub requests : request_of family policy a ≡ Ok (request start size actions true)
    pub sound : sound_table family t ≡ true
    pub room : has_room family t (announced_entry family a start size actions) ≡ true
    pub says : notes ≡ notes_of actions
    pub is : left ≡ inserted family t (announced_entry family a start size actions)

  done-stored : (t : List ℕ) (notes : ℕ) (left : List ℕ) (kept : List (List ℕ)) → Announces family policy a t (Ok notes) left kept
      → Stored t notes left
  unfolding announcing
  done-stored t notes left kept p =
      by-test (sound_table family t) (λ s. go s (request_of family policy a) refl (rw s at p.is) (rw s at p.leaves))
      (λ s. let z : Ok notes ≡ Err UnsoundTable = rw s at p.is in apart (cc))
    where
      asked-stored : sound_table family t ≡ true → (start size : ℕ) (actions : Actions) (feasible : Bool)
          → request_of family policy a ≡ Ok (request start size actions feasible)
          → Ok notes ≡ (announced_by family a t (Ok (request start size actions feasible))).answer
          → left ≡ (announced_by family a t (Ok (request start size actions feasible))).table → Stored t notes left
      asked-stored s start size actions false e says l =
          let z : Ok notes ≡ Err Infeasible = rw (changed-infeasible family t (announced_entry family a start size actions)) at says in
          apart (cc)
      asked-stored s start size actions true e says l =
          by-test (has_room family t (announced_entry family a start size actions))
          (λ h.
          let z : Ok notes ≡ Ok (notes_of actions) = rw (changed-room family t (announced_entry family a start size actions) h) at says in
          record {
            start = start;
            size = size;
            actions = actions;
            requests = e;
            sound = s;
            room = h;
            says = cc;
            is = rw (changed-room family t (announced_entry family a start size actions) h) at l;
          })
          (λ h. let z : Ok notes ≡ Err NoRoom = rw (changed-no-room family t (announced_entry family a start size actions) h) at says in apart (cc))

      go : sound_table family t ≡ true → (r : Result Request Refusal) → request_of family policy a ≡ r → Ok notes ≡ (announced_by family a t r).answer
          → left ≡ (announced_by family a t r).table → Stored t notes left
      go s (Err refusal) e says l = apart (cc)
      go s (Ok asked) e says l = asked-stored s asked.start asked.size asked.actions asked.feasible e says l

  stores : (t : List ℕ) (start size : ℕ) (actions : Actions) → request_of family policy a ≡ Ok (request start size actions true)
      → sound_table family t ≡ true → has_room family t (announced_entry family a start size actions) ≡ true
      → announcing family policy a t ≡ record { answer = Ok (notes_of actions); table = inserted family t (announced_entry family a start size actions) }
  unfolding announcing
  stores t start size actions e s h = rw (s, e, changed-room family t (announced_entry family a start size actions) h)

  -- an announcement asks the same wherever it is made, so that it is for the same entry, and tells the same notes
  one_request : (t left u exit : List ℕ) (notes also : ℕ) (s : Stored t notes left) (r : Stored u also exit)
      → request s.start s.size s.actions true ≡ request r.start r.size r.actions true
  one_request t left u exit notes also s r =
      let same = sym s.requests ∙ r.requests in
      cc

  one_entry : (t left u exit : List ℕ) (notes also : ℕ) (s : Stored t notes left) (r : Stored u also exit)
      → announced_entry family a s.start s.size s.actions ≡ announced_entry family a r.start r.size r.actions
  one_entry t left u exit notes also s r =
      ap (λ (q : Request). announced_entry family a q.start q.size q.actions) (one_request t left u exit notes also s r)

  one-notes : (t left u exit : List ℕ) (notes also : ℕ) (s : Stored t notes left) (r : Stored u also exit) → notes ≡ also
  one-notes t left u exit notes also s r =
      s.says ∙ ap (λ (q : Request). notes_of q.actions) (one_request t left u exit notes also s r) ∙ sym r.says

  module _ (o : Octets a.rule) (small : a.origin.originator < 2 ^ 32) (t : List ℕ) (notes : ℕ) (left : List ℕ) (kept : List (List ℕ))
      (done : Announces family policy a t (Ok notes) left kept) where
    stored : Stored t notes left
    stored = done-stored t notes left kept done

    abbrev entered : Entry
    entered = announced_entry family a stored.start stored.size stored.actions

    before : Encodes family t (entries t)
    before = sound-encodes family t stored.sound

    could : possible family entered ≡ true
    could = rw stored.requests at (asked-could family policy a o small)

    -- **the same announcement twice**: the second is done too, with the same notes, and changes nothing
    pub announced-twice : (answer : Result ℕ Refusal) (exit : List ℕ) (held : List (List ℕ)) → Announces family policy a left answer exit held
        → (answer ≡ Ok notes) × (exit ≡ left)
    announced-twice answer exit held q =
        let again = stores (inserted family t entered) stored.start stored.size stored.actions stored.requests (sound-with family t before entered could stored.room) (room-again family t before entered could stored.room) in
        let requests = ap (announcing family policy a) stored.is ∙ again in (
          q.is ∙ ap (λ (x : Outcome (Result ℕ Refusal)). x.answer) requests ∙ ap Ok (sym stored.says),
          q.leaves ∙ ap (λ (x : Outcome (Result ℕ Refusal)). x.table) requests ∙ inserted-again family t before entered could stored.room ∙ sym stored.is,
        )

    read : one_rule family a.rule ≡ Ok (span stored.start stored.size)
    read = (asked-from family policy a stored.start stored.size stored.actions true stored.requests).read

    -- withdrawing from a table that holds the rule, and from any sound one
    withdraws : sound_table family (inserted family t entered) ≡ true → holds family (inserted family t entered) (entry_key family entered) ≡ true
        → withdrawing family a.rule (inserted family t entered) ≡ record { answer = Ok tt; table = removed family (inserted family t entered) (entry_key family entered) }
    unfolding withdrawing
    withdraws s h = rw (s, read, changed-held family (inserted family t entered) (entry_key family entered) h)

    alone : (withdrawing family a.rule t).table ≡ removed family t (entry_key family entered)
    unfolding withdrawing
    alone = rw (stored.sound, read) (changed-without family t (entry_key family entered)).1

    -- **announcing, then withdrawing**: the withdrawal is done, and leaves what it would have left without the announcement
    pub announced-withdrawn : (answer : Result Unit Refusal) (exit : List ℕ) (held : List (List ℕ)) → Withdraws family a.rule left answer exit held
        → (other : Result Unit Refusal) (without : List ℕ) (lent : List (List ℕ)) → Withdraws family a.rule t other without lent → (answer ≡ Ok tt) × (exit ≡ without)
    announced-withdrawn answer exit held q other without lent r =
        let out = ap (withdrawing family a.rule) stored.is ∙ withdraws (sound-with family t before entered could stored.room) (holds-with family t before entered could stored.room) in (
          q.is ∙ ap (λ (x : Outcome (Result Unit Refusal)). x.answer) out,
          q.leaves ∙ ap (λ (x : Outcome (Result Unit Refusal)). x.table) out ∙ removed-again family t before entered could stored.room ∙ sym (r.leaves ∙ alone),
        )

-- rules with one key are the same rule
same-rule : (family : Family) → Fits family → (rule other : List ℕ) (start size begin extent : ℕ) → Octets rule → Octets other → one_rule family rule ≡ Ok (span start size)
    → one_rule family other ≡ Ok (span begin extent) → keys_of family (plain family (value_of rule start size)) ≡ keys_of family (plain family (value_of other begin extent))
    → compare_rules family rule other ≡ Ok Equal
unfolding compare_rules
same-rule family fits rule other start size begin extent o p found also same =
    let v = value_of rule start size in
    let w = value_of other begin extent in
    let first = octets-value rule start size o in
    let second = octets-value other begin extent p in
    let keys : keys_of family v ≡ keys_of family w = sym (keys-plain family v first) ∙ same ∙ keys-plain family w second in
    let tie : precedence family v w ≡ Ordering.eq = one-order family fits v w first second ∙ rw keys (key-order.same (keys_of family w)) in
    rw (found, also, tie)

module _ (family : Family) (fits : Fits family) (policy other : Policy) (a b : Announcement) (o : Octets a.rule) (small : a.origin.originator < 2 ^ 32) (p : Octets b.rule)
    (little : b.origin.originator < 2 ^ 32) (t : List ℕ) where
  -- **two announcements of different rules**, done in either order, leave equal octets, and each tells the same notes
  pub announced-either-way : (compare_rules family a.rule b.rule ≡ Ok Equal → ⊥) → (first both second all : List ℕ) (c d e f : ℕ) (k l m n : List (List ℕ))
      → Announces family policy a t (Ok c) first k → Announces family other b first (Ok d) both l
      → Announces family other b t (Ok e) second m → Announces family policy a second (Ok f) all n
      → (both ≡ all) × ((c ≡ f) × (d ≡ e))
  announced-either-way differ first both second all c d e f k l m n one two three four =
      let x = stored family policy a o small t c first k one in
      let y = stored family other b p little t e second m three in
      let z = done-stored family other b first d both l two in
      let w = done-stored family policy a second f all n four in
      let one-entered = entered family policy a o small t c first k one in
      let other-entered = entered family other b p little t e second m three in
      let can = could family policy a o small t c first k one in
      let also = could family other b p little t e second m three in
      let whole = before family policy a o small t c first k one in
      let apart-keys : entry_key family one-entered ≡ entry_key family other-entered → ⊥ = λ same.
      differ (same-rule family fits a.rule b.rule x.start x.size y.start y.size o p (read family policy a o small t c first k one)
      (read family other b p little t e second m three) same) in
      let either = inserted-either family t whole one-entered can x.room other-entered also y.room apart-keys in (
        z.is ∙ ap₂ (inserted family) x.is (one_entry family other b first both t second d e z y)
            ∙ either
            ∙ sym (w.is ∙ ap₂ (inserted family) y.is (one_entry family policy a second all t first f c w x)),
        (one-notes family policy a t first second all c f x w, one-notes family other b first both t second d e z y),
      )
