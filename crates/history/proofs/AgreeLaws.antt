-- **Demand 3, of two histories** (`EndAlike`): from equal empty buffers, with the same routes and setting throughout (`SamePolicy`), if they
-- agree on each rule's last counted call, by its kind, originator and actions as read, they end in equal octets, and every packet has one
-- verdict and one first match in both. Of what the calls were given only what their types say is assumed (`FromEmpty`).
use mathlib.Core.Path.{◌≡◌, refl, sym, ap, ◌∙◌}
use mathlib.Core.Bool.{Bool, true, false, cond}
use mathlib.Core.List.{List, [], ◌∷◌}
use mathlib.Core.Option.{Option, none, some}
use Prim.Native.Nat.{ℕ, Ordering}
use lib.Dec.{compare_is_eq}
use Rattle.std.proofs.Common.{Result, Ok, Err, Some}
use Rattle.octets.proofs.Cases.{by-test, apart, both}
use Rattle.octets.proofs.Facts.{Octets}
use Rattle.sorted.specs.History.{counts, in_force, leaves_in_force, is_about, is_counted, last_from}
use Rattle.rule.specs.declared.Family.{Family}
use Rattle.rule.specs.declared.Refusal.{Refusal}
use Rattle.rule.specs.declared.Span.{Span}
use Rattle.rule.specs.Family.{Fits}
use Rattle.spelling.specs.Plain.{plain}
use Rattle.rule.specs.Reading.{value_of, one_rule}
use Rattle.rule.proofs.ReadingLaws.{one-read}
use Rattle.order.specs.Key.{RuleKey, keys_of, key_order}
use Rattle.order.proofs.KeyLaws.{key-order, keys-only, keys-plain}
use Rattle.action.specs.declared.Actions.{Actions}
use Rattle.action.specs.Actions.{actions_of}
use Rattle.entry.specs.Entry.{Entry, entry_key}
use Rattle.request.specs.declared.Request.{Request}
use Rattle.request.specs.Input.{Announcement, Policy}
use Rattle.request.specs.Request.{announced_entry, request_of, request}
use Rattle.flowspec.specs.Announce.{announce_operation, withdraw_operation}
use Rattle.history.specs.History.{Call, announcement, withdrawal, Made, CanBe, EachCanBe, deed, deed_of, operation_of, operation_made, number_of, last_counted, Agree, LentPolicy, SamePolicy, end_of, empty_table, FromEmpty, EndAlike}
use Rattle.request.proofs.RequestLaws.{octets-value, asked-from}
use Rattle.history.proofs.HistoryLaws.{histories-agree}
use Rattle.theorems.proofs.PlainLaws.{feasible-alone}
use Rattle.theorems.proofs.Unique.{one-lookup, one-first-match}

-- equal octets judge every packet alike
end-alike : (family : Family) (table other : List ℕ) → table ≡ other → EndAlike family table other
end-alike family table other e =
    record {
      octets = e;
      verdicts = λ packet a b k l x y. (one-lookup family k l other packet a b (rw e at x) y).0;
      matches = λ packet part rest lent stands stood k l x y.
          let one = one-first-match family k l other packet lent part rest stands stood (rw e at x) y in (one.0, one.1.0);
    }

pub tie : (o : Ordering) → compare_is_eq o ≡ true → o ≡ Ordering.eq
tie Ordering.lt e = apart (cc)
tie Ordering.eq e = refl
tie Ordering.gt e = apart (cc)

module _ (family : Family) (policy : Policy) where
  -- what is known of a counted call about a rule
  record Settled (k : RuleKey) (call : Call) : Type 0 where
    pub can : CanBe call
    pub lent : LentPolicy policy call
    pub about : is_about key_order (entry_key family) k (operation_of family call) ≡ true

  abbrev SettledLast : RuleKey → Option Made → Type 0
  SettledLast k none = Unit {0}
  SettledLast k (some m) = Settled k m.call

  last-settled : (k : RuleKey) (h : List Made) (before : Option Made) → EachCanBe h → SamePolicy policy h → SettledLast k before
      → SettledLast k (last_from key_order (entry_key family) (operation_made family) number_of before k h)
  last-settled k [] before can same settled = settled
  last-settled k (m ∷ h) before can same settled =
      let counted = is_counted key_order (entry_key family) (operation_made family) number_of k m in
      last-settled k h (cond counted (some m) before) can.1 same.1
      (by-test counted (λ e.
      rw e (record { can = can.0; lent = same.0; about = (both (counts (operation_made family m) (number_of m)) (is_about key_order (entry_key family) k (operation_made family m)) e).1 })) (λ e. rw e settled))

  -- announcements of one rule by one originator with the same actions as read leave the same in force
  module _ (k : RuleKey) (a b : Announcement) (o : Octets a.rule) (p : Octets b.rule) (founders : a.origin ≡ b.origin)
      (read : actions_of a.communities ≡ actions_of b.communities) where
    same-asked : Fits family → (start size : ℕ) (actions : Actions) (good : Bool) (from extent : ℕ) (acts : Actions) (fine : Bool)
        → request_of family policy a ≡ Ok (request start size actions good) → request_of family policy b ≡ Ok (request from extent acts fine)
        → is_about key_order (entry_key family) k (announce_operation family a (Ok (request start size actions good))) ≡ true
        → is_about key_order (entry_key family) k (announce_operation family b (Ok (request from extent acts fine))) ≡ true
        → in_force (announce_operation family a (Ok (request start size actions good)))
        ≡ in_force (announce_operation family b (Ok (request from extent acts fine)))
    same-asked fits start size actions good from extent acts fine is also x y =
        let one = asked-from family policy a start size actions good is in
        let two = asked-from family policy b from extent acts fine also in
        let value = value_of a.rule start size in
        let other = value_of b.rule from extent in
        let v = octets-value a.rule start size o in
        let w = octets-value b.rule from extent p in
        let first = key-order.only k (keys_of family (plain family value)) (tie _ x) ∙ keys-plain family value v in
        let second = key-order.only k (keys_of family (plain family other)) (tie _ y) ∙ keys-plain family other w in
        let values = keys-only family fits value other v w (one-read family a.rule start size one.read).accepted
        (one-read family b.rule from extent two.read).accepted (sym first ∙ second) in
        let reads : Some actions ≡ Some acts = sym one.acts ∙ read ∙ two.acts in
        let same : actions ≡ acts = cc in
        let judged : good ≡ fine = one.is ∙ feasible-alone family fits policy value other a.origin v w values ∙ rw founders (sym two.is) in
        let held : announced_entry family a start size actions ≡ announced_entry family b from extent acts = rw (same, values, founders) in
        rw judged (ap (λ e. elim fine as (λ x. Option Entry) [ false ↦ none | true ↦ some e ]) held)

    -- the same of what they ask, which is not refused where it is about a rule
    same-announced : Fits family → (q r : Result Request Refusal) → request_of family policy a ≡ q → request_of family policy b ≡ r
        → is_about key_order (entry_key family) k (announce_operation family a q) ≡ true
        → is_about key_order (entry_key family) k (announce_operation family b r) ≡ true
        → in_force (announce_operation family a q) ≡ in_force (announce_operation family b r)
    same-announced fits (Err refusal) r is also x y = apart (cc)
    same-announced fits (Ok asked) (Err refusal) is also x y = apart (cc)
    same-announced fits (Ok asked) (Ok again) is also x y =
        same-asked fits asked.start asked.size asked.actions asked.feasible again.start again.size again.actions again.feasible is also x y

  none-withdrawn : (rule : List ℕ) (r : Result Span Refusal) → in_force (withdraw_operation family rule r) ≡ none
  none-withdrawn rule (Ok read) = refl
  none-withdrawn rule (Err refusal) = refl

  same-in-force : Fits family → (k : RuleKey) (call other : Call) → Settled k call → Settled k other → deed call ≡ deed other
      → in_force (operation_of family call) ≡ in_force (operation_of family other)
  same-in-force fits k (announcement lent a) (withdrawal other) s z e = apart (cc)
  same-in-force fits k (withdrawal rule) (announcement lent b) s z e = apart (cc)
  same-in-force fits k (withdrawal rule) (withdrawal other) s z e =
      none-withdrawn rule (one_rule family rule) ∙ sym (none-withdrawn other (one_rule family other))
  same-in-force fits k (announcement lent a) (announcement other b) s z e =
      let founders : a.origin ≡ b.origin = cc in
      let read : actions_of a.communities ≡ actions_of b.communities = cc in
      same-announced k a b s.can.0 z.can.0 founders read fits (request_of family lent a) (request_of family other b)
      (rw s.lent) (rw z.lent) s.about z.about

  same-last : Fits family → (k : RuleKey) (a b : Option Made) → SettledLast k a → SettledLast k b → deed_of a ≡ deed_of b
      → leaves_in_force (operation_made family) a ≡ leaves_in_force (operation_made family) b
  same-last fits k none none s z e = refl
  same-last fits k none (some m) s z e = apart (cc)
  same-last fits k (some m) none s z e = apart (cc)
  same-last fits k (some m) (some l) s z e =
      let deeds : deed m.call ≡ deed l.call = cc in
      same-in-force fits k m.call l.call s z deeds

  -- **two histories** from equal empty buffers that agree on each rule's last counted call end alike
  pub histories-alike : Fits family → (n : ℕ) (h g : List Made) → FromEmpty family n h → FromEmpty family n g → SamePolicy policy h → SamePolicy policy g
      → Agree family h g
      → EndAlike family (end_of (empty_table n) h) (end_of (empty_table n) g)
  histories-alike fits n h g made also same one agree =
      end-alike family (end_of (empty_table n) h) (end_of (empty_table n) g)
      (histories-agree family n h g made also
      (λ k.
      same-last fits k (last_counted family k h) (last_counted family k g) (last-settled k h none made.given same tt) (last-settled k g none also.given one tt)
      (agree k)))
