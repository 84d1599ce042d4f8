-- **Demand 3 is about something**: the worked histories of a scene (specs/Worked.antt) happen, and what the theorems on histories say of them
-- is that the first ends in a table which holds the one rule and not the other; that the second, and the third of whole attributes, which
-- agree with it, end alike; that the table at their end judges a packet as matched; and that the fourth, whose routes change, ends in a
-- table which holds the other rule and not the one. Of a scene this is shown from what is computed of it (`Computed`), once for every
-- family; Scene4.antt and Scene6.antt compute it.
use mathlib.Core.Path.{◌≡◌, refl, sym, ap, ◌∙◌}
use mathlib.Core.Bool.{Bool, true, false, cond}
use mathlib.Core.List.{List, [], ◌∷◌, map, Memᴰ}
use mathlib.Core.Option.{none, some}
use Prim.Native.Nat.{ℕ, zero, suc, ◌≤◌}
use native.Mathlib.Omega.{arith}
use lib.Dec.{leb, ltb, compare_is_eq}
use lib.ListN.{length, replicate}
use borrow.Author.Tests.{leb-true, ltb-true}
use Rattle.std.proofs.Common.{Result, Ok, Err, Option, Some}
use Rattle.octets.specs.Test.{every}
use Rattle.octets.proofs.Cases.{by-test, apart, both}
use Rattle.octets.proofs.Facts.{Octets}
use Rattle.rule.specs.declared.Refusal.{Refusal}
use Rattle.rule.specs.declared.Refusal.TheVariants.{Infeasible, NotHeld}
use Rattle.rule.specs.Family.{Fits}
use Rattle.rule.specs.Reading.{one_rule, value_of, span}
use Rattle.spelling.specs.Plain.{plain}
use Rattle.order.specs.Key.{keys_of, RuleKey, key_order}
use Rattle.order.proofs.KeyLaws.{key-order}
use Rattle.action.specs.Actions.{actions_of}
use Rattle.entry.specs.Entry.{Entry, entry_key}
use Rattle.table.specs.Sound.{most_octets}
use Rattle.table.specs.Walk.{entries}
use Rattle.lookup.specs.declared.Matched.{Matched}
use Rattle.request.specs.Request.{request_of, request}
use Rattle.flowspec.specs.Announce.{announcing, withdrawing}
use Rattle.flowspec.specs.Look.{looking_up}
use Rattle.flowspec.specs.Told.{lookup_told, done}
use Rattle.flowspec.specs.Promise.{LooksUp}
use Rattle.flowspec.proofs.TableLaws.{announce-kept, withdraw-kept}
use Rattle.update.specs.Apply.{reaching, unreaching, reached}
use Rattle.history.specs.History.{Made, announced, withdrew, deed_of, empty_table, end_of, last_counted, in_force_after, SamePolicy, Agree, FromEmpty, HoldsExactly, EndAlike}
use Rattle.history.specs.Attributes.{reach, unreach, single, end_of_events, singles_of, EventsFromEmpty}
use Rattle.history.specs.Worked.{Scene, seven, dropping, dropping_spelled, taken_as_zero, drops, marks, entry, other_entry, owned, foreign, respelled, marked, other_dropped, unrouted, worked, other, both_reached, attributes, standing, rerouted}
use Rattle.history.proofs.HistoryLaws.{history-holds}
use Rattle.history.proofs.AgreeLaws.{tie, histories-alike}
use Rattle.history.proofs.AttributeLaws.{singles-from-empty, lent-events, events-alike}
use Rattle.history.proofs.AttributesHappen.{left-promised}

-- octets, by a test
abbrev AreOctets : List ℕ → Type 0
AreOctets s = every (λ x. ltb x 256) s ≡ true

octets-each : (s : List ℕ) → AreOctets s → Octets s
unfolding every
octets-each [] e = λ i. omega arith
octets-each (x ∷ s) e =
    first (octets-each s (both (ltb x 256) (every (λ x. ltb x 256) s) e).1)
  where
    first : Octets s → Octets (x ∷ s)
    first h zero = ltb-true x 256 (both (ltb x 256) (every (λ x. ltb x 256) s) e).0
    first h (suc i) = h i

-- all that is computed of a scene: what each call answers and leaves, what it asks, that rules and their keys are as they look, and two
-- lookups
pub record Computed (s : Scene) : Type 0 where
  pub fits : leb s.size most_octets ≡ true
  pub announces : announcing s.family s.policy (owned s) (empty_table s.size) ≡ record { answer = Ok taken_as_zero; table = s.one }
  pub adds : announcing s.family s.policy (marked s) s.one ≡ record { answer = Ok 0; table = s.both }
  pub removes : announcing s.family s.policy (foreign s) s.both ≡ record { answer = Err Infeasible; table = s.another }
  pub again : announcing s.family s.policy (owned s) s.another ≡ record { answer = Ok taken_as_zero; table = s.both }
  pub withdraws : withdrawing s.family s.other_rule s.both ≡ record { answer = Ok tt; table = s.one }
  pub withdraws_none : withdrawing s.family s.other_rule (empty_table s.size) ≡ record { answer = Err NotHeld; table = empty_table s.size }
  pub announces_spelled : announcing s.family s.policy (respelled s) (empty_table s.size) ≡ record { answer = Ok taken_as_zero; table = s.one }
  pub removes_unrouted : announcing s.family unrouted (owned s) s.both ≡ record { answer = Err Infeasible; table = s.another }
  pub reaches : reaching s.family s.policy (both_reached s) (empty_table s.size) (99 ∷ 99 ∷ 99 ∷ [])
      ≡ record { answer = Ok (reached 2 taken_as_zero); table = s.dropped; words = 0 ∷ 0 ∷ 99 ∷ [] }
  pub unreaches : unreaching s.family s.unreached_other s.dropped (99 ∷ []) ≡ record { answer = Ok 1; table = s.one; words = 0 ∷ [] }
  pub stands : singles_of s.family (empty_table s.size) (attributes s) ≡ standing s
  pub asked_owned : request_of s.family s.policy (owned s) ≡ Ok (request 1 (length s.value) drops true)
  pub asked_foreign : request_of s.family s.policy (foreign s) ≡ Ok (request 1 (length s.value) drops false)
  pub asked_spelled : request_of s.family s.policy (respelled s) ≡ Ok (request 2 (length s.value) drops true)
  pub asked_marked : request_of s.family s.policy (marked s) ≡ Ok (request 1 (length s.other_value) marks true)
  pub asked_dropped : request_of s.family s.policy (other_dropped s) ≡ Ok (request 1 (length s.other_value) drops true)
  pub read_other : one_rule s.family s.other_rule ≡ Ok (span 1 (length s.other_value))
  pub plain_one : plain s.family (value_of s.rule 1 (length s.value)) ≡ s.value
  pub plain_spelled : plain s.family (value_of s.spelled 2 (length s.value)) ≡ s.value
  pub plain_other : plain s.family (value_of s.other_rule 1 (length s.other_value)) ≡ s.other_value
  pub read : actions_of dropping ≡ Some drops
  pub read_spelled : actions_of dropping_spelled ≡ Some drops
  pub differ : compare_is_eq (key_order (keys_of s.family s.value) (keys_of s.family s.other_value)) ≡ false
  pub octets_one : AreOctets s.rule
  pub octets_spelled : AreOctets s.spelled
  pub octets_other : AreOctets s.other_rule
  pub octets_reached : AreOctets s.reached_both
  pub in_force : in_force_after s.family (worked s) (entry_key s.family (entry s)) ≡ some (entry s)
  pub gone : in_force_after s.family (worked s) (keys_of s.family s.other_value) ≡ none
  pub in_force_unrouted : in_force_after s.family (rerouted s) (entry_key s.family (other_entry s)) ≡ some (other_entry s)
  pub gone_unrouted : in_force_after s.family (rerouted s) (keys_of s.family s.value) ≡ none
  pub judges_matched : lookup_told (looking_up s.family s.one s.met) ≡ done (1 ∷ 1 ∷ 0 ∷ 0 ∷ 0 ∷ 0 ∷ taken_as_zero ∷ [])
  pub judges_unmatched : lookup_told (looking_up s.family s.one s.missed) ≡ done (replicate 7 0)

-- the table that a history of a scene leaves, and what is said of it
module _ (s : Scene) (h : List Made) where
  abbrev left : List ℕ
  left = end_of (empty_table s.size) h

  abbrev Holds : Type 0
  Holds = HoldsExactly s.family s.size h left

  abbrev Stands : Entry → Type 0
  Stands e = Memᴰ e (entries left)

  abbrev Gone : List ℕ → Type 0
  Gone value = (e : Entry) → entry_key s.family e ≡ keys_of s.family value → Stands e → ⊥

  abbrev Judges : List ℕ → List ℕ → Type 0
  Judges packet values = (answer : Result (Option Matched) Refusal) (kept : List (List ℕ)) → LooksUp s.family left packet answer kept → lookup_told answer ≡ done values

-- **what is shown of a scene.** The first history ends in a table that holds exactly what is in force (`holds`): the one rule, with its
-- originator and actions (`one_held`), and not the other (`other_gone`); a packet that the one rule meets is matched there by one rule, which
-- drops it and notes that its rate was taken as zero (`met`), and one that it does not meet is not (`missed`). The second history and the
-- third, of attributes, end alike. The fourth, whose routes change, holds exactly what is in force (`rerouted_holds`): the other rule
-- (`rerouted_held`), and not the one (`rerouted_gone`).
pub record Shown (s : Scene) : Type 0 where
  pub holds : Holds s (worked s)
  pub one_held : Stands s (worked s) (entry s)
  pub other_gone : Gone s (worked s) s.other_value
  pub met : Judges s (worked s) s.met (1 ∷ 1 ∷ 0 ∷ 0 ∷ 0 ∷ 0 ∷ taken_as_zero ∷ [])
  pub missed : Judges s (worked s) s.missed (replicate 7 0)
  pub alike : EndAlike s.family (left s (worked s)) (left s (other s))
  pub attributes_alike : EndAlike s.family (end_of_events (empty_table s.size) (attributes s)) (left s (worked s))
  pub rerouted_holds : Holds s (rerouted s)
  pub rerouted_held : Stands s (rerouted s) (other_entry s)
  pub rerouted_gone : Gone s (rerouted s) s.value

module _ (s : Scene) (c : Computed s) where
  within : s.size ≤ most_octets
  within = leb-true s.size most_octets c.fits

  -- **the histories happen**
  worked-happened : FromEmpty s.family s.size (worked s)
  worked-happened =
      let rule = octets-each s.rule c.octets_one in
      record {
        fits = within;
        given = ((rule, omega arith), ((octets-each s.other_rule c.octets_other, omega arith), ((rule, omega arith), ((rule, omega arith), (tt, tt)))));
        happened = (
          announce-kept s.family s.policy (owned s) (empty_table s.size) _ (Ok taken_as_zero) s.one c.announces refl refl,
          (
            announce-kept s.family s.policy (marked s) s.one _ (Ok 0) s.both c.adds refl refl,
            (
              announce-kept s.family s.policy (foreign s) s.both _ (Err Infeasible) s.another c.removes refl refl,
              (
                announce-kept s.family s.policy (owned s) s.another _ (Ok taken_as_zero) s.both c.again refl refl,
                (withdraw-kept s.family s.other_rule s.both _ (Ok tt) s.one c.withdraws refl refl, tt),
              ),
            ),
          ),
        );
      }

  other-happened : FromEmpty s.family s.size (other s)
  other-happened =
      record {
        fits = within;
        given = (tt, ((octets-each s.spelled c.octets_spelled, omega arith), tt));
        happened = (
          withdraw-kept s.family s.other_rule (empty_table s.size) _ (Err NotHeld) (empty_table s.size) c.withdraws_none refl refl,
          (announce-kept s.family s.policy (respelled s) (empty_table s.size) _ (Ok taken_as_zero) s.one c.announces_spelled refl refl, tt),
        );
      }

  attributes-happened : EventsFromEmpty s.family s.size (attributes s)
  attributes-happened =
      record {
        fits = within;
        given = ((octets-each s.reached_both c.octets_reached, omega arith), (tt, tt));
        happened = (
          left-promised s.family (reach s.policy (both_reached s)) (empty_table s.size) (99 ∷ 99 ∷ 99 ∷ []) _ c.reaches,
          (left-promised s.family (unreach s.unreached_other) s.dropped (99 ∷ []) _ c.unreaches, tt),
        );
      }

  rerouted-happened : FromEmpty s.family s.size (rerouted s)
  rerouted-happened =
      let rule = octets-each s.rule c.octets_one in
      record {
        fits = within;
        given = ((rule, omega arith), ((octets-each s.other_rule c.octets_other, omega arith), ((rule, omega arith), tt)));
        happened = (
          announce-kept s.family s.policy (owned s) (empty_table s.size) _ (Ok taken_as_zero) s.one c.announces refl refl,
          (
            announce-kept s.family s.policy (marked s) s.one _ (Ok 0) s.both c.adds refl refl,
            (announce-kept s.family unrouted (owned s) s.both _ (Err Infeasible) s.another c.removes_unrouted refl refl, tt),
          ),
        );
      }

  -- what is not in force is not held
  none-held : (h : List Made) (value : List ℕ) → Holds s h → in_force_after s.family h (keys_of s.family value) ≡ none → Gone s h value
  none-held h value holds gone e same stands =
      let nothing : none ≡ some e = sym gone ∙ ap (in_force_after s.family h) (sym same) ∙ (holds.exactly e).0 stands in
      apart (cc)

  -- the last counted calls of each, by the rule that they are about
  module _ (k : RuleKey) where
    abbrev about_one : Bool
    about_one = compare_is_eq (key_order k (keys_of s.family s.value))

    abbrev about_other : Bool
    about_other = compare_is_eq (key_order k (keys_of s.family s.other_value))

    last-worked : deed_of (last_counted s.family k (worked s))
        ≡ cond about_other (some withdrew) (cond about_one (some (announced seven (Some drops))) none)
    last-worked =
        rw (c.asked_owned, c.asked_foreign, c.asked_marked, c.read_other, c.plain_one, c.plain_other)
        (by-test about_other (λ e. rw e) (λ e. by-test about_one (λ f. rw (e, f, c.read)) (λ f. rw (e, f))))

    last-standing : deed_of (last_counted s.family k (standing s))
        ≡ cond about_other (some withdrew) (cond about_one (some (announced seven (Some drops))) none)
    last-standing =
        rw (c.asked_owned, c.asked_dropped, c.read_other, c.plain_one, c.plain_other)
        (by-test about_other (λ e. rw e) (λ e. by-test about_one (λ f. rw (e, f, c.read)) (λ f. rw (e, f))))

    last-other : deed_of (last_counted s.family k (other s))
        ≡ cond about_one (some (announced seven (Some drops))) (cond about_other (some withdrew) none)
    last-other =
        rw (c.asked_spelled, c.read_other, c.plain_spelled, c.plain_other)
        (by-test about_one (λ e. rw (e, c.read_spelled)) (λ e. by-test about_other (λ f. rw (e, f)) (λ f. rw (e, f))))

    not-both : about_one ≡ true → about_other ≡ false
    not-both e = rw (key-order.only k (keys_of s.family s.value) (tie _ e)) c.differ

    same-deed : deed_of (last_counted s.family k (worked s)) ≡ deed_of (last_counted s.family k (other s))
    same-deed =
        last-worked
        ∙ by-test about_one (λ e. rw (e, not-both e)) (λ e. rw e)
        ∙ sym last-other

  -- all calls of the first two were lent one policy
  worked-lent : SamePolicy s.policy (worked s)
  worked-lent = (refl, (refl, (refl, (refl, (tt, tt)))))

  other-lent : SamePolicy s.policy (other s)
  other-lent = (tt, (refl, tt))

  -- the attributes stand for single calls that agree with the first
  attributes-agree : Agree s.family (singles_of s.family (empty_table s.size) (attributes s)) (worked s)
  attributes-agree k = ap (λ h. deed_of (last_counted s.family k h)) c.stands ∙ last-standing k ∙ sym (last-worked k)

  pub shown : Fits s.family → Shown s
  shown fits =
      let holds = history-holds s.family s.size (worked s) worked-happened in
      let changed = history-holds s.family s.size (rerouted s) rerouted-happened in
      record {
        holds = holds;
        one_held = (holds.exactly (entry s)).1 c.in_force;
        other_gone = none-held (worked s) s.other_value holds c.gone;
        met = λ answer kept p. ap lookup_told p.is ∙ c.judges_matched;
        missed = λ answer kept p. ap lookup_told p.is ∙ c.judges_unmatched;
        alike = histories-alike s.family s.policy fits s.size (worked s) (other s) worked-happened other-happened worked-lent other-lent same-deed;
        attributes_alike =
            events-alike s.family s.size fits s.policy (attributes s) (map single (worked s)) attributes-happened
            (singles-from-empty s.family s.size (worked s) worked-happened) (refl, (tt, tt))
            (lent-events s.family s.policy (worked s) worked-lent) attributes-agree;
        rerouted_holds = changed;
        rerouted_held = (changed.exactly (other_entry s)).1 c.in_force_unrouted;
        rerouted_gone = none-held (rerouted s) s.value changed c.gone_unrouted;
      }
