-- **Each number is given exactly when 01's table says**, of the calls by their promises: which checks of a call's list held, and which did not, is
-- read off its number. Assumes nothing.
use mathlib.Core.Path.{◌≡◌, refl}
use mathlib.Core.Bool.{Bool, true, false}
use mathlib.Core.List.{List, [], ◌∷◌}
use mathlib.Core.Logic.{◌↔◌, ◌⊎◌, inl, inr, ⊎_elim}
use Prim.Native.Nat.{ℕ, ◌<◌, ◌≤◌}
use native.Mathlib.Omega.{arith}
use lib.Dec.{eqb}
use borrow.Author.Tests.{ne_eqb, not-false}
use Rattle.std.proofs.Common.{Result, Ok, Err, Option}
use Rattle.std.specs.declared.cmp.Ordering.{Ordering as Order}
use Rattle.octets.proofs.Cases.{apart}
use Rattle.rule.specs.declared.Family.{Family}
use Rattle.rule.specs.declared.Refusal.{Refusal}
use Rattle.rule.specs.declared.Span.{Span}
use Rattle.rule.specs.Refusal.{number_of, RefusedWith}
use Rattle.rule.specs.Value.{check_value}
use Rattle.rule.specs.Reading.{check_rule}
use Rattle.rule.proofs.RefusalsLaws.{Numbered, value-numbered, rule-numbered}
use Rattle.action.specs.declared.Actions.{Actions}
use Rattle.packet.specs.Packet.{is_unusable}
use Rattle.table.specs.declared.Place.{Place}
use Rattle.route.specs.declared.Origin.{Origin}
use Rattle.lookup.specs.declared.Matched.{Matched}
use Rattle.request.specs.Input.{Announcement, Policy}
use Rattle.flowspec.specs.Told.{done, reading_told, writing_told, comparison_told, feasibility_told, actions_told, announced_told, withdrawn_told, lookup_told, match_place_told}
use Rattle.flowspec.specs.Checks.{Check, check, one_to_seven, told, ends_there, read_checks, write_checks, compare_checks, compare_values, judge_checks, actions_checks, announce_checks, withdraw_checks, lookup_checks, lookup_values, first_match_values}
use Rattle.theorems.specs.Numbers.{Yes, No, Accepts, OneToSeven, ReadNumbers, WriteNumbers, CompareNumbers, JudgeNumbers, ActionsNumbers, AnnounceNumbers, WithdrawNumbers, LookupNumbers}
use Rattle.flowspec.specs.Promise.{ReadsOne, WritesOne, ComparesTwo, JudgesOne, ReadsActions, Announces, Withdraws, LooksUp, LocatesFirst}
use Rattle.theorems.proofs.ChecksLaws.{number_at, value-at, all_hold}

-- a refusal of 1 to 7 has no other check's number, and not 0
pub other : (c : Result Unit Refusal) → Numbered c → (n : ℕ) → 7 < n → eqb (one_to_seven c).number n ≡ false
other (Ok _) h n k = ne_eqb 0 n (λ e. omega arith)
other (Err refusal) h n k = ne_eqb (number_of refusal) n (λ e. omega arith)

pub given : (c : Result Unit Refusal) → Numbered c → (one_to_seven c).holds ≡ false → 1 ≤ (one_to_seven c).number
given (Ok _) h e = apart (cc)
given (Err refusal) h e = h.0

-- a number from 1 to 7 is none of the others
pub far : (m n : ℕ) → n ≤ 7 → 7 < m → eqb m n ≡ false
far m n h k = ne_eqb m n (λ e. omega arith)

module _ (family : Family) (rule : List ℕ) where
  apart_from : (n : ℕ) → 7 < n → eqb (one_to_seven (check_rule family rule)).number n ≡ false
  apart_from = other (check_rule family rule) (rule-numbered family rule)

  named : (one_to_seven (check_rule family rule)).holds ≡ false → 1 ≤ (one_to_seven (check_rule family rule)).number
  named = given (check_rule family rule) (rule-numbered family rule)

-- ---- actions ----

pub actions-numbers : {communities : List ℕ} {answer : Option Actions} {kept : List (List ℕ)} → ReadsActions communities answer kept
    → ActionsNumbers communities (actions_told answer)
actions-numbers {communities} p =
    rw p.tells (record {
      thirteen = number_at (done _) 13 (λ e. omega arith) (actions_checks communities) 0 (refl, tt);
      zero = all_hold _ (actions_checks communities) ((λ h. omega arith), tt);
    })

-- ---- reading ----

pub read-numbers : {family : Family} {rule : List ℕ} {answer : Result Span Refusal} {kept : List (List ℕ)} → ReadsOne family rule answer kept → ReadNumbers family rule (reading_told answer)
read-numbers {family} {rule} p =
    rw p.tells (record {
      one-to-seven = λ number place h k. value-at (done _) number (λ e. omega arith) (check_rule family rule) place (read_checks family rule) 0 (refl, (far 15 number k (omega arith), tt));
      fifteen = number_at (done _) 15 (λ e. omega arith) (read_checks family rule) 1 (apart_from family rule 15 (omega arith), (refl, tt));
      zero = all_hold _ (read_checks family rule) (named family rule, ((λ h. omega arith), tt));
    })

-- ---- writing ----

pub write-numbers : {family : Family} {value buffer : List ℕ} {answer : Result ℕ Refusal} {exit : List ℕ} {kept : List (List ℕ)} → WritesOne family value buffer answer exit kept
    → WriteNumbers family value buffer (writing_told answer)
write-numbers {family} {value} {buffer} p =
    let n = value-numbered family value in
    rw p.tells (record {
      one-to-seven = λ number place h k. value-at (done _) number (λ e. omega arith) (check_value family value) place (write_checks family value buffer) 0 (refl, (far 16 number k (omega arith), tt));
      sixteen = number_at (done _) 16 (λ e. omega arith) (write_checks family value buffer) 1 (other (check_value family value) n 16 (omega arith), (refl, tt));
      zero = all_hold _ (write_checks family value buffer) (given (check_value family value) n, ((λ h. omega arith), tt));
    })

-- ---- comparing ----

-- the checks of two rules, by what each comes to
module _ (values : List ℕ) (d : Result Unit Refusal) (y : Bool) (right : Numbered d) where
  abbrev both : Result Unit Refusal → Bool → List Check
  both c x = one_to_seven c ∷ check x 15 ∷ one_to_seven d ∷ check y 15 ∷ []

  both-seven : (c : Result Unit Refusal) (x : Bool) → Numbered c → OneToSeven (told (both c x) (done values)) (λ number place. RefusedWith c number place
      ⊎ (Accepts c × (Yes x × RefusedWith d number place)))
  both-seven (Ok _) true left number place h k =
      let rest = value-at (done values) number (λ e. omega arith) d place (one_to_seven d ∷ check y 15 ∷ []) 0 (refl, (far 15 number k (omega arith), tt)) in
      ((λ e. inr (refl, (refl, rest.0 e))), ⊎_elim (λ b. absurd b) (λ b. rest.1 b.1.1))
  both-seven (Ok _) false left number place h k =
      ((λ e. let z = e.0 in absurd (omega arith)), ⊎_elim (λ b. absurd b) (λ b. let z : false ≡ true = b.1.0 in apart (cc)))
  both-seven (Err refusal) x left number place h k =
      ((λ e. inl e), ⊎_elim (λ b. b) (λ b. let z : false ≡ true = b.0 in apart (cc)))

  both-fifteen : (c : Result Unit Refusal) (x : Bool) → Numbered c
      → ((told (both c x) (done values)).number ≡ 15) ↔ ((Accepts c × No x) ⊎ (Accepts c × (Yes x × (Accepts d × No y))))
  both-fifteen (Ok _) true left =
      let rest = number_at (done values) 15 (λ e. omega arith) (one_to_seven d ∷ check y 15 ∷ []) 1 (other d right 15 (omega arith), (refl, tt)) in
      ((λ e. inr (refl, (refl, rest.0 e))), ⊎_elim (λ b. let z : true ≡ false = b.1 in apart (cc)) (λ b. rest.1 b.1.1))
  both-fifteen (Ok _) false left = ((λ e. inl (refl, refl)), (λ b. refl))
  both-fifteen (Err refusal) x left =
      ((λ e. absurd (omega arith)), ⊎_elim (λ b. let z : false ≡ true = b.0 in apart (cc)) (λ b. let z : false ≡ true = b.0 in apart (cc)))

pub compare-numbers : {family : Family} {first second : List ℕ} {answer : Result Order Refusal} {kept : List (List ℕ)} → ComparesTwo family first second answer kept
    → CompareNumbers family first second (comparison_told answer)
compare-numbers {family} {first} {second} p =
    let left = rule-numbered family first in
    let right = rule-numbered family second in
    rw p.tells (record {
      one-to-seven = both-seven (compare_values family first second) (check_rule family second) (ends_there second) right (check_rule family first) (ends_there first) left;
      fifteen = both-fifteen (compare_values family first second) (check_rule family second) (ends_there second) right (check_rule family first) (ends_there first) left;
      zero = all_hold _ (compare_checks family first second) (named family first, ((λ h. omega arith), (named family second, ((λ h. omega arith), tt))));
    })

-- ---- judging ----

pub judge-numbers : {family : Family} {policy : Policy} {rule : List ℕ} {origin : Origin} {answer : Result Unit Refusal} {kept : List (List ℕ)}
    → JudgesOne family policy rule origin answer kept → JudgeNumbers family policy rule origin (feasibility_told answer)
judge-numbers {family} {policy} {rule} {origin} p =
    let cs = judge_checks family policy rule origin in
    let fifteen = apart_from family rule 15 (omega arith) in
    rw p.tells (record {
      nine = number_at (done _) 9 (λ e. omega arith) cs 0 (refl, (apart_from family rule 9 (omega arith), (refl, (refl, tt))));
      one-to-seven = λ number place h k.
          value-at (done _) number (λ e. omega arith) (check_rule family rule) place cs 1 (far 9 number k (omega arith), (refl, (far 15 number k (omega arith), (far 8 number k (omega arith), tt))));
      fifteen = number_at (done _) 15 (λ e. omega arith) cs 2 (refl, (fifteen, (refl, (refl, tt))));
      eight = number_at (done _) 8 (λ e. omega arith) cs 3 (refl, (apart_from family rule 8 (omega arith), (refl, (refl, tt))));
      zero = all_hold _ cs ((λ h. omega arith), (named family rule, ((λ h. omega arith), ((λ h. omega arith), tt))));
    })

-- ---- announcing ----

pub announce-numbers : {family : Family} {policy : Policy} {a : Announcement} {table : List ℕ} {answer : Result ℕ Refusal} {exit : List ℕ} {kept : List (List ℕ)}
    → Announces family policy a table answer exit kept → AnnounceNumbers family policy a table (announced_told answer)
announce-numbers {family} {policy} {a} {table} p =
    let cs = announce_checks family policy a table in
    rw p.tells (record {
      ten = number_at (done _) 10 (λ e. omega arith) cs 0 (refl, (refl, (apart_from family a.rule 10 (omega arith), (refl, (refl, (refl, (refl, tt)))))));
      nine = number_at (done _) 9 (λ e. omega arith) cs 1 (refl, (refl, (apart_from family a.rule 9 (omega arith), (refl, (refl, (refl, (refl, tt)))))));
      one-to-seven = λ number place h k.
          value-at (done _) number (λ e. omega arith) (check_rule family a.rule) place cs 2 (
            far 10 number k (omega arith),
            (
              far 9 number k (omega arith),
              (
                refl,
                (
                  far 15 number k (omega arith),
                  (far 13 number k (omega arith), (far 8 number k (omega arith), (far 11 number k (omega arith), tt))),
                ),
              ),
            ),
          );
      fifteen = number_at (done _) 15 (λ e. omega arith) cs 3 (refl, (refl, (apart_from family a.rule 15 (omega arith), (refl, (refl, (refl, (refl, tt)))))));
      thirteen = number_at (done _) 13 (λ e. omega arith) cs 4 (refl, (refl, (apart_from family a.rule 13 (omega arith), (refl, (refl, (refl, (refl, tt)))))));
      eight = number_at (done _) 8 (λ e. omega arith) cs 5 (refl, (refl, (apart_from family a.rule 8 (omega arith), (refl, (refl, (refl, (refl, tt)))))));
      eleven = number_at (done _) 11 (λ e. omega arith) cs 6 (refl, (refl, (apart_from family a.rule 11 (omega arith), (refl, (refl, (refl, (refl, tt)))))));
      zero = all_hold _ cs ((λ h. omega arith), ((λ h. omega arith), (named family a.rule, ((λ h. omega arith), ((λ h. omega arith), ((λ h. omega arith), ((λ h. omega arith), tt)))))));
    })

-- ---- withdrawing ----

pub withdraw-numbers : {family : Family} {rule table : List ℕ} {answer : Result Unit Refusal} {exit : List ℕ} {kept : List (List ℕ)} → Withdraws family rule table answer exit kept
    → WithdrawNumbers family rule table (withdrawn_told answer)
withdraw-numbers {family} {rule} {table} p =
    let cs = withdraw_checks family rule table in
    rw p.tells (record {
      ten = number_at (done _) 10 (λ e. omega arith) cs 0 (refl, (apart_from family rule 10 (omega arith), (refl, (refl, tt))));
      one-to-seven = λ number place h k.
          value-at (done _) number (λ e. omega arith) (check_rule family rule) place cs 1 (far 10 number k (omega arith), (refl, (far 15 number k (omega arith), (far 14 number k (omega arith), tt))));
      fifteen = number_at (done _) 15 (λ e. omega arith) cs 2 (refl, (apart_from family rule 15 (omega arith), (refl, (refl, tt))));
      fourteen = number_at (done _) 14 (λ e. omega arith) cs 3 (refl, (apart_from family rule 14 (omega arith), (refl, (refl, tt))));
      zero = all_hold _ cs ((λ h. omega arith), (named family rule, ((λ h. omega arith), ((λ h. omega arith), tt))));
    })

-- ---- looking up ----

lookup-numbers-of : (family : Family) (table packet values : List ℕ) → LookupNumbers family table packet (told (lookup_checks family table packet) (done values))
lookup-numbers-of family table packet values =
    let cs = lookup_checks family table packet in
    let unusable = number_at (done values) 12 (λ e. omega arith) cs 1 (refl, (refl, tt)) in
    record {
      ten = number_at (done values) 10 (λ e. omega arith) cs 0 (refl, (refl, tt));
      twelve = ((λ e. ((unusable.0 e).0, not-false (is_unusable family packet) (unusable.0 e).1)), (λ b. unusable.1 (b.0, rw b.1)));
      zero = all_hold values cs ((λ h. omega arith), ((λ h. omega arith), tt));
    }

pub lookup-numbers : {family : Family} {table packet : List ℕ} {answer : Result (Option Matched) Refusal} {kept : List (List ℕ)} → LooksUp family table packet answer kept
    → LookupNumbers family table packet (lookup_told answer)
lookup-numbers {family} {table} {packet} p = rw p.tells (lookup-numbers-of family table packet (lookup_values family table packet))

pub first-match-numbers : {family : Family} {table packet : List ℕ} {answer : Result Place Refusal} {kept : List (List ℕ)} → LocatesFirst family table packet answer kept
    → LookupNumbers family table packet (match_place_told answer)
first-match-numbers {family} {table} {packet} p = rw p.tells (lookup-numbers-of family table packet (first_match_values family table packet))
