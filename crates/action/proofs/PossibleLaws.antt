-- The actions that some communities could give: all that are read are such (`read-possible`).
use Prim.Native.Nat.{ℕ, ◌/◌, ◌%◌, ◌^◌}
use mathlib.Core.Path.{◌≡◌, refl}
use mathlib.Core.Bool.{Bool, true, false, cond, and-eq-true_iff, ◌||◌}
use mathlib.Core.List.{List, [], ◌∷◌, map, map-id}
use native.Mathlib.Nat.{mod-lt}
use borrow.Author.Tests.{lt-ltb}
use lib.Dec.{ltb, lit<}
use lib.ListN.{length}
use Rattle.std.proofs.Common.{Option, Some, None}
use Rattle.octets.proofs.Cases.{by-test, apart}
use Rattle.rate.specs.declared.Rate.{Rate}
use Rattle.rate.proofs.RatesGiven.{complete}
use Rattle.rate.specs.Rate.{note_number}
use Rattle.action.specs.declared.Actions.{Actions}
use Rattle.action.specs.Given.{allowed}
use Rattle.action.specs.Limit.{limit, could_be_limit}
use Rattle.action.specs.Actions.{is_byte_rate, is_packet_rate, is_marking, is_redirect, of_type, rate_in, rates_of, marking_in, smallest, first, rule_actions, wrong_rate, wrong_length, communities_of, actions_of}
use Rattle.action.specs.Possible.{could_be}
use Rattle.action.proofs.GivenLaws.{Fine, fine-absent, fine-given}
use Rattle.action.proofs.LimitLaws.{none-could, rate-could, smaller-could}

-- What is asked of a marking and of a redirect.
abbrev pub six_bits : ℕ → Bool
six_bits n = ltb n (2 ^ 6)

abbrev pub redirect_type : ℕ → Bool
redirect_type n = is_redirect (n / 2 ^ 48)

-- The four parts of `could_be`.
pub record Could (a : Actions) : Type 0 where
  pub bytes : could_be_limit a.bytes ≡ true
  pub packets : could_be_limit a.packets ≡ true
  pub marks : Fine six_bits a.marking
  pub redirects : Fine redirect_type a.redirect

pub could : (a : Actions) → could_be a ≡ true → Could a
unfolding could_be
could a h =
    let r = (and-eq-true_iff _ (allowed a.redirect.present a.redirect.number (is_redirect (a.redirect.number / 2 ^ 48)))).0 h in
    let m = (and-eq-true_iff _ (allowed a.marking.present a.marking.number (ltb a.marking.number (2 ^ 6)))).0 r.0 in
    let p = (and-eq-true_iff _ (could_be_limit a.packets)).0 m.0 in
    record { bytes = p.0; packets = p.1; marks = m.1; redirects = r.1 }

pub could-be : (a : Actions) → Could a → could_be a ≡ true
unfolding could_be
could-be a c = rw (c.bytes, c.packets, c.marks, c.redirects)

-- A rate read could be the limit, where the smallest of the others could.
rate-smallest : (c : ℕ) (rates : List (Option Rate)) → could_be_limit (smallest rates) ≡ true → (r : Option Rate) → rate_in c ≡ r → could_be_limit (smallest (r ∷ rates)) ≡ true
unfolding smallest
rate-smallest c rates p (Some r) h =
    smaller-could (limit r.number (note_number r.note)) (smallest rates) (rate-could r.number (note_number r.note) (complete (c % 2 ^ 32) r h)) p
rate-smallest c rates p None h = p

-- The smallest of rates read could be.
rates-could : (test : ℕ → Bool) (cs : List ℕ) → could_be_limit (smallest (rates_of test cs)) ≡ true
unfolding of_type smallest
rates-could test [] = none-could
rates-could test (c ∷ cs) =
    by-test (test (c / 2 ^ 48)) (λ h. rw h (rate-smallest c (rates_of test cs) (rates-could test cs) (rate_in c) refl)) (λ h. rw h (rates-could test cs))

-- The first of several numbers passes where what is made of a community of their type does.
fine-first-of : (test type : ℕ → Bool) (make : ℕ → ℕ) → ((c : ℕ) → type (c / 2 ^ 48) ≡ true → test (make c) ≡ true)
    → (cs : List ℕ) → Fine test (first (map make (of_type type cs)))
unfolding of_type first
fine-first-of test type make keeps [] = fine-absent test
fine-first-of test type make keeps (c ∷ cs) =
    by-test (type (c / 2 ^ 48)) (λ h. rw h (fine-given test (make c) (keeps c h))) (λ h. rw h (fine-first-of test type make keeps cs))

rule-could : (cs : List ℕ) → Could (rule_actions cs)
unfolding rule_actions
rule-could cs =
    record {
      bytes = rates-could is_byte_rate cs;
      packets = rates-could is_packet_rate cs;
      marks = fine-first-of six_bits is_marking marking_in (λ c h. lt-ltb (marking_in c) (2 ^ 6) (mod-lt c (lit< tt))) cs;
      redirects = rw (map-id (of_type is_redirect cs)) at (fine-first-of redirect_type is_redirect (λ c. c) (λ c h. h) cs);
    }

-- Every actions read could be.
pub read-possible : (s : List ℕ) (a : Actions) → actions_of s ≡ Some a → could_be a ≡ true
unfolding actions_of
read-possible s a h = on (wrong_length (length s) || wrong_rate (communities_of s)) h
  where
    on : (wrong : Bool) → cond wrong None (Some (rule_actions (communities_of s))) ≡ Some a → could_be a ≡ true
    on true e = apart (cc)
    on false e = let same : rule_actions (communities_of s) ≡ a = cc in rw (← same) (could-be _ (rule-could (communities_of s)))
