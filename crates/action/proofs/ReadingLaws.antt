-- How the code reads comes to what 01 says of the communities of a rule (`by-reading`): each adds to the field of its kind.
use Prim.Native.Nat.{ℕ, ◌/◌, ◌^◌}
use mathlib.Core.Path.{◌≡◌, refl}
use mathlib.Core.Bool.{Bool, true, false, or-false, or-true, cond, ◌||◌}
use mathlib.Core.List.{List, [], ◌∷◌, map}
use borrow.Author.Tests.{eqb-true}
use lib.ListN.{length}
use Rattle.std.proofs.Common.{Option, Some, None, option_and_then}
use Rattle.octets.specs.Test.{one_holds}
use Rattle.octets.proofs.Cases.{by-test}
use Rattle.rate.specs.declared.Rate.{Rate}
use Rattle.rate.specs.Rate.{note_number}
use Rattle.action.specs.declared.Actions.{Actions}
use Rattle.action.specs.declared.Given.{Given}
use Rattle.action.specs.declared.Kind.{Kind}
use Rattle.action.specs.declared.Kind.TheVariants.{ByteRate, PacketRate, TrafficAction, Redirect, Marking, Other}
use Rattle.action.specs.declared.Limit.{Limit}
use Rattle.action.specs.Given.{absent, given, first_of}
use Rattle.action.specs.Limit.{no_limit, limit, smaller_of}
use Rattle.action.specs.Actions.{no_actions, is_byte_rate, is_packet_rate, is_traffic_action, is_marking, is_redirect, of_type, rate_in, rates_of, sets_s, sets_t, marking_in, smallest, first, rule_actions, wrong_rate, wrong_length, communities_of, actions_of}
use Rattle.action.specs.Reading.{kind_of, with_byte_rate, with_packet_rate, with_marking, with_redirect, with_rate, with_kind, with_community, with_communities}
use Rattle.action.proofs.GivenLaws.{first-assoc, first_one, or_assoc}
use Rattle.action.proofs.LimitLaws.{smaller-assoc, smaller-one}

-- What the five tests say of a type.
record Tests (type : ℕ) (b p t m r : Bool) : Type 0 where
  bytes : is_byte_rate type ≡ b
  packets : is_packet_rate type ≡ p
  traffic : is_traffic_action type ≡ t
  marking : is_marking type ≡ m
  redirect : is_redirect type ≡ r

-- At most one of them passes, the one of the type's kind.
abbrev Of : Kind → ℕ → Type 0
Of ByteRate type = Tests type true false false false false
Of PacketRate type = Tests type false true false false false
Of TrafficAction type = Tests type false false true false false
Of Marking type = Tests type false false false true false
Of Redirect type = Tests type false false false false true
Of Other type = Tests type false false false false false

tests : (type : ℕ) → Of (kind_of type) type
unfolding kind_of
tests type =
    by-test (is_byte_rate type) (λ e. rw (eqb-true type 0x8006 e) (record { bytes = refl; packets = refl; traffic = refl; marking = refl; redirect = refl }))
    (λ b. by-test (is_packet_rate type) (λ e. rw (eqb-true type 0x800c e) (record { bytes = refl; packets = refl; traffic = refl; marking = refl; redirect = refl }))
    (λ p. by-test (is_traffic_action type) (λ e. rw (eqb-true type 0x8007 e) (record { bytes = refl; packets = refl; traffic = refl; marking = refl; redirect = refl }))
    (λ t. by-test (is_marking type) (λ e. rw (eqb-true type 0x8009 e) (record { bytes = refl; packets = refl; traffic = refl; marking = refl; redirect = refl }))
    (λ m. by-test (is_redirect type)
    (λ r. rw (b, p, t, m, r) (record { bytes = b; packets = p; traffic = t; marking = m; redirect = r }))
    (λ r. rw (b, p, t, m, r) (record { bytes = b; packets = p; traffic = t; marking = m; redirect = r }))))))

-- Actions and those that come after them in the same rule, T too.
abbrev together : Actions → Actions → Actions
together a b =
    record {
      bytes = smaller_of a.bytes b.bytes;
      packets = smaller_of a.packets b.packets;
      sample = a.sample || b.sample;
      onward = a.onward || b.onward;
      marking = first_of a.marking b.marking;
      redirect = first_of a.redirect b.redirect;
    }

-- What is missing stands as 0.
record Tidy (a : Actions) : Type 0 where
  bytes : smaller_of a.bytes no_limit ≡ a.bytes
  packets : smaller_of a.packets no_limit ≡ a.packets
  marking : first_of a.marking absent ≡ a.marking
  redirect : first_of a.redirect absent ≡ a.redirect

tidy-smaller : (l : Limit) (number note : ℕ) → smaller_of (smaller_of l (limit number note)) no_limit ≡ smaller_of l (limit number note)
tidy-smaller l number note = rw (smaller-assoc l (limit number note) no_limit, smaller-one number note)

tidy-first : (g : Given) (n : ℕ) → first_of (first_of g (given n)) absent ≡ first_of g (given n)
tidy-first g n = rw (first-assoc g (given n) absent, first_one n absent)

-- The answer from some actions on.
abbrev answer : Actions → List ℕ → Option Actions
answer a cs = cond (wrong_rate cs) None (Some (together a (rule_actions cs)))

module _ (a : Actions) (tidy : Tidy a) (c : ℕ) (cs : List ℕ) (later : (b : Actions) → Tidy b → with_communities b cs ≡ answer b cs) where
  byte_step : (r : Option Rate) → rate_in c ≡ r → Of ByteRate (c / 2 ^ 48)
      → option_and_then (λ b. with_communities b cs) (with_rate (λ l. with_byte_rate a (smaller_of a.bytes l)) r) ≡ answer a (c ∷ cs)
  unfolding with_rate rule_actions of_type smallest one_holds
  byte_step (Some rate) h t =
      rw (t.bytes, t.packets, t.traffic, t.marking, t.redirect, h, ← (smaller-assoc a.bytes (limit rate.number (note_number rate.note)) (smallest (rates_of is_byte_rate cs))))
      (later _ (record { bytes = tidy-smaller a.bytes rate.number (note_number rate.note); packets = tidy.packets; marking = tidy.marking; redirect = tidy.redirect }))
  byte_step None h t = rw (t.bytes, h)

  packet-step : (r : Option Rate) → rate_in c ≡ r → Of PacketRate (c / 2 ^ 48)
      → option_and_then (λ b. with_communities b cs) (with_rate (λ l. with_packet_rate a (smaller_of a.packets l)) r) ≡ answer a (c ∷ cs)
  unfolding with_rate rule_actions of_type smallest one_holds
  packet-step (Some rate) h t =
      rw (t.bytes, t.packets, t.traffic, t.marking, t.redirect, h, ← (smaller-assoc a.packets (limit rate.number (note_number rate.note)) (smallest (rates_of is_packet_rate cs))))
      (later _ (record { bytes = tidy.bytes; packets = tidy-smaller a.packets rate.number (note_number rate.note); marking = tidy.marking; redirect = tidy.redirect }))
  packet-step None h t = rw (t.packets, h, or-true)

  step : (k : Kind) → Of k (c / 2 ^ 48) → option_and_then (λ b. with_communities b cs) (with_kind k a c) ≡ answer a (c ∷ cs)
  unfolding with_kind rule_actions of_type first one_holds
  step ByteRate t = byte_step (rate_in c) refl t
  step PacketRate t = packet-step (rate_in c) refl t
  step TrafficAction t =
      let flags = of_type is_traffic_action cs in
      rw (
        t.bytes,
        t.packets,
        t.traffic,
        t.marking,
        t.redirect,
        ← (or_assoc a.sample (sets_s c) (one_holds sets_s flags)),
        ← (or_assoc a.onward (sets_t c) (one_holds sets_t flags)),
      )
      (later _ (record { bytes = tidy.bytes; packets = tidy.packets; marking = tidy.marking; redirect = tidy.redirect }))
  step Marking t =
      let m = given (marking_in c) in
      let rest = first (map marking_in (of_type is_marking cs)) in
      let same : first_of (first_of a.marking m) rest ≡ first_of a.marking m = rw (first-assoc a.marking m rest, first_one (marking_in c) rest) in
      rw (t.bytes, t.packets, t.traffic, t.marking, t.redirect)
      (rw same at (later (with_marking a (first_of a.marking m)) (record { bytes = tidy.bytes; packets = tidy.packets; marking = tidy-first a.marking (marking_in c); redirect = tidy.redirect })))
  step Redirect t =
      let rest = first (of_type is_redirect cs) in
      let same : first_of (first_of a.redirect (given c)) rest ≡ first_of a.redirect (given c) = rw (first-assoc a.redirect (given c) rest, first_one c rest) in
      rw (t.bytes, t.packets, t.traffic, t.marking, t.redirect)
      (rw same at (later (with_redirect a (first_of a.redirect (given c))) (record { bytes = tidy.bytes; packets = tidy.packets; marking = tidy.marking; redirect = tidy-first a.redirect c })))
  step Other t = rw (t.bytes, t.packets, t.traffic, t.marking, t.redirect) (later a tidy)

nothing-after : (a : Actions) → Tidy a → Some a ≡ answer a []
unfolding rule_actions of_type smallest first one_holds
nothing-after a tidy = rw (tidy.bytes, tidy.packets, tidy.marking, tidy.redirect, or-false a.sample, or-false a.onward)

reads_all : (cs : List ℕ) (a : Actions) → Tidy a → with_communities a cs ≡ answer a cs
unfolding with_communities with_community
reads_all [] a tidy = nothing-after a tidy
reads_all (c ∷ cs) a tidy = step a tidy c cs (λ b t. reads_all cs b t) (kind_of (c / 2 ^ 48)) (tests (c / 2 ^ 48))

-- The actions of a rule are what its communities add to none, one after the other.
pub by-reading : (s : List ℕ) → actions_of s ≡ cond (wrong_length (length s)) None (with_communities no_actions (communities_of s))
unfolding actions_of smaller_of first_of
by-reading s =
    by-test (wrong_length (length s)) (λ h. rw h)
    (λ h. rw (h, reads_all (communities_of s) no_actions (record { bytes = refl; packets = refl; marking = refl; redirect = refl })))
