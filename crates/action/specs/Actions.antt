-- What the communities of one rule ask for (RFC 8955 section 7). A community is eight octets, here one number: its high sixteen bits are
-- its type, and what it carries stands in its low bits. S asks to sample; T asks to go on to later rules. The fields are those of the
-- code's `Actions`: `sample` is S and `onward` is T.
use Rattle.std.specs.Prelude.{ℕ, zero, suc, ◌+◌, ◌*◌, ◌/◌, ◌%◌, ◌^◌, Bool, false, cond, not, ◌||◌, List, [], ◌∷◌, map, ltb, eqb, length, Option, Some, None, is_none}
use Rattle.octets.specs.Bit.{has, bit_if}
use Rattle.octets.specs.Number.{number_at}
use Rattle.octets.specs.Test.{one_holds}
use Rattle.rate.specs.declared.Rate.{Rate}
use Rattle.rate.specs.Rate.{note_number, rate_of}
use Rattle.action.specs.declared.Actions.{Actions}
use Rattle.action.specs.declared.Given.{Given}
use Rattle.action.specs.declared.Limit.{Limit}
use Rattle.action.specs.Given.{absent, given}
use Rattle.action.specs.Limit.{no_limit, limit, smaller_of}

-- 01: "Known: 0x8006 byte rate, 0x800c packet rate, 0x8007, 0x8008/0x8108/0x8208 redirect, 0x8009 marking" (section 7, table 8). First the
-- type of a byte rate (section 7.1); of each type both octets count.
abbrev pub is_byte_rate : ℕ → Bool
is_byte_rate type = eqb type 0x8006

-- A packet rate (section 7.2).
abbrev pub is_packet_rate : ℕ → Bool
is_packet_rate type = eqb type 0x800c

-- S and T (section 7.3).
abbrev pub is_traffic_action : ℕ → Bool
is_traffic_action type = eqb type 0x8007

-- A marking (section 7.5).
abbrev pub is_marking : ℕ → Bool
is_marking type = eqb type 0x8009

-- A redirect, in one of three forms (section 7.4).
abbrev pub is_redirect : ℕ → Bool
is_redirect type = eqb type 0x8008 || eqb type 0x8108 || eqb type 0x8208

-- The communities whose type, their first two octets, passes a test, in their order; 01: "Others are skipped."
unfoldable pub of_type : (ℕ → Bool) → List ℕ → List ℕ
of_type test [] = []
of_type test (c ∷ cs) = cond (test (c / 2 ^ 48)) (c ∷ of_type test cs) (of_type test cs)

-- The rate in a community: its last four octets (sections 7.1 and 7.2).
abbrev pub rate_in : ℕ → Option Rate
rate_in c = rate_of (c % 2 ^ 32)

-- The rates in the communities of a type.
abbrev pub rates_of : (ℕ → Bool) → List ℕ → List (Option Rate)
rates_of test cs = map rate_in (of_type test cs)

-- 01: "In 0x8007 the last octet's 0x01 (T) means go on to later rules, 0x02 (S) sample" (section 7.3). First T.
abbrev pub sets_t : ℕ → Bool
sets_t c = has c 0x01

-- Then S.
abbrev pub sets_s : ℕ → Bool
sets_s c = has c 0x02

-- 01: "marking (low six bits of the last octet)" (section 7.5).
abbrev pub marking_in : ℕ → ℕ
marking_in c = c % 2 ^ 6

-- The smallest of several rates, the first of those that are equal; one that is not a number does not count.
unfoldable pub smallest : List (Option Rate) → Limit
smallest [] = no_limit
smallest (Some rate ∷ rates) = smaller_of (limit rate.number (note_number rate.note)) (smallest rates)
smallest (None ∷ rates) = smallest rates

-- The first of several numbers.
unfoldable pub first : List ℕ → Given
first [] = absent
first (n ∷ ns) = given n

-- 01: "Within a rule: smallest rate of each kind, first marking, first redirect, S and T if any sets them", which section 7.7 leaves
-- open. A redirect is the community itself (section 7.4).
unfoldable pub rule_actions : List ℕ → Actions
rule_actions cs =
    record {
      bytes = smallest (rates_of is_byte_rate cs);
      packets = smallest (rates_of is_packet_rate cs);
      sample = one_holds sets_s (of_type is_traffic_action cs);
      onward = one_holds sets_t (of_type is_traffic_action cs);
      marking = first (map marking_in (of_type is_marking cs));
      redirect = first (of_type is_redirect cs);
    }

-- 01: "Not-a-number of either sign is 13", in a rate of either kind; the RFC is silent on it.
abbrev pub wrong_rate : List ℕ → Bool
wrong_rate cs = one_holds is_none (rates_of is_byte_rate cs) || one_holds is_none (rates_of is_packet_rate cs)

-- 01: "At most 64 communities of 8 octets; another total length is 13."
abbrev pub wrong_length : ℕ → Bool
wrong_length octets = ltb (64 * 8) octets || not (eqb (octets % 8) 0)

-- So many communities of eight octets, from a place on.
unfoldable pub communities_at : ℕ → List ℕ → ℕ → List ℕ
communities_at zero s at = []
communities_at (suc n) s at = number_at 8 s at ∷ communities_at n s (at + 8)

-- The communities that octets hold.
abbrev pub communities_of : List ℕ → List ℕ
communities_of s = communities_at (length s / 8) s 0

-- The actions of a rule, from the octets of its communities: unsound (13) at a wrong length or a rate that is not a number.
unfoldable pub actions_of : List ℕ → Option Actions
actions_of s =
    cond (wrong_length (length s) || wrong_rate (communities_of s)) None (Some (rule_actions (communities_of s)))

-- Actions that ask for nothing.
abbrev pub no_actions : Actions
no_actions =
    record { bytes = no_limit; packets = no_limit; sample = false; onward = false; marking = absent; redirect = absent }

-- 01: "flags (1: 1 byte rate, 2 packet rate, 4 S, 8 T, 16 marking, 32 redirect)".
unfoldable pub flags_of : Actions → ℕ
flags_of a =
    bit_if a.bytes.present 1 + bit_if a.packets.present 2 + bit_if a.sample 4 + bit_if a.onward 8
    + bit_if a.marking.present 16
    + bit_if a.redirect.present 32

-- 2026-05: "three bits for each rate, byte rate lowest (0 exact or absent, 1 to 4 the rest as listed)".
unfoldable pub notes_of : Actions → ℕ
notes_of a = a.bytes.note + a.packets.note * 2 ^ 3

-- The values of actions, in the order of a record: flags, DSCP, byte rate, packet rate, redirect community, notes; an absent one is 0.
abbrev pub values_of : Actions → List ℕ
values_of a = flags_of a ∷ a.marking.number ∷ a.bytes.number ∷ a.packets.number ∷ a.redirect.number ∷ notes_of a ∷ []
