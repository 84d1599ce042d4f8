-- Worked examples of section 7, as computed claims: what each type of community is taken for, S and T, markings, redirects, rates, refusals,
-- the flags of a record, and merging. Assumes nothing.
use Prim.Native.Nat.{ℕ}
use mathlib.Core.Path.{◌≡◌, refl}
use mathlib.Core.Bool.{true, false}
use mathlib.Core.List.{List, [], ◌∷◌, ◌++◌, map}
use Rattle.std.proofs.Common.{Option, Some, None}
use Rattle.octets.specs.Number.{number_at, octets_of}
use Rattle.octets.specs.Test.{one_holds}
use Rattle.rate.specs.Rate.{scaled, value_rate, rate_of_parts, rate_of}
use Rattle.action.specs.declared.Actions.{Actions}
use Rattle.action.specs.Given.{given, first_of}
use Rattle.action.specs.Limit.{limit, smaller_of}
use Rattle.action.specs.Actions.{of_type, smallest, first, rule_actions, communities_at, wrong_length, actions_of, no_actions, flags_of, notes_of, values_of}
use Rattle.action.specs.Merging.{merged}
use Rattle.action.specs.Reading.{with_byte_rate, with_packet_rate, with_flags, with_marking, with_redirect}

-- A community's octets: its type and the six octets behind it.
abbrev community : ℕ → ℕ → List ℕ
community type low = octets_of 2 type ++ octets_of 6 low

-- What communities give: flags, DSCP, byte rate, packet rate, redirect and notes, or 13.
abbrev told : Option Actions → List ℕ
told (Some a) = values_of a
told None = 13 ∷ []

abbrev answer : List ℕ → List ℕ
answer s = told (actions_of s)

-- The flags of one community, or 13.
abbrev flags_told : Option Actions → ℕ
flags_told (Some a) = flags_of a
flags_told None = 13

abbrev flags : ℕ → ℕ → ℕ
flags type low = flags_told (actions_of (community type low))

-- Each known type, and types that differ from one of them in either octet.
pub types : map (λ type. flags type 0x3f80_0003)
    (0x8006 ∷ 0x800c ∷ 0x8007 ∷ 0x8008 ∷ 0x8108 ∷ 0x8208 ∷ 0x8009
    ∷ 0x8005 ∷ 0x800a ∷ 0x800b ∷ 0x800d ∷ 0x0006 ∷ 0x8106 ∷ 0x8206 ∷ 0x4006 ∷ 0x810c ∷ 0x000c ∷ 0x8107 ∷ 0x0007 ∷ 0x8308 ∷ 0x0008 ∷ 0x8109 ∷ 0x0009 ∷ [])
    ≡ 1 ∷ 2 ∷ 12 ∷ 32 ∷ 32 ∷ 32 ∷ 16 ∷ 0 ∷ 0 ∷ 0 ∷ 0 ∷ 0 ∷ 0 ∷ 0 ∷ 0 ∷ 0 ∷ 0 ∷ 0 ∷ 0 ∷ 0 ∷ 0 ∷ 0 ∷ 0 ∷ []
unfolding octets_of number_at one_holds scaled value_rate rate_of_parts rate_of first_of smaller_of of_type smallest first rule_actions communities_at actions_of flags_of
types = refl

-- 0x01 alone is T, 0x02 alone is S, both are both, and no other bit of the six octets is either.
pub samples : map (λ low. flags 0x8007 low) (0 ∷ 0x01 ∷ 0x02 ∷ 0x03 ∷ 0xfc ∷ 0xff ∷ 0xffff_ffff_fffc ∷ []) ≡ 0 ∷ 8 ∷ 4 ∷ 12 ∷ 0 ∷ 12 ∷ 0 ∷ []
unfolding octets_of number_at one_holds scaled value_rate rate_of_parts rate_of first_of smaller_of of_type smallest first rule_actions communities_at actions_of flags_of
samples = refl

-- At most 64 communities, and no part of one.
pub lengths : map wrong_length (0 ∷ 8 ∷ 512 ∷ 1 ∷ 7 ∷ 9 ∷ 511 ∷ 513 ∷ 520 ∷ [])
    ≡ false ∷ false ∷ false ∷ true ∷ true ∷ true ∷ true ∷ true ∷ true ∷ []
lengths = refl

-- No community; a marking of all six bits, of none of them, and the first of two, 0 and 5; the first of two redirects, as the whole
-- community; S of one community and T of another; the smallest of the byte rates 5, 2 and 3, and of minus zero and 3, with no packet rate;
-- not-a-number of either sign, in either kind, and behind a rate that is a number, which are refused; and in a type that is skipped.
pub rules : map answer
    ([] ∷ community 0x8009 0x3f ∷ community 0x8009 0xffff_ffff_ffc0 ∷ (community 0x8009 0 ++ community 0x8009 5)
    ∷ (community 0x8108 0xc000_0201_0064 ++ community 0x8008 0xfde8_0000_0064)
    ∷ (community 0x8007 0x02 ++ community 0x8007 0x01)
    ∷ (community 0x8006 0x40a0_0000 ++ community 0x8006 0x4000_0000 ++ community 0x8006 0x4040_0000)
    ∷ (community 0x8006 0x8000_0000 ++ community 0x8006 0x4040_0000)
    ∷ community 0x8006 0x7fc0_0000 ∷ community 0x800c 0xffc0_0000
    ∷ (community 0x8006 0x4040_0000 ++ community 0x8006 0x7f80_0001)
    ∷ community 0x8106 0x7fc0_0000 ∷ [])
    ≡ (0 ∷ 0 ∷ 0 ∷ 0 ∷ 0 ∷ 0 ∷ []) ∷ (16 ∷ 63 ∷ 0 ∷ 0 ∷ 0 ∷ 0 ∷ []) ∷ (16 ∷ 0 ∷ 0 ∷ 0 ∷ 0 ∷ 0 ∷ []) ∷ (16 ∷ 0 ∷ 0 ∷ 0 ∷ 0 ∷ 0 ∷ [])
    ∷ (32 ∷ 0 ∷ 0 ∷ 0 ∷ 0x8108_c000_0201_0064 ∷ 0 ∷ [])
    ∷ (12 ∷ 0 ∷ 0 ∷ 0 ∷ 0 ∷ 0 ∷ [])
    ∷ (1 ∷ 0 ∷ 2 ∷ 0 ∷ 0 ∷ 0 ∷ [])
    ∷ (1 ∷ 0 ∷ 0 ∷ 0 ∷ 0 ∷ 0 ∷ [])
    ∷ (13 ∷ []) ∷ (13 ∷ [])
    ∷ (13 ∷ [])
    ∷ (0 ∷ 0 ∷ 0 ∷ 0 ∷ 0 ∷ 0 ∷ []) ∷ []
unfolding octets_of number_at one_holds scaled value_rate rate_of_parts rate_of first_of smaller_of of_type smallest first rule_actions communities_at actions_of flags_of notes_of
rules = refl

-- The notes of the byte rates 1 and 1.5, which give one number, in both orders: the first one's; of 0.5 before 1; of -1 before minus zero;
-- of plus infinity behind 2^63; of 1.5 before 1 as packet rates; of a byte rate of 1.5 with a packet rate of -1; and of 1.5 behind 0.
pub notes : map answer
    ((community 0x8006 0x3f80_0000 ++ community 0x8006 0x3fc0_0000) ∷ (community 0x8006 0x3fc0_0000 ++ community 0x8006 0x3f80_0000)
    ∷ (community 0x8006 0x3f00_0000 ++ community 0x8006 0x3f80_0000)
    ∷ (community 0x8006 0xbf80_0000 ++ community 0x8006 0x8000_0000)
    ∷ (community 0x8006 0x5f00_0000 ++ community 0x8006 0x7f80_0000)
    ∷ (community 0x800c 0x3fc0_0000 ++ community 0x800c 0x3f80_0000)
    ∷ (community 0x8006 0x3fc0_0000 ++ community 0x800c 0xbf80_0000)
    ∷ (community 0x8006 0 ++ community 0x8006 0x3fc0_0000)
    ∷ [])
    ≡ (1 ∷ 0 ∷ 1 ∷ 0 ∷ 0 ∷ 0 ∷ []) ∷ (1 ∷ 0 ∷ 1 ∷ 0 ∷ 0 ∷ 1 ∷ [])
    ∷ (1 ∷ 0 ∷ 1 ∷ 0 ∷ 0 ∷ 2 ∷ [])
    ∷ (1 ∷ 0 ∷ 0 ∷ 0 ∷ 0 ∷ 4 ∷ [])
    ∷ (1 ∷ 0 ∷ 0x8000_0000_0000_0000 ∷ 0 ∷ 0 ∷ 0 ∷ [])
    ∷ (2 ∷ 0 ∷ 0 ∷ 1 ∷ 0 ∷ 8 ∷ [])
    ∷ (3 ∷ 0 ∷ 1 ∷ 0 ∷ 0 ∷ 33 ∷ [])
    ∷ (1 ∷ 0 ∷ 0 ∷ 0 ∷ 0 ∷ 0 ∷ [])
    ∷ []
unfolding octets_of number_at one_holds scaled value_rate rate_of_parts rate_of first_of smaller_of of_type smallest first rule_actions communities_at actions_of flags_of notes_of
notes = refl

-- Each flag of a record by itself.
pub each-flag : map flags_of
    (with_byte_rate no_actions (limit 0 0) ∷ with_packet_rate no_actions (limit 0 0) ∷ with_flags no_actions true false ∷ with_flags no_actions false true
    ∷ with_marking no_actions (given 0)
    ∷ with_redirect no_actions (given 0)
    ∷ no_actions
    ∷ [])
    ≡ 1 ∷ 2 ∷ 4 ∷ 8 ∷ 16 ∷ 32 ∷ 0 ∷ []
unfolding flags_of
each-flag = refl

-- Of three rules the smallest byte rate, where the second has none, with its note, the marking of the first that has one, and S of one; T of
-- none, though each has it.
abbrev three : Actions
three =
    merged
    (merged (with_byte_rate (with_flags no_actions false true) (limit 5 0)) (with_marking (with_flags no_actions true true) (given 7)))
    (with_marking (with_byte_rate (with_flags no_actions false true) (limit 3 1)) (given 9))

pub merging : values_of three ≡ 21 ∷ 7 ∷ 3 ∷ 0 ∷ 0 ∷ 1 ∷ []
unfolding merged first_of smaller_of flags_of notes_of
merging = refl

-- Two rules with the same packet rate keep the note of the first.
pub merging-notes :
    map (λ a. notes_of a)
    (merged (with_packet_rate no_actions (limit 1 1)) (with_packet_rate no_actions (limit 1 2))
    ∷ merged (with_packet_rate no_actions (limit 1 2)) (with_packet_rate no_actions (limit 1 1))
    ∷ merged no_actions (with_packet_rate no_actions (limit 1 2))
    ∷ [])
    ≡ 8 ∷ 16 ∷ 16 ∷ []
unfolding merged first_of smaller_of notes_of
merging-notes = refl
