-- Worked examples of values, computed: those of IPv4, those of IPv6, and those of a family that has everything a family can have (addresses
-- of 128 bits, offsets, eight octets before the first component). Assumes nothing.
use mathlib.Core.Path.{◌≡◌, refl}
use mathlib.Core.Bool.{true}
use mathlib.Core.List.{List, [], ◌∷◌, map}
use Prim.Native.Nat.{ℕ}
use native.Mathlib.Omega.{arith}
use Rattle.std.proofs.Common.{Ok, Err}
use Rattle.octets.specs.Walk.{walk}
use Rattle.rule.specs.declared.Family.{Family}
use Rattle.rule.specs.declared.Refusal.TheVariants.{Empty, UnknownType, TypeOrder, PrefixLength, CutShort, ValueSize}
use Rattle.rule.specs.Family.{ipv4, ipv6, Fits}
use Rattle.rule.specs.Shape.{shape_of}
use Rattle.rule.specs.Operator.{ends_list, size_of}
use Rattle.rule.specs.Component.{pair_at, pairs_from, lead_of, offset_at, prefix_end, body_end, component_at}
use Rattle.rule.specs.Value.{components_from, check_value}
use Rattle.spelling.specs.Plain.{expected_at_start, body_of, pattern_after, operand_after, after, without_reserved, plain_operator, plain_operand, plain_pattern, cleared_octet, plain_from, plain}

-- a family to try the definitions on
abbrev tried : Family
tried = record { highest = 13; width = 128; head = 8; offsets = true; fragment = 0x0e; icmp = 58; version = 6; words = 7 }

pub tried-fits : Fits tried
tried-fits = record { narrow = omega arith; words = refl }

-- a value of that family, behind its head
abbrev headed : List ℕ → List ℕ
headed v = 0 ∷ 1 ∷ 2 ∷ 3 ∷ 4 ∷ 5 ∷ 6 ∷ 255 ∷ v

-- in IPv4: no octet; 192.0.2.0/24; length 33; a prefix cut short; type 13; type 3 twice; DSCP in two octets, and a value cut short
pub ipv4-values : map (check_value ipv4)
    ([]
    ∷ (1 ∷ 24 ∷ 192 ∷ 0 ∷ 2 ∷ [])
    ∷ (1 ∷ 33 ∷ [])
    ∷ (1 ∷ 24 ∷ 192 ∷ 0 ∷ [])
    ∷ (13 ∷ 0x81 ∷ 6 ∷ [])
    ∷ (3 ∷ 0x81 ∷ 6 ∷ 3 ∷ 0x81 ∷ 6 ∷ [])
    ∷ (11 ∷ 0x91 ∷ [])
    ∷ (4 ∷ 0x91 ∷ 1 ∷ [])
    ∷ [])
    ≡ Err Empty ∷ Ok tt ∷ Err (PrefixLength 1) ∷ Err (CutShort 4) ∷ Err (UnknownType 0) ∷ Err (TypeOrder 3) ∷ Err (ValueSize 1) ∷ Err (CutShort 3) ∷ []
unfolding walk ends_list size_of shape_of pair_at pairs_from lead_of offset_at prefix_end body_end component_at components_from check_value
ipv4-values = refl

-- in IPv6, RFC 8956 section 3.8: the first example as its encoding prints it and as its decoding does, and the second; then ::/0; the lengths
-- 128 and 129, and 129 with nothing behind it; lengths that are not above their offsets, 0 below 1 and 128 below 255 among them; a prefix that
-- lacks its length, its offset and the last octet of its pattern; a flow label of one octet and of eight; types 0 and 14; a fragment value of
-- two octets
pub ipv6-values : map (check_value ipv6)
    ((1 ∷ 0x20 ∷ 0 ∷ 0x20 ∷ 0x01 ∷ 0x0d ∷ 0xbb ∷ 2 ∷ 0x68 ∷ 0x40 ∷ 0x12 ∷ 0x34 ∷ 0x56 ∷ 0x78 ∷ 0x9a ∷ 3 ∷ 0x81 ∷ 6 ∷ [])
    ∷ (1 ∷ 0x20 ∷ 0 ∷ 0x20 ∷ 0x01 ∷ 0x0d ∷ 0xb8 ∷ 2 ∷ 0x68 ∷ 0x40 ∷ 0x12 ∷ 0x34 ∷ 0x56 ∷ 0x78 ∷ 0x9a ∷ 3 ∷ 0x81 ∷ 6 ∷ [])
    ∷ (1 ∷ 0x20 ∷ 0 ∷ 0x20 ∷ 0x01 ∷ 0x0d ∷ 0xb8 ∷ 2 ∷ 0x68 ∷ 0x41 ∷ 0x24 ∷ 0x68 ∷ 0xac ∷ 0xf1 ∷ 0x34 ∷ [])
    ∷ (1 ∷ 0 ∷ 0 ∷ [])
    ∷ (1 ∷ 128 ∷ 120 ∷ 1 ∷ [])
    ∷ (1 ∷ 129 ∷ 120 ∷ 1 ∷ 2 ∷ [])
    ∷ (1 ∷ 129 ∷ [])
    ∷ (1 ∷ 64 ∷ 64 ∷ [])
    ∷ (1 ∷ 0 ∷ 1 ∷ [])
    ∷ (1 ∷ 128 ∷ 128 ∷ [])
    ∷ (1 ∷ 128 ∷ 255 ∷ [])
    ∷ (1 ∷ [])
    ∷ (1 ∷ 64 ∷ [])
    ∷ (1 ∷ 64 ∷ 55 ∷ 1 ∷ [])
    ∷ (13 ∷ 0x81 ∷ 1 ∷ [])
    ∷ (13 ∷ 0xb1 ∷ 0 ∷ 0 ∷ 0 ∷ 0 ∷ 0 ∷ 1 ∷ 2 ∷ 3 ∷ [])
    ∷ (0 ∷ [])
    ∷ (14 ∷ 0x81 ∷ 1 ∷ [])
    ∷ (12 ∷ 0x91 ∷ 0 ∷ 2 ∷ [])
    ∷ [])
    ≡ Ok tt ∷ Ok tt ∷ Ok tt ∷ Ok tt ∷ Ok tt ∷ Err (PrefixLength 1) ∷ Err (PrefixLength 1) ∷ Err (PrefixLength 1) ∷ Err (PrefixLength 1) ∷ Err (PrefixLength 1) ∷ Err (PrefixLength 1) ∷ Err (CutShort 1)
    ∷ Err (CutShort 2) ∷ Err (CutShort 4) ∷ Ok tt ∷ Ok tt ∷ Err (UnknownType 0) ∷ Err (UnknownType 0) ∷ Err (ValueSize 1) ∷ []
unfolding walk ends_list size_of shape_of pair_at pairs_from lead_of offset_at prefix_end body_end component_at components_from check_value
ipv6-values = refl

-- in the tried family: no octet, the head alone and less than it; bits 32 to 64 of an address; length and offset 0; a length that is not above
-- its offset, and one above 128; a prefix that lacks its length, its offset and its pattern; types 13 and 14; a fragment value of two octets
pub tried-values : map (check_value tried)
    ([]
    ∷ headed []
    ∷ (0 ∷ 1 ∷ 2 ∷ 3 ∷ 4 ∷ 5 ∷ 6 ∷ [])
    ∷ headed (1 ∷ 64 ∷ 32 ∷ 1 ∷ 2 ∷ 3 ∷ 4 ∷ [])
    ∷ headed (1 ∷ 0 ∷ 0 ∷ 2 ∷ 0 ∷ 0 ∷ [])
    ∷ headed (1 ∷ 32 ∷ 32 ∷ [])
    ∷ headed (1 ∷ 0 ∷ 1 ∷ [])
    ∷ headed (1 ∷ 129 ∷ [])
    ∷ headed (1 ∷ [])
    ∷ headed (1 ∷ 64 ∷ [])
    ∷ headed (1 ∷ 64 ∷ 32 ∷ 1 ∷ 2 ∷ 3 ∷ [])
    ∷ headed (13 ∷ 0xa1 ∷ 0 ∷ 1 ∷ 2 ∷ 3 ∷ [])
    ∷ headed (14 ∷ [])
    ∷ headed (12 ∷ 0x91 ∷ [])
    ∷ [])
    ≡ Err Empty ∷ Err Empty ∷ Err (CutShort 7) ∷ Ok tt ∷ Ok tt ∷ Err (PrefixLength 9) ∷ Err (PrefixLength 9) ∷ Err (PrefixLength 9) ∷ Err (CutShort 9) ∷ Err (CutShort 10) ∷ Err (CutShort 14)
    ∷ Ok tt ∷ Err (UnknownType 8) ∷ Err (ValueSize 9) ∷ []
unfolding walk ends_list size_of shape_of pair_at pairs_from lead_of offset_at prefix_end body_end component_at components_from check_value
tried-values = refl

-- a prefix, DSCP and a fragment list of two pairs with every bit set that can be, and their plain spelling: in IPv4 the first bit of the
-- prefix's last octet is kept, in the tried family, of length 28 and offset 8, the first four; and in IPv6 the second example of section 3.8
-- with its bit of padding set, a fragment value and a flow label with every bit set
pub plain-values : (plain ipv4 (1 ∷ 25 ∷ 255 ∷ 255 ∷ 255 ∷ 255 ∷ 11 ∷ 0xcf ∷ 255 ∷ 12 ∷ 0x4f ∷ 255 ∷ 0xcf ∷ 255 ∷ [])
    ∷ plain tried (headed (1 ∷ 28 ∷ 8 ∷ 255 ∷ 255 ∷ 255 ∷ 11 ∷ 0xcf ∷ 255 ∷ 12 ∷ 0x4f ∷ 255 ∷ 0xcf ∷ 255 ∷ []))
    ∷ plain ipv6 (2 ∷ 0x68 ∷ 0x41 ∷ 0x24 ∷ 0x68 ∷ 0xac ∷ 0xf1 ∷ 0x35 ∷ 12 ∷ 0x81 ∷ 0xff ∷ 13 ∷ 0xa1 ∷ 255 ∷ 255 ∷ 255 ∷ 255 ∷ [])
    ∷ [])
    ≡ (1 ∷ 25 ∷ 255 ∷ 255 ∷ 255 ∷ 0x80 ∷ 11 ∷ 0x87 ∷ 0x3f ∷ 12 ∷ 0x03 ∷ 0x0f ∷ 0xc3 ∷ 0x0f ∷ [])
    ∷ headed (1 ∷ 28 ∷ 8 ∷ 255 ∷ 255 ∷ 0xf0 ∷ 11 ∷ 0x87 ∷ 0x3f ∷ 12 ∷ 0x03 ∷ 0x0e ∷ 0xc3 ∷ 0x0e ∷ [])
    ∷ (2 ∷ 0x68 ∷ 0x41 ∷ 0x24 ∷ 0x68 ∷ 0xac ∷ 0xf1 ∷ 0x34 ∷ 12 ∷ 0x81 ∷ 0x0e ∷ 13 ∷ 0xa1 ∷ 255 ∷ 255 ∷ 255 ∷ 255 ∷ [])
    ∷ []
unfolding ends_list size_of shape_of expected_at_start body_of pattern_after operand_after after without_reserved plain_operator plain_operand plain_pattern cleared_octet plain_from plain
plain-values = refl
