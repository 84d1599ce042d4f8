-- Worked examples of patterns of 32 and of 128 bits, as computed claims. Assumes nothing.
use mathlib.Core.Path.{◌≡◌, refl}
use mathlib.Core.Bool.{true, false}
use mathlib.Core.List.{[], ◌∷◌}
use Prim.Native.Nat.{Ordering}
use Prim.Native.Nat.{ℕ, ◌+◌, ◌*◌, ◌^◌}
use Rattle.octets.specs.Number.{number_at}
use Rattle.octets.specs.Test.{same_list}
use Rattle.prefix.specs.Prefix.{Pattern, bits, covers_address, contains, prefix_order, pattern_in}

abbrev ipv4 : ℕ → ℕ → Pattern
ipv4 address length = record { offset = 0; length = length; address = address }

-- 01: "192.0.2.0/25 precedes 192.0.2.0/24, which precedes 198.51.100.0/24", and "9.255.0.0/16 precedes 10.0.0.0/8"; 192.0.2.0/24 contains
-- 192.0.2.0/25 and itself, is not contained in it, and 0.0.0.0/0 contains all
pub orders : (prefix_order 32 (ipv4 0xc0000200 25) (ipv4 0xc0000200 24)
    ∷ prefix_order 32 (ipv4 0xc0000200 24) (ipv4 0xc6336400 24)
    ∷ prefix_order 32 (ipv4 0x09ff0000 16) (ipv4 0x0a000000 8)
    ∷ prefix_order 32 (ipv4 0x0a000000 8) (ipv4 0x0a000000 8)
    ∷ [])
    ≡ Ordering.lt ∷ Ordering.lt ∷ Ordering.lt ∷ Ordering.eq ∷ []
unfolding bits same_list covers_address contains prefix_order
orders = refl

pub containments : (contains 32 (ipv4 0xc0000200 24) (ipv4 0xc0000200 25)
    ∷ contains 32 (ipv4 0xc0000200 24) (ipv4 0xc0000200 24)
    ∷ contains 32 (ipv4 0xc0000200 25) (ipv4 0xc0000200 24)
    ∷ contains 32 (ipv4 0 0) (ipv4 0xc0000200 24)
    ∷ [])
    ≡ true ∷ true ∷ false ∷ true ∷ []
unfolding bits same_list covers_address contains
containments = refl

-- RFC 8956 section 3.8.1: "02 68 40 12 34 56 78 9a" spells ::1234:5678:9a00:0/64-104, and section 3.8.2: "02 68 41 24 68 ac f1 34" spells
-- ::1234:5678:9a00:0/65-104; the destination of both is 2001:db8::/32
abbrev source : ℕ → Pattern
source offset = record { offset = offset; length = 104; address = 0x123456789a000000 }

abbrev destination : Pattern
destination = record { offset = 0; length = 32; address = 0x20010db8 * 2 ^ 96 }

pub spelled : (pattern_in 128 true (0x68 ∷ 0x40 ∷ 0x12 ∷ 0x34 ∷ 0x56 ∷ 0x78 ∷ 0x9a ∷ [])
    ∷ pattern_in 128 true (0x68 ∷ 0x41 ∷ 0x24 ∷ 0x68 ∷ 0xac ∷ 0xf1 ∷ 0x34 ∷ [])
    ∷ pattern_in 128 true (0x20 ∷ 0x00 ∷ 0x20 ∷ 0x01 ∷ 0x0d ∷ 0xb8 ∷ [])
    ∷ pattern_in 32 false (0x18 ∷ 0xc0 ∷ 0x00 ∷ 0x02 ∷ [])
    ∷ [])
    ≡ source 64 ∷ source 65 ∷ destination ∷ ipv4 0xc0000200 24 ∷ []
unfolding number_at pattern_in
spelled = refl

-- the bits before the offset and behind the length are no matter, those between are; the lower offset comes first, also where the address
-- is the higher or the pattern the shorter, and of one offset the more specific does
pub offsets : (covers_address 128 (source 64) (0x20010db8 * 2 ^ 96 + 0x123456789affffff)
    ∷ covers_address 128 (source 64) (0x123456789b000000)
    ∷ covers_address 128 (source 64) (0x923456789a000000)
    ∷ covers_address 128 (source 65) (0x923456789a000000)
    ∷ contains 128 (source 64) (source 65)
    ∷ contains 128 (source 65) (record { offset = 65; length = 128; address = 0x123456789a000001 })
    ∷ [])
    ≡ true ∷ false ∷ false ∷ true ∷ false ∷ true ∷ []
unfolding bits same_list covers_address contains
offsets = refl

pub offset-orders : (prefix_order 128 (source 64) (source 65)
    ∷ prefix_order 128 (source 64) (record { offset = 65; length = 128; address = 0 })
    ∷ prefix_order 128 (source 64) destination
    ∷ prefix_order 128 (source 65) (record { offset = 65; length = 128; address = 0x123456789a000001 })
    ∷ [])
    ≡ Ordering.lt ∷ Ordering.lt ∷ Ordering.gt ∷ Ordering.gt ∷ []
unfolding bits same_list covers_address contains prefix_order
offset-orders = refl
