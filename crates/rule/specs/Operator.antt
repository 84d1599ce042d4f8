-- The operator octet that stands before each value of a list (RFC 8955 section 4.2.1).
use Rattle.std.specs.Prelude.{ℕ, ◌/◌, ◌^◌, Bool}
use Rattle.std.specs.Int.Bits.{bit_and}
use Rattle.octets.specs.Bit.{has}

-- Section 4.2.1.1, "e": 0x80 marks the last pair of a list.
unfoldable pub ends_list : ℕ → Bool
ends_list operator = has operator 0x80

-- Section 4.2.1.1, "len": 0x30 gives the size of the value, 1, 2, 4 or 8 octets.
unfoldable pub size_of : ℕ → ℕ
size_of operator = 2 ^ (bit_and operator 0x30 / 16)
