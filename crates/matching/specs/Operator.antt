-- What an operator asks of a packet's data and a rule's value (RFC 8955 section 4.2.1). Both are numbers and are compared whole: a value
-- above a field's range is compared as it is. Ignored bits of a value are cleared before this, in `holds_for`.
use Rattle.std.specs.Prelude.{ℕ, Bool, cond, not, ◌&&◌, ◌||◌, ltb, eqb}
use Rattle.std.specs.Int.Bits.{bit_and}
use Rattle.octets.specs.Bit.{has}

-- Section 4.2.1.1, and 01: "0x04 less, 0x02 greater, 0x01 equal; they combine": the operator holds where one that is set does.
unfoldable pub numeric_holds : ℕ → ℕ → ℕ → Bool
numeric_holds operator «data» value =
    has operator 0x04 && ltb «data» value || has operator 0x02 && ltb value «data» || has operator 0x01 && eqb «data» value

-- Section 4.2.1.2, and 01: "0x01 asks (data AND value) = value, otherwise whether any bit of value is set in data".
abbrev pub mask_holds : ℕ → ℕ → ℕ → Bool
mask_holds operator «data» value = cond (has operator 0x01) (eqb (bit_and «data» value) value) (has «data» value)

-- 01: "0x02 negates".
unfoldable pub bitmask_holds : ℕ → ℕ → ℕ → Bool
bitmask_holds operator «data» value = cond (has operator 0x02) (not (mask_holds operator «data» value)) (mask_holds operator «data» value)
