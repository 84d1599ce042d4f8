-- Single bits of a number, which a mask names by its value.
use Rattle.std.specs.Prelude.{ℕ, Bool, cond, not, eqb}
use Rattle.std.specs.Int.Bits.{bit_and}

-- Whether a number has a bit of the mask set.
abbrev pub has : ℕ → ℕ → Bool
has x mask = not (eqb (bit_and x mask) 0)

-- A bit where a test holds, and 0 where it does not.
abbrev pub bit_if : Bool → ℕ → ℕ
bit_if holds bit = cond holds bit 0
