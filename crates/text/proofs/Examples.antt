-- What the definitions make of texts that stand in lines, by computing them: 01's own example, and the forms that a line may not have.
-- Assumes nothing.
use mathlib.Core.Path.{◌≡◌, refl}
use mathlib.Core.Bool.{true, false}
use mathlib.Core.List.{[], ◌∷◌, map}
use Prim.Native.Nat.{ℕ}
use Prim.Native.String.{String}
use Rattle.octets.specs.Test.{every}
use Rattle.text.specs.Spelling.{quoted}
use Rattle.text.specs.Hex.{is_hex_digit, hex_value, hex_digit, are_octets, octets_in, hex_of, word_in}
use Rattle.text.specs.Decimal.{number_from, number_in, starts_well, is_number, digits_of, decimal_of}
use Rattle.text.specs.Field.{fields}
use Rattle.text.specs.Print.{laid}
use Rattle.octets.specs.Number.{number_at}
use Rattle.octets.specs.Store.{stored}

-- 01's route line, a line with empty fields, and an empty line
lines-parted : map (λ (s : String). fields (quoted s)) ("route\tc0000200\t24\t7\t64500" ∷ "announce\t\t" ∷ "" ∷ [])
    ≡ (quoted "route" ∷ quoted "c0000200" ∷ quoted "24" ∷ quoted "7" ∷ quoted "64500" ∷ [])
    ∷ (quoted "announce" ∷ [] ∷ [] ∷ [])
    ∷ ([] ∷ [])
    ∷ []
unfolding fields
lines-parted = refl

-- hex: none, 01's address; then an odd number of digits, an upper-case digit, signs next to the digits
hex-told : map (λ (s : String). are_octets (quoted s)) ("" ∷ "c0000200" ∷ "c00" ∷ "C0" ∷ "0g" ∷ "0:" ∷ "/0" ∷ "`0" ∷ [])
    ≡ true ∷ true ∷ false ∷ false ∷ false ∷ false ∷ false ∷ false ∷ []
unfolding are_octets every is_hex_digit
hex-told = refl

hex-read : octets_in (quoted "c0000209af") ≡ 192 ∷ 0 ∷ 2 ∷ 9 ∷ 175 ∷ []
unfolding octets_in hex_value
hex-read = refl

hex-written : hex_of (192 ∷ 0 ∷ 2 ∷ 9 ∷ 175 ∷ []) ≡ quoted "c0000209af"
unfolding hex_of hex_digit
hex-written = refl

word_read : word_in (quoted "c0000200") ≡ 3221225984
unfolding octets_in hex_value number_at
word_read = refl

-- decimal: 0, one digit, the highest number of 32 bits; then one more, no digit, leading zeros, a sign, a space
numbers-told : map (λ (s : String). is_number (quoted s)) ("0" ∷ "7" ∷ "4294967295" ∷ "4294967296" ∷ "" ∷ "00" ∷ "07" ∷ "+7" ∷ "7 " ∷ [])
    ≡ true ∷ true ∷ true ∷ false ∷ false ∷ false ∷ false ∷ false ∷ false ∷ []
unfolding is_number number_in number_from starts_well every
numbers-told = refl

numbers-read : map (λ (s : String). number_in (quoted s)) ("0" ∷ "64500" ∷ "4294967295" ∷ []) ≡ 0 ∷ 64500 ∷ 4294967295 ∷ []
unfolding number_in number_from
numbers-read = refl

numbers-written : map decimal_of (0 ∷ 10 ∷ 64500 ∷ 18446744073709551615 ∷ [])
    ≡ quoted "0" ∷ quoted "10" ∷ quoted "64500" ∷ quoted "18446744073709551615" ∷ []
unfolding decimal_of digits_of
numbers-written = refl

-- printing inside a buffer, over its end, and past it
printed : map (λ (at : ℕ). laid (quoted "......") at (quoted "rules")) (1 ∷ 4 ∷ 6 ∷ 9 ∷ [])
    ≡ quoted ".rules" ∷ quoted "....ru" ∷ quoted "......" ∷ quoted "......" ∷ []
unfolding laid stored
printed = refl
