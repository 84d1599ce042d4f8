-- Octets in hex, as the lines of the program have them (01: "Hex is lower case"): two digits an octet, its high four bits first.
use Rattle.std.specs.Prelude.{ℕ, ◌+◌, ◌-◌, ◌*◌, ◌/◌, ◌%◌, Bool, cond, ◌&&◌, ◌||◌, List, [], ◌∷◌, eqb, length, get_or}
use Rattle.octets.specs.Test.{every}
use Rattle.octets.specs.Number.{number_at}
use Rattle.text.specs.Spelling.{quoted, is_from, is_digit}

-- A digit: 0 to 9, or a to f.
unfoldable pub is_hex_digit : ℕ → Bool
is_hex_digit sign = is_digit sign || is_from 0x61 0x66 sign

-- What a digit stands for; any other sign counts as 0.
unfoldable pub hex_value : ℕ → ℕ
hex_value sign = cond (is_digit sign) (sign - 0x30) (cond (is_from 0x61 0x66 sign) (sign - 0x61 + 10) 0)

-- The digit for a number below 16.
unfoldable pub hex_digit : ℕ → ℕ
hex_digit n = get_or (quoted "0123456789abcdef") n 0

-- Octets in hex: an even number of digits, possibly none. So "a line of another form" has an odd number, or an upper-case digit.
unfoldable pub are_octets : List ℕ → Bool
are_octets text = eqb (length text % 2) 0 && every is_hex_digit text

-- The octets that digits spell, two digits each; a last digit with no other is left out.
unfoldable pub octets_in : List ℕ → List ℕ
octets_in [] = []
octets_in (high ∷ []) = []
octets_in (high ∷ low ∷ text) = (hex_value high * 16 + hex_value low) ∷ octets_in text

-- The digits that spell octets.
unfoldable pub hex_of : List ℕ → List ℕ
hex_of [] = []
hex_of (octet ∷ s) = hex_digit (octet / 16) ∷ hex_digit (octet % 16) ∷ hex_of s

-- The number of 32 bits that eight digits spell, the highest digit first.
abbrev pub word_in : List ℕ → ℕ
word_in text = number_at 4 (octets_in text) 0
