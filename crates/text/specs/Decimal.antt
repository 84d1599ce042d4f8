-- Numbers in decimal, as the lines of the program have them (01: "other numbers decimal, within 32 bits, no leading zero").
use Rattle.std.specs.Prelude.{ℕ, zero, suc, ◌+◌, ◌-◌, ◌*◌, ◌/◌, ◌%◌, ◌^◌, Bool, true, false, cond, ◌&&◌, not, List, [], ◌∷◌, ◌++◌, ltb, eqb, Option, Some, None}
use Rattle.octets.specs.Test.{every}
use Rattle.text.specs.Spelling.{is_digit}

-- The number that digits go on to spell behind those that spell n.
unfoldable pub number_from : ℕ → List ℕ → ℕ
number_from n [] = n
number_from n (digit ∷ text) = number_from (n * 10 + (digit - 0x30)) text

-- The number that digits spell, the highest first.
unfoldable pub number_in : List ℕ → ℕ
number_in text = number_from 0 text

-- 01: "no leading zero": a first digit 0 stands alone, since the number 0 is written 0.
unfoldable pub starts_well : List ℕ → Bool
starts_well [] = false
starts_well (digit ∷ []) = true
starts_well (digit ∷ next ∷ text) = not (eqb digit 0x30)

-- A number: decimal, within 32 bits, no leading zero.
unfoldable pub is_number : List ℕ → Bool
is_number text = starts_well text && (every is_digit text && ltb (number_in text) (2 ^ 32))

-- What reading a text as a number answers: the number, or none.
unfoldable pub read_number : List ℕ → Option ℕ
read_number text = cond (is_number text) (Some (number_in text)) None

-- The digits of a number: one below 10 is a digit by itself, any other has the digits of its tenth and then its last.
-- `steps` bounds how many they are.
unfoldable pub digits_of : ℕ → ℕ → List ℕ
digits_of zero n = []
digits_of (suc steps) n = elim (ltb n 10) [ true ↦ (0x30 + n) ∷ [] | false ↦ digits_of steps (n / 10) ++ ((0x30 + n % 10) ∷ []) ]

-- A number in decimal, with no leading zero. A tenth is less than its number, so n + 1 steps are enough.
unfoldable pub decimal_of : ℕ → List ℕ
decimal_of n = digits_of (n + 1) n
