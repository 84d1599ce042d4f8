-- What number a rate stands for, and what was done to its value to come to that number (RFC 8955 sections 7.1 and 7.2; 2026-05). A rate
-- is an IEEE 754 single: one bit of sign, eight of exponent and 23 of fraction. Without its sign a finite value times 2^149 is a natural
-- number, since 2^-149 is the smallest positive single.
use Rattle.std.specs.Prelude.{ℕ, zero, suc, ◌+◌, ◌*◌, ◌-◌, ◌/◌, ◌%◌, ◌^◌, Bool, false, cond, not, ◌&&◌, ◌||◌, leb, ltb, eqb, Option, Some, None}
use Rattle.rate.specs.declared.Note.{Note}
use Rattle.rate.specs.declared.Note.TheVariants.{Exact, RoundedDown, Raised, Capped, TakenAsZero}
use Rattle.rate.specs.declared.Rate.{Rate}

-- The number of a note. 2026-05: "0 exact or absent, 1 to 4 the rest as listed". Exact: the number is the rate's value; rounded down: what
-- stands behind the point was cut off; raised: a positive rate below 1 was raised to 1; capped: a rate above 2^63 was capped; taken as
-- zero: RFC 8955 section 7.1, "On decoding, negative values MUST be treated as zero (discard all traffic)."
abbrev pub note_number : Note → ℕ
note_number Exact = 0
note_number RoundedDown = 1
note_number Raised = 2
note_number Capped = 3
note_number TakenAsZero = 4

-- A number with its note.
abbrev pub noted : ℕ → Note → Rate
noted number note = record { number = number; note = note }

-- The value of a single without its sign, times 2^149 (IEEE 754-1985 section 3.2.1). Infinity, exponent 255 with no fraction, comes out
-- as 2^128 times 2^149, which is above 2^63 times 2^149, and so needs no case.
unfoldable pub scaled : ℕ → ℕ → ℕ
scaled exponent fraction = cond (eqb exponent 0) fraction ((2 ^ 23 + fraction) * 2 ^ (exponent - 1))

-- The whole part of a value, which is given times 2^149: exact where nothing is left.
abbrev pub whole_part : ℕ → Rate
whole_part value = noted (value / 2 ^ 149) (cond (eqb (value % 2 ^ 149) 0) Exact RoundedDown)

-- What a value gives, by whether its sign is set, and without that sign times 2^149. 01: "Negative, either zero, and minus infinity give 0
-- (drop). A positive rate below 1 gives 1. Otherwise the whole part, at most 2^63; plus infinity gives 2^63." 2026-05: "minus zero is exact,
-- negative numbers are "taken as zero"". 2^63 itself is exact.
unfoldable pub value_rate : Bool → ℕ → Rate
value_rate negative value =
    cond (eqb value 0) (noted 0 Exact)
    (cond negative (noted 0 TakenAsZero)
    (cond (ltb value (2 ^ 149)) (noted 1 Raised)
    (cond (ltb (2 ^ 63 * 2 ^ 149) value) (noted (2 ^ 63) Capped) (whole_part value))))

-- Exponent 255 with a fraction is not a number, whatever the sign (IEEE 754-1985 section 3.2.1).
abbrev pub is_not_a_number : ℕ → ℕ → Bool
is_not_a_number exponent fraction = eqb exponent 255 && not (eqb fraction 0)

-- 01: "Not-a-number of either sign is 13", before all else.
unfoldable pub rate_of_parts : ℕ → ℕ → ℕ → Option Rate
rate_of_parts sign exponent fraction =
    cond (is_not_a_number exponent fraction) None (Some (value_rate (not (eqb sign 0)) (scaled exponent fraction)))

-- A rate, cut into sign, exponent and fraction.
unfoldable pub rate_of : ℕ → Option Rate
rate_of single = rate_of_parts (single / 2 ^ 31) (single / 2 ^ 23 % 2 ^ 8) (single % 2 ^ 23)

-- Is a number below 2^24 after at most so many halvings, none of which leaves a remainder?
unfoldable pub fits_significand : ℕ → ℕ → Bool
fits_significand zero n = ltb n (2 ^ 24)
fits_significand (suc halvings) n = ltb n (2 ^ 24) || eqb (n % 2) 0 && fits_significand halvings (n / 2)

-- Is a number up to 2^63 one that a single is exactly? A single holds 24 binary digits, so a number from 2^24 on has to be one below 2^24
-- times a power of two; below 2^24 every whole number is a single. From 2^63, the highest, 40 halvings lead to 2^23.
unfoldable pub is_single : ℕ → Bool
is_single n = leb n (2 ^ 63) && fits_significand 40 n

-- Which pairs of a number and a note some rate gives: exact with a number that a single is exactly, rounded down with 1 to 2^23 - 1, since
-- from 2^23 on a single has nothing behind the point, raised with 1, capped with 2^63, taken as zero with 0.
unfoldable pub rate_given : ℕ → ℕ → Bool
rate_given number note =
    cond (eqb note (note_number Exact)) (is_single number)
    (cond (eqb note (note_number RoundedDown)) (leb 1 number && ltb number (2 ^ 23))
    (cond (eqb note (note_number Raised)) (eqb number 1)
    (cond (eqb note (note_number Capped)) (eqb number (2 ^ 63))
    (cond (eqb note (note_number TakenAsZero)) (eqb number 0) false))))
