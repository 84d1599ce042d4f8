-- Worked examples of rates, as computed claims: what singles at each edge give, and which pairs of a number and a note some single gives.
-- Assumes nothing.
use Prim.Native.Nat.{ℕ, ◌+◌, ◌-◌, ◌^◌}
use mathlib.Core.Path.{◌≡◌, refl}
use mathlib.Core.Bool.{cond}
use mathlib.Core.List.{List, [], ◌∷◌, map}
use Rattle.std.proofs.Common.{Some, None}
use Rattle.rate.specs.declared.Note.TheVariants.{Exact, RoundedDown, Raised, Capped, TakenAsZero}
use Rattle.rate.specs.Rate.{noted, scaled, value_rate, rate_of_parts, rate_of, fits_significand, is_single, rate_given}

-- Both zeros; the least and the greatest of each sign; the single below 1, 1 and 1.5; 2^23 - 0.5 and 2^23; 2^63 between its neighbours; the
-- infinities; and not-a-number of both signs.
pub singles : map rate_of
    (0x0000_0000 ∷ 0x8000_0000
    ∷ 0x0000_0001 ∷ 0x7f7f_ffff ∷ 0x8000_0001 ∷ 0xff7f_ffff
    ∷ 0x3f7f_ffff ∷ 0x3f80_0000 ∷ 0x3fc0_0000
    ∷ 0x4aff_ffff ∷ 0x4b00_0000
    ∷ 0x5eff_ffff ∷ 0x5f00_0000 ∷ 0x5f00_0001
    ∷ 0x7f80_0000 ∷ 0xff80_0000
    ∷ 0x7f80_0001 ∷ 0x7fff_ffff ∷ 0xff80_0001 ∷ 0xffff_ffff ∷ [])
    ≡ Some (noted 0 Exact) ∷ Some (noted 0 Exact)
    ∷ Some (noted 1 Raised) ∷ Some (noted (2 ^ 63) Capped) ∷ Some (noted 0 TakenAsZero) ∷ Some (noted 0 TakenAsZero)
    ∷ Some (noted 1 Raised) ∷ Some (noted 1 Exact) ∷ Some (noted 1 RoundedDown)
    ∷ Some (noted (2 ^ 23 - 1) RoundedDown) ∷ Some (noted (2 ^ 23) Exact)
    ∷ Some (noted (2 ^ 63 - 2 ^ 39) Exact) ∷ Some (noted (2 ^ 63) Exact) ∷ Some (noted (2 ^ 63) Capped)
    ∷ Some (noted (2 ^ 63) Capped) ∷ Some (noted 0 TakenAsZero)
    ∷ None ∷ None ∷ None ∷ None ∷ []
unfolding rate_of rate_of_parts value_rate scaled
singles = refl

-- Numbers at the edges of the notes, on both sides: 0 and 1, 2^23, 2^24 and what takes 25 digits, and 2^63.
abbrev numbers : List ℕ
numbers =
    0 ∷ 1 ∷ 2 ∷ (2 ^ 23 - 1) ∷ (2 ^ 23) ∷ (2 ^ 24 - 1) ∷ (2 ^ 24) ∷ (2 ^ 24 + 1) ∷ (2 ^ 24 + 2)
    ∷ (2 ^ 63 - 2 ^ 39) ∷ (2 ^ 63 - 2 ^ 38) ∷ (2 ^ 63 - 1) ∷ (2 ^ 63) ∷ (2 ^ 63 + 1) ∷ (2 ^ 64) ∷ []

-- Those of some numbers that a rate gives with a note.
abbrev given_with : List ℕ → ℕ → List ℕ
given_with [] note = []
given_with (number ∷ more) note = cond (rate_given number note) (number ∷ given_with more note) (given_with more note)

-- Each note from 0 to 7 with its numbers.
pub pairs : map (given_with numbers) (0 ∷ 1 ∷ 2 ∷ 3 ∷ 4 ∷ 5 ∷ 6 ∷ 7 ∷ [])
    ≡ (0 ∷ 1 ∷ 2 ∷ (2 ^ 23 - 1) ∷ (2 ^ 23) ∷ (2 ^ 24 - 1) ∷ (2 ^ 24) ∷ (2 ^ 24 + 2) ∷ (2 ^ 63 - 2 ^ 39) ∷ (2 ^ 63) ∷ [])
    ∷ (1 ∷ 2 ∷ (2 ^ 23 - 1) ∷ [])
    ∷ (1 ∷ [])
    ∷ ((2 ^ 63) ∷ [])
    ∷ (0 ∷ [])
    ∷ [] ∷ [] ∷ [] ∷ []
unfolding rate_given is_single fits_significand
pairs = refl
