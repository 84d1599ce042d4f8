-- The refusals of 01's table: the number of each, and the place in the value that it carries.
use Rattle.std.specs.Prelude.{ℕ, ◌≡◌, cond, eqb, Result, Ok, Err}
use Rattle.rule.specs.declared.Refusal.{Refusal}
use Rattle.rule.specs.declared.Refusal.TheVariants.{Overlong, Empty, UnknownType, TypeOrder, PrefixLength, CutShort, ValueSize, Infeasible, UnsoundRoutes, UnsoundTable, NoRoom, UnusablePacket, UnsoundActions, NotHeld, OctetsBehind, ShortBuffer, UntakenAttribute}

-- 01's table, and 2026-01's 19, by their rows.
abbrev pub number_of : Refusal → ℕ
number_of Overlong = 1
number_of Empty = 2
number_of (UnknownType place) = 3
number_of (TypeOrder place) = 4
number_of (PrefixLength place) = 5
number_of (CutShort place) = 6
number_of (ValueSize place) = 7
number_of Infeasible = 8
number_of UnsoundRoutes = 9
number_of UnsoundTable = 10
number_of NoRoom = 11
number_of UnusablePacket = 12
number_of UnsoundActions = 13
number_of NotHeld = 14
number_of OctetsBehind = 15
number_of ShortBuffer = 16
number_of UntakenAttribute = 19

-- 01: "3 to 7 carry a place in the value"; "Others carry place 0."
abbrev pub place_of : Refusal → ℕ
place_of Overlong = 0
place_of Empty = 0
place_of (UnknownType place) = place
place_of (TypeOrder place) = place
place_of (PrefixLength place) = place
place_of (CutShort place) = place
place_of (ValueSize place) = place
place_of Infeasible = 0
place_of UnsoundRoutes = 0
place_of UnsoundTable = 0
place_of NoRoom = 0
place_of UnusablePacket = 0
place_of UnsoundActions = 0
place_of NotHeld = 0
place_of OctetsBehind = 0
place_of ShortBuffer = 0
place_of UntakenAttribute = 0

-- An answer is a refusal with this number and this place.
abbrev pub RefusedWith : {A : Type 0} → Result A Refusal → ℕ → ℕ → Type 0
RefusedWith (Ok answer) number place = ⊥
RefusedWith (Err refusal) number place = (number_of refusal ≡ number) × (place_of refusal ≡ place)

-- The number of an outcome: 0 where it is done, else its refusal's.
abbrev pub told_number : Result Unit Refusal → ℕ
told_number (Ok _) = 0
told_number (Err refusal) = number_of refusal

-- The refusal of a number of the table, with a place. That it is the one that has them is shown in proofs/Near.antt; a number that stands in
-- no row is taken for the last one's.
abbrev pub refusal_with : ℕ → ℕ → Refusal
refusal_with number place =
    cond (eqb number 1) Overlong
    (cond (eqb number 2) Empty
    (cond (eqb number 3) (UnknownType place)
    (cond (eqb number 4) (TypeOrder place)
    (cond (eqb number 5) (PrefixLength place)
    (cond (eqb number 6) (CutShort place)
    (cond (eqb number 7) (ValueSize place)
    (cond (eqb number 8) Infeasible
    (cond (eqb number 9) UnsoundRoutes
    (cond (eqb number 10) UnsoundTable
    (cond (eqb number 11) NoRoom
    (cond (eqb number 12) UnusablePacket
    (cond (eqb number 13) UnsoundActions
    (cond (eqb number 14) NotHeld
    (cond (eqb number 15) OctetsBehind
    (cond (eqb number 16) ShortBuffer UntakenAttribute)))))))))))))))

-- An answer that is refused with a number, and a place.
abbrev pub refused_with : {A : Type 0} → ℕ → ℕ → Result A Refusal
refused_with number place = Err (refusal_with number place)
