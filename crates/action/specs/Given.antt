-- Numbers that may be missing, as a rule need not mark or redirect. A missing number stands as 0, and a present 0 is another thing.
use Rattle.std.specs.Prelude.{ℕ, Bool, true, false, cond, eqb}
use Rattle.action.specs.declared.Given.{Given}

-- No number.
abbrev pub absent : Given
absent = record { present = false; number = 0 }

-- A number that is there.
abbrev pub given : ℕ → Given
given n = record { present = true; number = n }

-- 01: "marking and redirect from the first that has one": the first of two where it is there, else the second.
unfoldable pub first_of : Given → Given → Given
first_of a b = cond a.present a b

-- A number that is there passes the test; one that is missing is 0.
unfoldable pub allowed : Bool → ℕ → Bool → Bool
allowed present number passes = cond present passes (eqb number 0)
