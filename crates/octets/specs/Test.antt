-- Tests of lists, element by element.
use Rattle.std.specs.Prelude.{ℕ, Bool, true, false, ◌&&◌, ◌||◌, List, [], ◌∷◌, eqb}

-- Every element passes the test.
unfoldable pub every : {A : Type 0} → (A → Bool) → List A → Bool
every test [] = true
every test (x ∷ xs) = test x && every test xs

-- Some element passes the test.
unfoldable pub one_holds : {A : Type 0} → (A → Bool) → List A → Bool
one_holds test [] = false
one_holds test (x ∷ xs) = test x || one_holds test xs

-- A statement holds of each element.
abbrev pub Each : {A : Type 0} → (A → Type 0) → List A → Type 0
Each holds [] = Unit {0}
Each holds (x ∷ xs) = holds x × Each holds xs

-- Every octet is 0.
unfoldable pub all_zero : List ℕ → Bool
all_zero s = every (λ octet. eqb octet 0) s

-- The same list: as many numbers, and each equal to the other's at its place.
unfoldable pub same_list : List ℕ → List ℕ → Bool
same_list [] [] = true
same_list [] (y ∷ ys) = false
same_list (x ∷ xs) [] = false
same_list (x ∷ xs) (y ∷ ys) = eqb x y && same_list xs ys
