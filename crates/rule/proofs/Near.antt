-- What every refusal is: a number of 01's table, as amended, and a place that lies within the longest value. Assumes nothing.
use Prim.Native.Nat.{ℕ, ◌≤◌}
use mathlib.Core.Path.{◌≡◌, refl}
use mathlib.Core.List.{List, [], ◌∷◌, map}
use native.Mathlib.Omega.{arith}
use Rattle.rule.specs.declared.Refusal.{Refusal}
use Rattle.rule.specs.declared.Refusal.TheVariants.{Overlong, Empty, UnknownType, TypeOrder, PrefixLength, CutShort, ValueSize, Infeasible, UnsoundRoutes, UnsoundTable, NoRoom, UnusablePacket, UnsoundActions, NotHeld, OctetsBehind, ShortBuffer, UntakenAttribute}
use Rattle.rule.specs.Refusal.{number_of, place_of, refusal_with}
use Rattle.rule.specs.Value.{most_value}

-- the highest number of a refusal
abbrev pub highest_number : ℕ
highest_number = 19

-- what holds of each number of a refusal holds of every refusal's
number-cases : (P : ℕ → Type 0) → P 1 → P 2 → P 3 → P 4 → P 5 → P 6 → P 7 → P 8 → P 9 → P 10 → P 11 → P 12 → P 13 → P 14 → P 15 → P 16 → P 19
    → (r : Refusal) → P (number_of r)
number-cases P a b c d e f g h i j k l m n o p q Overlong = a
number-cases P a b c d e f g h i j k l m n o p q Empty = b
number-cases P a b c d e f g h i j k l m n o p q (UnknownType place) = c
number-cases P a b c d e f g h i j k l m n o p q (TypeOrder place) = d
number-cases P a b c d e f g h i j k l m n o p q (PrefixLength place) = e
number-cases P a b c d e f g h i j k l m n o p q (CutShort place) = f
number-cases P a b c d e f g h i j k l m n o p q (ValueSize place) = g
number-cases P a b c d e f g h i j k l m n o p q Infeasible = h
number-cases P a b c d e f g h i j k l m n o p q UnsoundRoutes = i
number-cases P a b c d e f g h i j k l m n o p q UnsoundTable = j
number-cases P a b c d e f g h i j k l m n o p q NoRoom = k
number-cases P a b c d e f g h i j k l m n o p q UnusablePacket = l
number-cases P a b c d e f g h i j k l m n o p q UnsoundActions = m
number-cases P a b c d e f g h i j k l m n o p q NotHeld = n
number-cases P a b c d e f g h i j k l m n o p q OctetsBehind = o
number-cases P a b c d e f g h i j k l m n o p q ShortBuffer = p
number-cases P a b c d e f g h i j k l m n o p q UntakenAttribute = q

-- no refusal has the number 0
pub number-given : (r : Refusal) → 1 ≤ number_of r
number-given =
    number-cases (λ n. 1 ≤ n) (omega arith) (omega arith) (omega arith) (omega arith) (omega arith) (omega arith) (omega arith) (omega arith) (omega arith)
    (omega arith) (omega arith) (omega arith) (omega arith) (omega arith) (omega arith) (omega arith) (omega arith)

-- no refusal has a number above the table's last
pub number-listed : (r : Refusal) → number_of r ≤ highest_number
number-listed =
    number-cases (λ n. n ≤ highest_number) (omega arith) (omega arith) (omega arith) (omega arith) (omega arith) (omega arith) (omega arith) (omega arith)
    (omega arith) (omega arith) (omega arith) (omega arith) (omega arith) (omega arith) (omega arith) (omega arith) (omega arith)

-- a refusal whose place lies within the longest value
pub record Near (r : Refusal) : Type 0 where
  pub near : place_of r ≤ most_value

-- a refusal that carries no place
pub placeless : (r : Refusal) → place_of r ≡ 0 → Near r
placeless r e = record { near = omega arith }

-- a refusal is the one that its number and its place name
pub refusal-with : (r : Refusal) → refusal_with (number_of r) (place_of r) ≡ r
refusal-with Overlong = refl
refusal-with Empty = refl
refusal-with (UnknownType place) = refl
refusal-with (TypeOrder place) = refl
refusal-with (PrefixLength place) = refl
refusal-with (CutShort place) = refl
refusal-with (ValueSize place) = refl
refusal-with Infeasible = refl
refusal-with UnsoundRoutes = refl
refusal-with UnsoundTable = refl
refusal-with NoRoom = refl
refusal-with UnusablePacket = refl
refusal-with UnsoundActions = refl
refusal-with NotHeld = refl
refusal-with OctetsBehind = refl
refusal-with ShortBuffer = refl
refusal-with UntakenAttribute = refl

-- the numbers of 01's table, as amended
abbrev pub table_numbers : List ℕ
table_numbers = 1 ∷ 2 ∷ 3 ∷ 4 ∷ 5 ∷ 6 ∷ 7 ∷ 8 ∷ 9 ∷ 10 ∷ 11 ∷ 12 ∷ 13 ∷ 14 ∷ 15 ∷ 16 ∷ 19 ∷ []

-- and the refusal that is named by one of them has that number, and, where its row is one of 3 to 7, the place that is named beside it
pub numbers-back : (place : ℕ) → map (λ number. number_of (refusal_with number place)) table_numbers ≡ table_numbers
numbers-back place = refl

pub places-back : (place : ℕ) → map (λ number. place_of (refusal_with number place)) table_numbers
    ≡ 0 ∷ 0 ∷ place ∷ place ∷ place ∷ place ∷ place ∷ 0 ∷ 0 ∷ 0 ∷ 0 ∷ 0 ∷ 0 ∷ 0 ∷ 0 ∷ 0 ∷ 0 ∷ []
places-back place = refl
