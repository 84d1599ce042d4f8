-- The fields of a line (01: "lines with fields parted by tabs"). A text with no tab is one field, and so is an empty text.
use Rattle.std.specs.Prelude.{ℕ, suc, ◌+◌, cond, List, [], ◌∷◌, eqb, drop}

-- A sign in front of the first field.
abbrev pub in_first : ℕ → List (List ℕ) → List (List ℕ)
in_first sign [] = (sign ∷ []) ∷ []
in_first sign (field ∷ others) = (sign ∷ field) ∷ others

-- The fields of a text: each tab, sign 9, ends one.
unfoldable pub fields : List ℕ → List (List ℕ)
fields [] = [] ∷ []
fields (sign ∷ text) = cond (eqb sign 9) ([] ∷ fields text) (in_first sign (fields text))

-- Where the first octet that is a mark stands: how many stand before it, which are all where there is none.
unfoldable pub place_of : ℕ → List ℕ → ℕ
place_of mark [] = 0
place_of mark (octet ∷ s) = cond (eqb octet mark) 0 (suc (place_of mark s))

-- Where the field of a line that begins at a place ends.
abbrev pub field_end : List ℕ → ℕ → ℕ
field_end line from = from + place_of 9 (drop from line)
