-- What a line says. 01: "A program reads lines with fields parted by tabs (route, announce, withdraw, list)." A line stands here without
-- the LF that ends it.
use Rattle.std.specs.Prelude.{ℕ, Bool, true, false, cond, ◌&&◌, List, [], ◌∷◌, ltb, eqb, length, get_or}
use Prim.Native.String.{String}
use Rattle.octets.specs.Test.{same_list}
use Rattle.text.specs.Hex.{are_octets, octets_in, word_in}
use Rattle.text.specs.Decimal.{is_number, number_in}
use Rattle.text.specs.Field.{fields}
use Rattle.text.specs.Spelling.{quoted}

-- What a line says: a route to add (address, length, originator, neighbour AS), a rule to announce (the rule's octets, its originator,
-- its communities' octets), a rule to withdraw, that the table is to be listed, or nothing of these.
pub data Line : Type 0 where
  route : (address size originator neighbour : ℕ) → Line
  announce : (rule : List ℕ) (originator : ℕ) (communities : List ℕ) → Line
  withdraw : (rule : List ℕ) → Line
  list : Line
  other : Line

-- A line has at most this many octets.
abbrev pub most_signs : ℕ
most_signs = 16384

-- The field behind so many tabs; a field that is missing counts as empty.
abbrev pub field : ℕ → List (List ℕ) → List ℕ
field n fs = get_or fs n []

-- The quoted word.
abbrev pub is_word : String → List ℕ → Bool
is_word word text = same_list text (quoted word)

-- An address: exactly eight hex digits.
abbrev pub is_address : List ℕ → Bool
is_address text = eqb (length text) 8 && are_octets text

-- A rule: octets in hex. 01: "only an actions field may be empty."
abbrev pub is_rule : List ℕ → Bool
is_rule text = ltb 0 (length text) && are_octets text

-- Fields of these kinds, one of each in their order, and no field more.
unfoldable pub are_of : List (List ℕ → Bool) → List (List ℕ) → Bool
are_of [] [] = true
are_of [] (text ∷ fs) = false
are_of (kind ∷ kinds) [] = false
are_of (kind ∷ kinds) (text ∷ fs) = kind text && are_of kinds fs

-- route, an address, its length, an originator and a neighbour AS.
abbrev pub is_route_line : List (List ℕ) → Bool
is_route_line fs = are_of (is_word "route" ∷ is_address ∷ is_number ∷ is_number ∷ is_number ∷ []) fs

-- announce, a rule, its originator and its actions: the actions field may be empty, not missing.
abbrev pub is_announce_line : List (List ℕ) → Bool
is_announce_line fs = are_of (is_word "announce" ∷ is_rule ∷ is_number ∷ are_octets ∷ []) fs

-- 01: "A withdraw line has the rule alone."
abbrev pub is_withdraw_line : List (List ℕ) → Bool
is_withdraw_line fs = are_of (is_word "withdraw" ∷ is_rule ∷ []) fs

-- list, alone.
abbrev pub is_list_line : List (List ℕ) → Bool
is_list_line fs = are_of (is_word "list" ∷ []) fs

-- What the fields of a line say.
unfoldable pub said : List (List ℕ) → Line
said fs =
    cond (is_route_line fs) (route (word_in (field 1 fs)) (number_in (field 2 fs)) (number_in (field 3 fs)) (number_in (field 4 fs)))
    (cond (is_announce_line fs) (announce (octets_in (field 1 fs)) (number_in (field 2 fs)) (octets_in (field 3 fs)))
    (cond (is_withdraw_line fs) (withdraw (octets_in (field 1 fs)))
    (cond (is_list_line fs) list other)))

-- What a line says: one over 16,384 octets is of another form, whatever stands in it.
unfoldable pub line_of : List ℕ → Line
line_of line = cond (ltb most_signs (length line)) other (said (fields line))
