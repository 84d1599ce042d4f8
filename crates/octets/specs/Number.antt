-- Numbers in octets, the highest octet first, as the RFC's fields have them. An octet past the end of the octets counts as 0.
use Rattle.std.specs.Prelude.{ℕ, zero, suc, ◌+◌, ◌*◌, ◌/◌, ◌%◌, ◌<◌, List, [], ◌∷◌, ◌++◌, get_or}

-- Every element is an octet, as every element of a slice of octets is.
abbrev pub Octets : List ℕ → Type 0
Octets s = (i : ℕ) → get_or s i 0 < 256

-- The number in the n octets of s that begin at a place.
unfoldable pub number_at : ℕ → List ℕ → ℕ → ℕ
number_at zero s at = 0
number_at (suc n) s at = number_at n s at * 256 + get_or s (at + n) 0

-- The n lowest octets of a number, the highest of them first.
unfoldable pub octets_of : ℕ → ℕ → List ℕ
octets_of zero number = []
octets_of (suc n) number = octets_of n (number / 256) ++ (number % 256 ∷ [])
