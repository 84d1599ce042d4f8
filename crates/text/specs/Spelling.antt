-- The signs of a text, which are numbers in ASCII: how the definitions quote a text, and a test of a sign.
use Rattle.std.specs.Prelude.{ℕ, Bool, ◌&&◌, List, [], ◌∷◌, leb}
use Prim.Native.Char.{code}
use Prim.Native.String.{String, [] as none, ◌∷◌ as ◌before◌}

-- The signs of a quoted text.
abbrev pub quoted : String → List ℕ
quoted none = []
quoted (sign before text) = code sign ∷ quoted text

-- A sign from one to another.
abbrev pub is_from : ℕ → ℕ → ℕ → Bool
is_from low high sign = leb low sign && leb sign high

-- A digit: 0 to 9.
abbrev pub is_digit : ℕ → Bool
is_digit sign = is_from 0x30 0x39 sign
