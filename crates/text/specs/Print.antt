-- Printing into a lent buffer, which may be too short for what is printed.
use Rattle.std.specs.Prelude.{ℕ, ◌+◌, ◌-◌, ◌≡◌, List, length, take}
use Rattle.octets.specs.Store.{stored}

-- The buffer with a text from a place on, as far as the buffer reaches; its other octets are kept.
unfoldable pub laid : List ℕ → ℕ → List ℕ → List ℕ
laid buffer at text = stored buffer at (take (length buffer - at) text)

-- A text was printed from a place on: what the buffer holds then, and where to go on, which may be past the buffer's end.
abbrev pub Printed : List ℕ → ℕ → List ℕ → List ℕ → ℕ → Type 0
Printed buffer at text exit next = (exit ≡ laid buffer at text) × (next ≡ at + length text)
