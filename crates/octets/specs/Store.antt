-- What a buffer holds after a change to a part inside it, which keeps its length: octets stored at a place, the octets from a place on
-- cleared, a part of the buffer cut out, a gap opened in it. `size` counts octets, and `at` and `from` are places counted from 0.
use Rattle.std.specs.Prelude.{ℕ, ◌+◌, ◌-◌, List, ◌++◌, length, take, drop, replicate}

-- The buffer with s from a place on, and its other octets kept.
unfoldable pub stored : List ℕ → ℕ → List ℕ → List ℕ
stored buffer at s = take at buffer ++ s ++ drop (at + length s) buffer

-- The buffer with zeros from a place on.
unfoldable pub cleared : List ℕ → ℕ → List ℕ
cleared buffer from = take from buffer ++ replicate (length buffer - from) 0

-- The buffer without the part, all that follows moved down, and zeros at its end.
unfoldable pub cut_out : List ℕ → ℕ → ℕ → List ℕ
cut_out buffer at size = take at buffer ++ (drop (at + size) buffer ++ replicate size 0)

-- The buffer with all from a place on moved up, so that its last octets fall off; the gap's own octets are not yet changed.
unfoldable pub gap_opened : List ℕ → ℕ → ℕ → List ℕ
gap_opened buffer at size = take (at + size) buffer ++ take (length buffer - (at + size)) (drop at buffer)
