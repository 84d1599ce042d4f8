-- A line that is too long says the same whole and cut to one octet more than a line may have. Assumes nothing.
use mathlib.Core.Path.{◌≡◌, sym, ap, ◌∙◌}
use mathlib.Core.List.{List}
use Prim.Native.Nat.{ℕ, ◌+◌, ◌<◌}
use native.Mathlib.Omega.{arith}
use native.Mathlib.Decide.{dec_lt}
use lib.ListN.{length, take, length-take}
use lib.Seq.{take_all}
use borrow.Author.Tests.{lt-ltb}
use Rattle.line.specs.Line.{line_of, other, most_signs}

-- a line over 16,384 octets says nothing
pub too_long : (line : List ℕ) → most_signs < length line → line_of line ≡ other
unfolding line_of
too_long line h = rw (lt-ltb most_signs (length line) h)

-- a cut line says what the whole one says
pub cut-says : (line : List ℕ) → line_of (take (most_signs + 1) line) ≡ line_of line
cut-says line =
    elim (dec_lt most_signs (length line)) [
      | yes l ↦ too_long (take (most_signs + 1) line) (simp length-take (omega arith)) ∙ sym (too_long line l)
      | no g ↦ ap line_of (take_all (most_signs + 1) line (omega arith))
    ]
