-- A line that is too long is served alike whole and cut to one octet more than a line may have, which is all that the program's buffer
-- keeps of it. Assumes nothing.
use mathlib.Core.Path.{◌≡◌}
use mathlib.Core.List.{List}
use Prim.Native.Nat.{ℕ, ◌+◌}
use lib.ListN.{take}
use Rattle.line.specs.Line.{most_signs}
use Rattle.line.proofs.CutLaws.{cut-says}
use Rattle.lines.specs.Serve.{served}

pub cut-alike : (line : List ℕ) (used : ℕ) (routes table : List ℕ) → served (take (most_signs + 1) line) used routes table ≡ served line used routes table
unfolding served
cut-alike line used routes table = rw (cut-says line)
