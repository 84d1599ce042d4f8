-- At each turn some input leads to what the buffers hold, none at first and a block more with each turn: it is what was read, and what it
-- prints was written. Each turn adds an octet at least.
use Rattle.std.proofs.Common.{ℕ, ◌≤◌, List, [], length}
use Rattle.std.specs.Io.KnownBytes.{Consumes, Appends}
use Rattle.lines.specs.Input.{program_octets, first_state}
use Rattle.lines.specs.Blocks.{LedBy, standing, block_text}
use Rattle.line_program.proofs.run.Given as goal

abbrev pub invariant-loop-turn : goal.invariant-loop-turn
invariant-loop-turn g l =
    (input : List ℕ)
    × (l._turn ≤ length input)
    × LedBy program_octets input l.line l.progress.held l.progress.used l.routes l.table
    × Consumes (g.R.Read.remaining l.fn.reader) (g.R.Read.remaining l.reader) input
    × Appends (g.W.Write.contents l.fn.writer) (g.W.Write.contents l.writer) (block_text (standing [] (first_state program_octets)) input)
