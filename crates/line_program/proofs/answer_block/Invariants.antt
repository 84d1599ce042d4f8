-- An input that led to what the buffers held leads, with what was taken of the block behind it, to what they hold, and what that prints
-- was written; each turn takes an octet at least.
use Rattle.std.proofs.Common.{ℕ, ◌-◌, ◌≤◌, List, ◌++◌, length, take}
use Rattle.std.specs.Io.KnownBytes.{Appends}
use Rattle.lines.specs.Input.{program_octets}
use Rattle.lines.specs.Blocks.{LedBy, standing_after, block_text}
use Rattle.line_program.proofs.answer_block.Given as goal

abbrev pub invariant-loop-at : goal.invariant-loop-at
invariant-loop-at g l = record {
  within : l.at ≤ length l.block;
  led : (input : List ℕ) → LedBy program_octets input l.fn.line l.fn.start.held l.fn.start.used l.fn.routes l.fn.table
      → LedBy program_octets (input ++ take l.at l.block) l.line l.progress.held l.progress.used l.routes l.table;
  written : (input : List ℕ) → LedBy program_octets input l.fn.line l.fn.start.held l.fn.start.used l.fn.routes l.fn.table
      → Appends (g.W.Write.contents l.fn.writer) (g.W.Write.contents l.writer) (block_text (standing_after program_octets input) (take l.at l.block));
}

abbrev pub decreases-loop-at : goal.decreases-loop-at
decreases-loop-at g l = length l.block - l.at
