-- How the program comes to what a whole input prints, by blocks of any length: where it stands between two octets, what an octet, a block
-- and the end of the input print and leave, and how its buffers hold where it stands. The contracts of `line_program` speak of that: of
-- its buffers, routes and table, and of what is written.
use Rattle.std.specs.Prelude.{ℕ, ◌+◌, ◌≤◌, ◌≡◌, cond, List, [], ◌∷◌, ◌++◌, eqb, length, take}
use Rattle.line.specs.Line.{most_signs}
use Rattle.lines.specs.Input.{State, state_of, first_state, line_text, after_line}

-- Where the program stands in an input: the octets behind the last LF, and what the lines before it have left.
pub record Standing : Type 0 where
  pub rest : List ℕ
  pub state : State

-- A standing by its parts.
abbrev pub standing : List ℕ → State → Standing
standing rest state = record { rest = rest; state = state }

-- An octet more: LF has the rest served as a line, another octet stands behind the rest.
abbrev pub after_octet : Standing → ℕ → Standing
after_octet s octet =
    cond (eqb octet 10) (standing [] (after_line s.state s.rest)) (standing (s.rest ++ (octet ∷ [])) s.state)

-- What an octet more prints.
abbrev pub octet_text : Standing → ℕ → List ℕ
octet_text s octet = cond (eqb octet 10) (line_text s.state s.rest) []

-- A block more, octet by octet.
unfoldable pub after_block : Standing → List ℕ → Standing
after_block s [] = s
after_block s (octet ∷ block) = after_block (after_octet s octet) block

-- What a block more prints.
unfoldable pub block_text : Standing → List ℕ → List ℕ
block_text s [] = []
block_text s (octet ∷ block) = octet_text s octet ++ block_text (after_octet s octet) block

-- What the end of the input prints: the rest is served as a line, unless it is empty.
abbrev pub end_text : Standing → List ℕ
end_text s = cond (eqb (length s.rest) 0) [] (line_text s.state s.rest)

-- What the end of the input leaves.
abbrev pub after_end : Standing → State
after_end s = cond (eqb (length s.rest) 0) s.state (after_line s.state s.rest)

-- The input that comes in blocks.
unfoldable pub joined : List (List ℕ) → List ℕ
joined [] = []
joined (block ∷ blocks) = block ++ joined blocks

-- What is printed for it block by block, to its end.
unfoldable pub blocks_text : Standing → List (List ℕ) → List ℕ
blocks_text s [] = end_text s
blocks_text s (block ∷ blocks) = block_text s block ++ blocks_text (after_block s block) blocks

-- Where the program stands behind an input, from its start on, over a table of n octets.
abbrev pub standing_after : ℕ → List ℕ → Standing
standing_after n input = after_block (standing [] (first_state n)) input

-- How the program's buffers hold where it stands: the line's buffer has one octet more than a line may have, and as much of the rest as
-- fits.
pub record Holds (s : Standing) (line : List ℕ) (held used : ℕ) (routes table : List ℕ) : Type 0 where
  pub long : length line ≡ most_signs + 1
  pub within : held ≤ length line
  pub rest : take held line ≡ take (most_signs + 1) s.rest
  pub state : state_of used routes table ≡ s.state

-- An input leads to what the buffers hold, over a table of n octets.
abbrev pub LedBy : ℕ → List ℕ → List ℕ → ℕ → ℕ → List ℕ → List ℕ → Type 0
LedBy n input line held used routes table = Holds (standing_after n input) line held used routes table

-- Some input does.
abbrev pub Led : ℕ → List ℕ → ℕ → ℕ → List ℕ → List ℕ → Type 0
Led n line held used routes table = (input : List ℕ) × LedBy n input line held used routes table
