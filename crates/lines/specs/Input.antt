-- What is to be printed for a whole input, and what it leaves: the lines of the input are served one after the other, from an empty state
-- on. The table may have any length; the program's has `program_octets`. That the text is the same however the input is cut into blocks
-- (Blocks.antt) is shown in proofs/InputLaws.antt; that the program writes it, wherever the bytes of a reader and a writer are known, is what
-- `line_program::run` promises.
use Rattle.std.specs.Prelude.{ℕ, cond, List, [], ◌∷◌, ◌++◌, eqb, replicate}
use Rattle.text.specs.Field.{in_first}
use Rattle.lines.specs.Serve.{most_words, served}

-- The lines of an input. 01: "A line ends at LF, which the last may lack." Each LF, octet 10, ends one; what stands behind the last LF is a
-- line too, unless it is empty.
unfoldable pub lines_of : List ℕ → List (List ℕ)
lines_of [] = []
lines_of (octet ∷ input) = cond (eqb octet 10) ([] ∷ lines_of input) (in_first octet (lines_of input))

-- What the program has between two lines: the words of routes in use, the buffer of routes, and the table.
pub record State : Type 0 where
  pub used : ℕ
  pub routes : List ℕ
  pub table : List ℕ

-- A state by its parts.
abbrev pub state_of : ℕ → List ℕ → List ℕ → State
state_of used routes table = record { used = used; routes = routes; table = table }

-- 01: "Its table is 65,536 octets."
abbrev pub program_octets : ℕ
program_octets = 65536

-- At the start there is no route, and no rule in the table, which has n octets.
unfoldable pub first_state : ℕ → State
first_state n = state_of 0 (replicate most_words 0) (replicate n 0)

-- What a line prints.
abbrev pub line_text : State → List ℕ → List ℕ
line_text state line = (served line state.used state.routes state.table).text

-- What serving a line leaves.
unfoldable pub after_line : State → List ℕ → State
after_line state line =
    let serving = served line state.used state.routes state.table in
    state_of serving.used serving.routes serving.table

-- What lines print that are served one after the other.
unfoldable pub lines_text : State → List (List ℕ) → List ℕ
lines_text state [] = []
lines_text state (line ∷ lines) = line_text state line ++ lines_text (after_line state line) lines

-- What they leave.
unfoldable pub after_lines : State → List (List ℕ) → State
after_lines state [] = state
after_lines state (line ∷ lines) = after_lines (after_line state line) lines

-- What a whole input prints over a table of n octets.
abbrev pub output_of : ℕ → List ℕ → List ℕ
output_of n input = lines_text (first_state n) (lines_of input)

-- What a whole input leaves.
abbrev pub left_by : ℕ → List ℕ → State
left_by n input = after_lines (first_state n) (lines_of input)
