-- What the two public calls promise, whatever they are lent: their answer, what each buffer lent to be changed holds at exit, and that what
-- is lent to be read alone is as it was (`keeps`; `kept` is what it holds at exit). No call has a `requires`. That no second result
-- satisfies a promise is shown in proofs/Unique.antt.
use Rattle.std.specs.Prelude.{ℕ, ◌≤◌, ◌≡◌, List, [], ◌∷◌, length}
use Rattle.text.specs.Print.{laid}
use Rattle.lines.specs.declared.Served.{Served}
use Rattle.lines.specs.declared.Gathered.{Gathered}
use Rattle.answers.specs.Answer.{most_text}
use Rattle.lines.specs.Serve.{served, served_told}
use Rattle.lines.specs.Gather.{Gathering, gathered}

-- Serving a line: the text stands at the front of the output's buffer, as far as that reaches, and the rest of it is kept. A buffer of
-- `most_text (length table)` octets takes every text whole.
pub record Serves (line : List ℕ) (used : ℕ) (routes table out : List ℕ) (answer : Served) (routes_exit table_exit out_exit : List ℕ)
    (kept : List (List ℕ)) : Type 0 where
  pub is : answer ≡ served_told (served line used routes table)
  pub leaves_routes : routes_exit ≡ (served line used routes table).routes
  pub leaves_table : table_exit ≡ (served line used routes table).table
  pub prints : out_exit ≡ laid out 0 (served line used routes table).text
  pub short : answer.printed ≤ most_text (length table)
  pub keeps : kept ≡ line ∷ []

-- The answer for what was gathered.
abbrev pub gathered_told : Gathering → Gathered
gathered_told gathering = record { taken = gathering.taken; held = gathering.held; ended = gathering.ended }

-- Gathering a line from a block.
pub record Gathers (block line : List ℕ) (held : ℕ) (answer : Gathered) (line_exit : List ℕ) (kept : List (List ℕ)) : Type 0 where
  pub is : answer ≡ gathered_told (gathered block line held)
  pub leaves : line_exit ≡ (gathered block line held).line
  pub keeps : kept ≡ block ∷ []
