-- Parting the input into lines. 01: "A line ends at LF, which the last may lack." The input comes in blocks, and a line is gathered in a
-- buffer until its LF is met. What passes the buffer's end is dropped: a buffer of one octet more than a line may have still shows that a
-- line is too long.
use Rattle.std.specs.Prelude.{ℕ, ◌+◌, min, Bool, cond, List, ltb, length, take}
use Rattle.text.specs.Field.{place_of}
use Rattle.text.specs.Print.{laid}

-- What gathering from a block leaves: how many octets of it were taken, the LF included; how many the line's buffer holds now; whether
-- the line has ended; and the buffer.
pub record Gathering : Type 0 where
  pub taken : ℕ
  pub held : ℕ
  pub ended : Bool
  pub line : List ℕ

-- The octets of a block before its first LF, octet 10, or all of them where it has none, are laid into the line's buffer behind the `held`
-- octets that it holds already.
unfoldable pub gathered : List ℕ → List ℕ → ℕ → Gathering
gathered block line held =
    let size = place_of 10 block in
    let ended = ltb size (length block) in
    record {
      taken = cond ended (size + 1) size;
      held = min (held + size) (length line);
      ended = ended;
      line = laid line held (take size block);
    }
