-- The end of the input: what it prints, and what a state is that was served. Assumes nothing.
use Rattle.std.proofs.Common.{◌≡◌, ℕ, ◌+◌, ◌<◌, ◌≤◌, List, [], ◌++◌, None, Some, IfSome, sym, ap, subst, ◌∙◌, append-nil, length, take, length-append, length-take, arith, min}
use Rattle.std.specs.Prelude.{Option}
use Rattle.std.specs.Io.KnownBytes.{Consumes, Appends, IsAtEnd}
use Rattle.std.proofs.KnownBytes.{Consumes-trans, Appends-trans}
use mathlib.Core.Bool.{cond}
use borrow.Author.Tests.{eq-eqb, ne_eqb}
use lib.Seq.{length-take-le}
use Rattle.line.specs.Line.{most_signs}
use Rattle.lines.specs.Serve.{Serving}
use Rattle.lines.specs.Input.{State, state_of, first_state, line_text, output_of}
use Rattle.lines.specs.Blocks.{Standing, standing, block_text, standing_after, end_text, Holds}
use Rattle.lines.proofs.CutLaws.{cut-alike}
use Rattle.lines.proofs.InputLaws.{output-is}

-- two states that are the same have the same routes and the same table
pub parts : (a b : State) → a ≡ b → (a.routes ≡ b.routes) × (a.table ≡ b.table)
parts a b e = (ap (λ (s : State). s.routes) e, ap (λ (s : State). s.table) e)

-- a state by its routes and its table
pub whole : (routes table : List ℕ) (s : State) → routes ≡ s.routes → table ≡ s.table → state_of s.used routes table ≡ s
whole routes table s e f = λ i. record { used = s.used; routes = e i; table = f i }

module _ (s : Standing) (line : List ℕ) (held used : ℕ) (routes table : List ℕ) (holds : Holds s line held used routes table) where
  size : held ≡ min (most_signs + 1) (length s.rest)
  size = sym (length-take-le held line holds.within) ∙ ap length holds.rest ∙ length-take (most_signs + 1) s.rest

  -- where nothing is held, nothing is printed
  pub end-none : held ≡ 0 → end_text s ≡ []
  end-none e =
      let k = size in
      let z : length s.rest ≡ 0 = omega arith in
      ap (λ b. cond b [] (line_text s.state s.rest)) (eq-eqb (length s.rest) 0 z)

  -- else what is held prints what the rest does
  pub end-line : (held ≡ 0 → ⊥) → line_text (state_of used routes table) (take held line) ≡ end_text s
  end-line e =
      let k = size in
      let z : length s.rest ≡ 0 → ⊥ = λ q. e (omega arith) in
      ap (line_text (state_of used routes table)) holds.rest
      ∙ ap (λ (o : Serving). o.text) (cut-alike s.rest used routes table)
      ∙ ap (λ q. line_text q s.rest) holds.state
      ∙ sym (ap (λ b. cond b [] (line_text s.state s.rest)) (ne_eqb (length s.rest) 0 z))

-- a reader that is at its end gave all that it had
all-given : (source rest : Option (List ℕ)) (input : List ℕ) (P : List ℕ → Type 0) → Consumes source rest input → IsAtEnd rest → P input → IfSome source P
all-given None rest input P r e p = tt
all-given (Some xs) None input P r e p = absurd r
all-given (Some xs) (Some ys) input P r e p = subst P (sym (r ∙ ap (λ l. input ++ l) e ∙ append-nil input)) p

-- one octet more at least
pub longer : (input more : List ℕ) (n : ℕ) → n ≤ length input → 0 < length more → n + 1 ≤ length (input ++ more)
longer input more n h k = simp length-append (omega arith)

-- a reader that gave n octets had no fewer
pub too-short : (n : ℕ) (source rest : Option (List ℕ)) (input : List ℕ) (P : List ℕ → Type 0) → Consumes source rest input → n ≤ length input
    → IfSome source (λ t. length t < n → P t)
too-short n None rest input P r h = tt
too-short n (Some xs) None input P r h = absurd r
too-short n (Some xs) (Some ys) input P r h =
    λ less. let e : length xs ≡ length input + length ys = ap length r ∙ length-append input ys in absurd (omega arith)

-- so did one that was read once more and gave nothing
pub all-read : (source left rest : Option (List ℕ)) (input buffer : List ℕ) (count : ℕ) (P : List ℕ → Type 0) → Consumes source left input
    → Consumes left rest (take count buffer) → count ≡ 0 → IsAtEnd rest → P input → IfSome source P
all-read source left rest input buffer count P first last none =
    all-given source rest input P
    (subst (Consumes source rest) (ap (λ k. input ++ take k buffer) none ∙ append-nil input) (Consumes-trans source left rest input (take count buffer) first last))

-- what was written of an input and of its end is the output
pub all-written : (n : ℕ) (input : List ℕ) (a b c : Option (List ℕ)) → Appends a b (block_text (standing [] (first_state n)) input)
    → Appends b c (end_text (standing_after n input)) → Appends a c (output_of n input)
all-written n input a b c p q = subst (Appends a c) (sym (output-is n input)) (Appends-trans a b c _ _ p q)
