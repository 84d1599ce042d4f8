-- A whole input, and the same in blocks: however the input is cut, gathering and serving print what its lines print, and leave what they
-- leave. Assumes nothing.
use mathlib.Core.Path.{◌≡◌, refl, ap, sym, subst, ◌∙◌}
use mathlib.Core.Bool.{true, false, cond}
use mathlib.Core.List.{List, [], ◌∷◌, ◌++◌, append_assoc, append-nil}
use Prim.Native.Nat.{ℕ, zero, suc, ◌+◌, ◌-◌, ◌<◌, ◌≤◌, min}
use native.Mathlib.Omega.{arith}
use native.Mathlib.Decide.{dec_lt}
use native.Mathlib.Numerals.{add-one}
use lib.Dec.{eqb, ltb}
use lib.ListN.{length, take, drop, length-append, length-take, length-drop, take-append-drop}
use lib.Seq.{take-nil, take_all, take-add, take_at, take-append-le, take-append-add, length-take-le}
use borrow.Author.Tests.{eq-eqb, ne_eqb, eqb-true, ltb-true}
use Rattle.octets.proofs.Cases.{by-test}
use Rattle.octets.specs.Store.{stored}
use Rattle.text.specs.Field.{in_first, place_of}
use Rattle.text.specs.Print.{laid}
use Rattle.text.proofs.FieldLaws.{place-within}
use Rattle.text.proofs.PrintLaws.{length-laid}
use Rattle.lines.specs.declared.Served.{Served}
use Rattle.lines.specs.declared.Gathered.{Gathered}
use Rattle.line.specs.Line.{most_signs}
use Rattle.answers.specs.Answer.{most_text}
use Rattle.lines.specs.Serve.{Serving}
use Rattle.lines.specs.Gather.{gathered}
use Rattle.lines.specs.Promise.{Serves, Gathers}
use Rattle.lines.specs.Input.{lines_of, State, state_of, first_state, line_text, after_line, lines_text, after_lines, output_of, left_by}
use Rattle.lines.specs.Blocks.{Standing, standing, after_octet, octet_text, after_block, block_text, end_text, after_end, joined, blocks_text, standing_after, Holds, LedBy}
use Rattle.lines.proofs.CutLaws.{cut-alike}
use Rattle.lines.proofs.ServeLaws.{front-is}

-- a block in two parts
block-append : (s : Standing) (a b : List ℕ) → after_block s (a ++ b) ≡ after_block (after_block s a) b
unfolding after_block
block-append s [] b = refl
block-append s (x ∷ a) b = block-append (after_octet s x) a b

text-append : (s : Standing) (a b : List ℕ) → block_text s (a ++ b) ≡ block_text s a ++ block_text (after_block s a) b
unfolding after_block block_text
text-append s [] b = refl
text-append s (x ∷ a) b = rw (text-append (after_octet s x) a b) (sym (append_assoc (octet_text s x) (block_text (after_octet s x) a) (block_text (after_block (after_octet s x) a) b)))

-- nothing
after-nil : (s : Standing) → after_block s [] ≡ s
unfolding after_block
after-nil s = refl

text-nil : (s : Standing) → block_text s [] ≡ []
unfolding block_text
text-nil s = refl

-- a block that begins with LF, and one that does not
module _ (s : Standing) (x : ℕ) (block : List ℕ) where
  after-lf : eqb x 10 ≡ true → after_block s (x ∷ block) ≡ after_block (standing [] (after_line s.state s.rest)) block
  unfolding after_block
  after-lf e = rw e

  after-other : eqb x 10 ≡ false → after_block s (x ∷ block) ≡ after_block (standing (s.rest ++ (x ∷ [])) s.state) block
  unfolding after_block
  after-other e = rw e

  text-lf : eqb x 10 ≡ true → block_text s (x ∷ block) ≡ line_text s.state s.rest ++ block_text (standing [] (after_line s.state s.rest)) block
  unfolding block_text
  text-lf e = rw e

  text-other : eqb x 10 ≡ false → block_text s (x ∷ block) ≡ block_text (standing (s.rest ++ (x ∷ [])) s.state) block
  unfolding block_text
  text-other e = rw e

-- a rest in front of the first of some lines
abbrev led : List ℕ → List (List ℕ) → List (List ℕ)
led [] lines = lines
led (x ∷ rest) lines = in_first x (led rest lines)

led-one : (rest line : List ℕ) (lines : List (List ℕ)) → led rest (line ∷ lines) ≡ (rest ++ line) ∷ lines
led-one [] line lines = refl
led-one (x ∷ rest) line lines = rw (led-one rest line lines)

led-none : (x : ℕ) (rest : List ℕ) → led (x ∷ rest) [] ≡ (x ∷ rest) ∷ []
led-none x [] = refl
led-none x (y ∷ rest) = rw (led-none y rest)

led-more : (rest : List ℕ) (x : ℕ) (lines : List (List ℕ)) → led rest (in_first x lines) ≡ led (rest ++ (x ∷ [])) lines
led-more [] x lines = refl
led-more (y ∷ rest) x lines = rw (led-more rest x lines)

-- the lines of a rest and of an input that begins with LF, or that does not
module _ (rest : List ℕ) (x : ℕ) (input : List ℕ) where
  lines-lf : eqb x 10 ≡ true → led rest (lines_of (x ∷ input)) ≡ rest ∷ lines_of input
  unfolding lines_of
  lines-lf e = rw (e, led-one rest [] (lines_of input), append-nil rest)

  lines_other : eqb x 10 ≡ false → led rest (lines_of (x ∷ input)) ≡ led (rest ++ (x ∷ [])) (lines_of input)
  unfolding lines_of
  lines_other e = rw (e, led-more rest x (lines_of input))

-- what stands behind a rest prints what its octets print and what the end does, and leaves what they leave
text-one : (state : State) (line : List ℕ) (lines : List (List ℕ)) → lines_text state (line ∷ lines) ≡ line_text state line ++ lines_text (after_line state line) lines
unfolding lines_text
text-one state line lines = refl

text-end : (rest : List ℕ) (state : State) → lines_text state (led rest (lines_of [])) ≡ block_text (standing rest state) [] ++ end_text (after_block (standing rest state) [])
unfolding lines_text lines_of block_text after_block
text-end [] state = refl
text-end (x ∷ rest) state = rw (led-none x rest, ne_eqb (suc (length rest)) 0 (λ e. omega arith)) (append-nil (line_text state (x ∷ rest)))

text-from : (rest : List ℕ) (state : State) (input : List ℕ)
    → lines_text state (led rest (lines_of input)) ≡ block_text (standing rest state) input ++ end_text (after_block (standing rest state) input)
text-from rest state [] = text-end rest state
text-from rest state (x ∷ input) =
    by-test (eqb x 10)
    (λ e. rw (lines-lf rest x input e, text-one state rest (lines_of input), text-lf (standing rest state) x input e, after-lf (standing rest state) x input e, text-from [] (after_line state rest) input)
    (sym (append_assoc (line_text state rest) (block_text (standing [] (after_line state rest)) input) (end_text (after_block (standing [] (after_line state rest)) input)))))
    (λ e. rw (lines_other rest x input e, text-other (standing rest state) x input e, after-other (standing rest state) x input e) (text-from (rest ++ (x ∷ [])) state input))

left_one : (state : State) (line : List ℕ) (lines : List (List ℕ)) → after_lines state (line ∷ lines) ≡ after_lines (after_line state line) lines
unfolding after_lines
left_one state line lines = refl

left_end : (rest : List ℕ) (state : State) → after_lines state (led rest (lines_of [])) ≡ after_end (after_block (standing rest state) [])
unfolding after_lines lines_of after_block
left_end [] state = refl
left_end (x ∷ rest) state = rw (led-none x rest, ne_eqb (suc (length rest)) 0 (λ e. omega arith))

left-from : (rest : List ℕ) (state : State) (input : List ℕ) → after_lines state (led rest (lines_of input)) ≡ after_end (after_block (standing rest state) input)
left-from rest state [] = left_end rest state
left-from rest state (x ∷ input) =
    by-test (eqb x 10)
    (λ e. rw (lines-lf rest x input e, left_one state rest (lines_of input), after-lf (standing rest state) x input e) (left-from [] (after_line state rest) input))
    (λ e. rw (lines_other rest x input e, after-other (standing rest state) x input e) (left-from (rest ++ (x ∷ [])) state input))

-- a whole input: what it prints and what it leaves
pub output-is : (n : ℕ) (input : List ℕ) → output_of n input ≡ block_text (standing [] (first_state n)) input ++ end_text (standing_after n input)
output-is n input = text-from [] (first_state n) input

pub left_is : (n : ℕ) (input : List ℕ) → left_by n input ≡ after_end (standing_after n input)
left_is n input = left-from [] (first_state n) input

-- an input in any number of blocks
blocks_from : (s : Standing) (blocks : List (List ℕ)) → block_text s (joined blocks) ++ end_text (after_block s (joined blocks)) ≡ blocks_text s blocks
unfolding joined blocks_text
blocks_from s [] = ap (λ t. t ++ end_text (after_block s [])) (text-nil s) ∙ ap end_text (after-nil s)
blocks_from s (block ∷ blocks) =
    rw (text-append s block (joined blocks), block-append s block (joined blocks))
    (append_assoc (block_text s block) (block_text (after_block s block) (joined blocks)) (end_text (after_block (after_block s block) (joined blocks)))
    ∙ ap (λ t. block_text s block ++ t) (blocks_from (after_block s block) blocks))

pub any-cut : (n : ℕ) (blocks : List (List ℕ)) → blocks_text (standing [] (first_state n)) blocks ≡ output_of n (joined blocks)
any-cut n blocks = sym (output-is n (joined blocks) ∙ blocks_from (standing [] (first_state n)) blocks)

-- where the first LF stands
place_here : (x : ℕ) (block : List ℕ) → eqb x 10 ≡ true → place_of 10 (x ∷ block) ≡ 0
unfolding place_of
place_here x block e = rw e

place-on : (x : ℕ) (block : List ℕ) → eqb x 10 ≡ false → place_of 10 (x ∷ block) ≡ suc (place_of 10 block)
unfolding place_of
place-on x block e = rw e

-- octets before it are put behind the rest, and print nothing
after_none : (s : Standing) → after_block s [] ≡ standing (s.rest ++ []) s.state
after_none s = after-nil s ∙ ap (λ r. standing r s.state) (sym (append-nil s.rest))

plain-block : (s : Standing) (n : ℕ) (block : List ℕ) → n ≤ place_of 10 block
    → (after_block s (take n block) ≡ standing (s.rest ++ take n block) s.state) × (block_text s (take n block) ≡ [])
plain-block s zero block h = (after_none s, text-nil s)
plain-block s (suc n) [] h = (after_none s, text-nil s)
plain-block s (suc n) (x ∷ block) h =
    by-test (eqb x 10)
    (λ e. let z = place_here x block e in absurd (omega arith))
    (λ e. let z = place-on x block e in
    let p = plain-block (standing (s.rest ++ (x ∷ [])) s.state) n block (omega arith) in
    (after-other s x (take n block) e ∙ p.0 ∙ ap (λ r. standing r s.state) (append_assoc s.rest (x ∷ []) (take n block)), text-other s x (take n block) e ∙ p.1))

-- a block up to its first LF
lf-next : (block : List ℕ) → place_of 10 block < length block → take (place_of 10 block + 1) block ≡ take (place_of 10 block) block ++ (10 ∷ [])
lf-next [] h = absurd (omega arith)
lf-next (x ∷ block) h =
    by-test (eqb x 10)
    (λ e. rw (place_here x block e) (ap (λ y. y ∷ []) (eqb-true x 10 e)))
    (λ e. let z = place-on x block e in
    let i = lf-next block (omega arith) in
    rw (z, add-one (suc (place_of 10 block))) (ap (λ r. x ∷ r) (ap (λ n. take n block) (sym (add-one (place_of 10 block))) ∙ i)))

-- what the line's buffer keeps of the rest, where a text is laid behind it
module _ (line rest text : List ℕ) (held : ℕ) (within : held ≤ length line) (is : take held line ≡ take (length line) rest) where
  front : take (min (held + length text) (length line)) (laid line held text) ≡ take held line ++ take (length line - held) text
  unfolding laid stored
  front =
      let l : length (take held line ++ take (length line - held) text) ≡ min (held + length text) (length line) = simp (length-append, length-take) (omega arith) in
      take_at (take held line ++ take (length line - held) text) (drop (held + length (take (length line - held) text)) line) (min (held + length text) (length line)) l

  back : take held line ++ take (length line - held) text ≡ take (length line) (rest ++ text)
  back =
      elim (dec_lt (length rest) (length line)) [
        | yes l ↦
            let r : take (length line) rest ≡ rest = take_all (length line) rest (omega arith) in
            let h : held ≡ length rest = sym (length-take-le held line within) ∙ ap length (is ∙ r) in
            let n : length line ≡ length rest + (length line - length rest) = omega arith in
            ap (λ f. f ++ take (length line - held) text) (is ∙ r) ∙ ap (λ k. rest ++ take (length line - k) text) h
            ∙ sym (take-append-add rest text (length line - length rest)) ∙ ap (λ k. take k (rest ++ text)) (sym n)
        | no g ↦
            let h : held ≡ length line = sym (length-take-le held line within) ∙ ap length is ∙ length-take-le (length line) rest (omega arith) in
            let z : length line - held ≡ 0 = omega arith in
            ap (λ f. f ++ take (length line - held) text) is ∙ ap (λ k. take (length line) rest ++ take k text) z
            ∙ append-nil (take (length line) rest) ∙ sym (take-append-le (length line) rest text (omega arith))
      ]

  kept : take (min (held + length text) (length line)) (laid line held text) ≡ take (length line) (rest ++ text)
  kept = front ∙ back

-- a line that is too long does the same whole and cut
after-cut : (state : State) (line : List ℕ) → after_line state (take (most_signs + 1) line) ≡ after_line state line
unfolding after_line
after-cut state line = rw (cut-alike line state.used state.routes state.table)

text-cut : (state : State) (line : List ℕ) → line_text state (take (most_signs + 1) line) ≡ line_text state line
text-cut state line = ap (λ (o : Serving). o.text) (cut-alike line state.used state.routes state.table)

-- a turn: what was gathered from a block, and, where the line ended, served
module _ (s : Standing) (block line : List ℕ) (held used : ℕ) (routes table : List ℕ) (holds : Holds s line held used routes table) (answer : Gathered) (exit : List ℕ) (k : List (List ℕ)) (gathers : Gathers block line held answer exit k) where
  held-is : answer.held ≡ min (held + place_of 10 block) (length line)
  unfolding gathered
  held-is = ap (λ (a : Gathered). a.held) gathers.is

  ended_is : answer.ended ≡ ltb (place_of 10 block) (length block)
  unfolding gathered
  ended_is = ap (λ (a : Gathered). a.ended) gathers.is

  taken_is : answer.taken ≡ cond (ltb (place_of 10 block) (length block)) (place_of 10 block + 1) (place_of 10 block)
  unfolding gathered
  taken_is = ap (λ (a : Gathered). a.taken) gathers.is

  exit-is : exit ≡ laid line held (take (place_of 10 block) block)
  unfolding gathered
  exit-is = gathers.leaves

  length-exit : length exit ≡ length line
  length-exit = ap length exit-is ∙ length-laid line held (take (place_of 10 block) block)

  within-exit : answer.held ≤ length exit
  within-exit = let h = held-is in let l = length-exit in omega arith

  rest-is : take answer.held exit ≡ take (most_signs + 1) (s.rest ++ take (place_of 10 block) block)
  rest-is =
      ap (λ n. take n exit) held-is
      ∙ ap (take (min (held + place_of 10 block) (length line))) exit-is
      ∙ ap (λ n. take (min (held + n) (length line)) (laid line held (take (place_of 10 block) block))) (sym (length-take-le (place_of 10 block) block (place-within 10 block)))
      ∙ kept line s.rest (take (place_of 10 block) block) held holds.within (holds.rest ∙ ap (λ n. take n s.rest) (sym holds.long))
      ∙ ap (λ n. take n (s.rest ++ take (place_of 10 block) block)) holds.long

  plain : (after_block s (take (place_of 10 block) block) ≡ standing (s.rest ++ take (place_of 10 block) block) s.state) × (block_text s (take (place_of 10 block) block) ≡ [])
  plain = plain-block s (place_of 10 block) block (omega arith)

  module _ (more : answer.ended ≡ false) where
    taken-open : answer.taken ≡ place_of 10 block
    taken-open = taken_is ∙ ap (λ b. cond b (place_of 10 block + 1) (place_of 10 block)) (sym ended_is ∙ more)

    turn-open : Holds (after_block s (take answer.taken block)) exit answer.held used routes table
    turn-open =
        subst (λ m. Holds m exit answer.held used routes table) (sym (ap (λ n. after_block s (take n block)) taken-open ∙ plain.0))
        (record { long = length-exit ∙ holds.long; within = within-exit; rest = rest-is; state = holds.state })

    text-open : block_text s (take answer.taken block) ≡ []
    text-open = ap (λ n. block_text s (take n block)) taken-open ∙ plain.1

  module _ (ended : answer.ended ≡ true) where
    to-lf : take answer.taken block ≡ take (place_of 10 block) block ++ (10 ∷ [])
    to-lf =
        let e : ltb (place_of 10 block) (length block) ≡ true = sym ended_is ∙ ended in
        ap (λ n. take n block) (taken_is ∙ ap (λ b. cond b (place_of 10 block + 1) (place_of 10 block)) e) ∙ lf-next block (ltb-true (place_of 10 block) (length block) e)

    after-ended : after_block s (take answer.taken block) ≡ standing [] (after_line s.state (s.rest ++ take (place_of 10 block) block))
    after-ended =
        ap (after_block s) to-lf ∙ block-append s (take (place_of 10 block) block) (10 ∷ []) ∙ ap (λ m. after_block m (10 ∷ [])) plain.0
        ∙ after-lf (standing (s.rest ++ take (place_of 10 block) block) s.state) 10 [] refl ∙ after-nil _

    turn-ended : (u : ℕ) (r t : List ℕ) → state_of u r t ≡ after_line (state_of used routes table) (take answer.held exit)
        → Holds (after_block s (take answer.taken block)) exit 0 u r t
    turn-ended u r t is =
        subst (λ m. Holds m exit 0 u r t) (sym after-ended)
        (record {
          long = length-exit ∙ holds.long;
          within = omega arith;
          rest = sym (take-nil (most_signs + 1));
          state = is ∙ ap (after_line (state_of used routes table)) rest-is ∙ after-cut (state_of used routes table) (s.rest ++ take (place_of 10 block) block) ∙ ap (λ q. after_line q (s.rest ++ take (place_of 10 block) block)) holds.state;
        })

    text-ended : block_text s (take answer.taken block) ≡ line_text (state_of used routes table) (take answer.held exit)
    text-ended =
        ap (block_text s) to-lf ∙ text-append s (take (place_of 10 block) block) (10 ∷ [])
        ∙ ap (λ t. t ++ block_text (after_block s (take (place_of 10 block) block)) (10 ∷ [])) plain.1
        ∙ ap (λ m. block_text m (10 ∷ [])) plain.0
        ∙ text-lf (standing (s.rest ++ take (place_of 10 block) block) s.state) 10 [] refl
        ∙ ap (λ t. line_text s.state (s.rest ++ take (place_of 10 block) block) ++ t) (text-nil _)
        ∙ append-nil (line_text s.state (s.rest ++ take (place_of 10 block) block))
        ∙ sym (ap (line_text (state_of used routes table)) rest-is ∙ text-cut (state_of used routes table) (s.rest ++ take (place_of 10 block) block) ∙ ap (λ q. line_text q (s.rest ++ take (place_of 10 block) block)) holds.state)

  -- what a turn prints stands in front of what the rest of the block prints
  pub turn-prints : block_text s block ≡ cond answer.ended (line_text (state_of used routes table) (take answer.held exit)) [] ++ block_text (after_block s (take answer.taken block)) (drop answer.taken block)
  turn-prints =
      let p : block_text s (take answer.taken block) ≡ cond answer.ended (line_text (state_of used routes table) (take answer.held exit)) []
      = by-test answer.ended (λ e. rw e (text-ended e)) (λ e. rw e (text-open e)) in
      ap (block_text s) (sym (take-append-drop answer.taken block)) ∙ text-append s (take answer.taken block) (drop answer.taken block)
      ∙ ap (λ t. t ++ block_text (after_block s (take answer.taken block)) (drop answer.taken block)) p

-- what serving a line leaves, and what is written then
module _ (line : List ℕ) (used : ℕ) (routes table out : List ℕ) (answer : Served) (r t x : List ℕ) (k : List (List ℕ)) (serves : Serves line used routes table out answer r t x k) where
  pub serves-leaves : state_of answer.used r t ≡ after_line (state_of used routes table) line
  unfolding after_line
  serves-leaves =
      let u = ap (λ (a : Served). a.used) serves.is in
      λ i. record { used = u i; routes = serves.leaves_routes i; table = serves.leaves_table i }

  pub serves-text : most_text (length table) ≤ length out → take answer.printed x ≡ line_text (state_of used routes table) line
  serves-text l =
      let p : answer.printed ≡ length (line_text (state_of used routes table) line) = ap (λ (a : Served). a.printed) serves.is in
      let h = serves.short in
      front-is out x (line_text (state_of used routes table) line) answer.printed serves.prints p (omega arith)

-- the program's buffers: at the start, from turn to turn of a block, and at the end of the input
pub led-first : (n : ℕ) (line routes table : List ℕ) → length line ≡ most_signs + 1 → state_of 0 routes table ≡ first_state n → LedBy n [] line 0 0 routes table
unfolding after_block
led-first n line routes table l e = record { long = l; within = omega arith; rest = sym (take-nil (most_signs + 1)); state = e }

part-on : (n : ℕ) (input block : List ℕ) (at taken : ℕ)
    → after_block (standing_after n (input ++ take at block)) (take taken (take (length block - at) (drop at block))) ≡ standing_after n (input ++ take (at + taken) block)
part-on n input block at taken =
    sym (block-append (standing [] (first_state n)) (input ++ take at block) (take taken (take (length block - at) (drop at block))))
    ∙ ap (standing_after n)
    (ap (λ d. input ++ take at block ++ take taken d) (take_all (length block - at) (drop at block) (simp length-drop (omega arith)))
    ∙ append_assoc input (take at block) (take taken (drop at block)) ∙ ap (λ d. input ++ d) (sym (take-add at taken block)))

module _ (n : ℕ) (input block : List ℕ) (at : ℕ) (line : List ℕ) (held used : ℕ) (routes table : List ℕ) (so_far : LedBy n (input ++ take at block) line held used routes table) where
  module _ (part : Gathered) (exit : List ℕ) (k : List (List ℕ)) (gathers : Gathers (take (length block - at) (drop at block)) line held part exit k) where
    pub block_on : part.ended ≡ false → LedBy n (input ++ take (at + part.taken) block) exit part.held used routes table
    block_on e =
        subst (λ m. Holds m exit part.held used routes table) (part-on n input block at part.taken)
        (turn-open (standing_after n (input ++ take at block)) (take (length block - at) (drop at block)) line held used routes table so_far part exit k gathers e)

    pub block-answered : part.ended ≡ true → (u : ℕ) (r t : List ℕ) → state_of u r t ≡ after_line (state_of used routes table) (take part.held exit)
        → LedBy n (input ++ take (at + part.taken) block) exit 0 u r t
    block-answered e u r t is =
        subst (λ m. Holds m exit 0 u r t) (part-on n input block at part.taken)
        (turn-ended (standing_after n (input ++ take at block)) (take (length block - at) (drop at block)) line held used routes table so_far part exit k gathers e u r t is)

  pub block-done : length block ≤ at → LedBy n (input ++ block) line held used routes table
  block-done h = subst (λ b. LedBy n (input ++ b) line held used routes table) (take_all at block h) so_far

pub block-first : (n : ℕ) (input block line : List ℕ) (held used : ℕ) (routes table : List ℕ) → LedBy n input line held used routes table
    → LedBy n (input ++ take 0 block) line held used routes table
block-first n input block line held used routes table led = subst (λ b. LedBy n b line held used routes table) (sym (append-nil input)) led

module _ (n : ℕ) (input line : List ℕ) (held used : ℕ) (routes table : List ℕ) (led : LedBy n input line held used routes table) where
  rest-size : held ≡ min (most_signs + 1) (length (standing_after n input).rest)
  rest-size = sym (length-take-le held line led.within) ∙ ap length led.rest ∙ length-take (most_signs + 1) (standing_after n input).rest

  pub end_empty : held ≡ 0 → state_of used routes table ≡ left_by n input
  end_empty e =
      let k = rest-size in
      let z : length (standing_after n input).rest ≡ 0 = omega arith in
      sym (left_is n input ∙ ap (λ b. cond b (standing_after n input).state (after_line (standing_after n input).state (standing_after n input).rest)) (eq-eqb (length (standing_after n input).rest) 0 z) ∙ sym led.state)

  pub end-served : (held ≡ 0 → ⊥) → (u : ℕ) (r t : List ℕ) → state_of u r t ≡ after_line (state_of used routes table) (take held line) → state_of u r t ≡ left_by n input
  end-served e u r t is =
      let k = rest-size in
      let z : length (standing_after n input).rest ≡ 0 → ⊥ = λ q. e (omega arith) in
      is ∙ ap (after_line (state_of used routes table)) led.rest ∙ after-cut (state_of used routes table) (standing_after n input).rest
      ∙ ap (λ q. after_line q (standing_after n input).rest) led.state
      ∙ sym (left_is n input ∙ ap (λ b. cond b (standing_after n input).state (after_line (standing_after n input).state (standing_after n input).rest)) (ne_eqb (length (standing_after n input).rest) 0 z))
