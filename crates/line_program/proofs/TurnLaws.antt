-- A turn of a block: what is gathered of the rest of it, and what it prints. Assumes nothing.
use Rattle.std.proofs.Common.{◌≡◌, ℕ, ◌+◌, ◌-◌, ◌<◌, ◌≤◌, List, [], ◌∷◌, ◌++◌, refl, sym, ap, ◌∙◌, append_assoc, append-nil, length, take, drop, length-take, length-drop, take-append-drop, arith}
use mathlib.Core.Bool.{true, false, cond}
use lib.Seq.{take_all, take-add}
use Rattle.std.proofs.lemmas.List.{append_cancel_right}
use Rattle.lines.specs.declared.Gathered.{Gathered}
use Rattle.lines.specs.Promise.{Gathers}
use Rattle.lines.specs.Input.{state_of, first_state, line_text}
use Rattle.lines.specs.Blocks.{Standing, standing, after_octet, octet_text, after_block, block_text, standing_after, Holds, LedBy}
use Rattle.lines.proofs.GatherLaws.{part_of}
use Rattle.lines.proofs.InputLaws.{turn-prints}

-- nothing prints nothing
pub text-none : (s : Standing) → block_text s [] ≡ []
unfolding block_text
text-none s = refl

-- a block in two parts
block-append : (s : Standing) (a b : List ℕ) → after_block s (a ++ b) ≡ after_block (after_block s a) b
unfolding after_block
block-append s [] b = refl
block-append s (x ∷ a) b = block-append (after_octet s x) a b

pub text-append : (s : Standing) (a b : List ℕ) → block_text s (a ++ b) ≡ block_text s a ++ block_text (after_block s a) b
unfolding after_block block_text
text-append s [] b = refl
text-append s (x ∷ a) b =
    rw (text-append (after_octet s x) a b)
    (sym (append_assoc (octet_text s x) (block_text (after_octet s x) a) (block_text (after_block (after_octet s x) a) b)))

-- what a turn takes of a block prints the line that ended, and nothing where none did
turn-text : (s : Standing) (block line : List ℕ) (held used : ℕ) (routes table : List ℕ) → Holds s line held used routes table
    → (part : Gathered) (exit : List ℕ) (k : List (List ℕ)) → Gathers block line held part exit k
    → block_text s (take part.taken block) ≡ cond part.ended (line_text (state_of used routes table) (take part.held exit)) []
turn-text s block line held used routes table holds part exit k gathers =
    append_cancel_right _ _ (block_text (after_block s (take part.taken block)) (drop part.taken block))
    (sym (text-append s (take part.taken block) (drop part.taken block)) ∙ ap (block_text s) (take-append-drop part.taken block)
    ∙ turn-prints s block line held used routes table holds part exit k gathers)

-- what is gathered of the rest of a block: an octet at least, no more than there is, and no more is held than the line's buffer takes
pub record Turn (block line : List ℕ) (at : ℕ) (part : Gathered) : Type 0 where
  pub some : 0 < part.taken
  pub within : at + part.taken ≤ length block
  pub fits : part.held ≤ length line

module _ (block : List ℕ) (at : ℕ) (line : List ℕ) (held : ℕ) (part : Gathered) (exit : List ℕ) (k : List (List ℕ))
    (gathers : Gathers (take (length block - at) (drop at block)) line held part exit k) where
  pub turn_of : at < length block → Turn block line at part
  turn_of h =
      let p = part_of _ _ _ _ _ _ gathers in
      let long : length (take (length block - at) (drop at block)) ≡ length block - at = simp (length-take, length-drop) (omega arith) in
      let some = p.some (omega arith) in
      let most = p.within in
      record { some = some; within = omega arith; fits = p.fits }

  -- what was taken prints stands behind what the block printed before
  module _ (n : ℕ) (input : List ℕ) (used : ℕ) (routes table : List ℕ) (so_far : LedBy n (input ++ take at block) line held used routes table) where
    text-taken : block_text (standing_after n (input ++ take at block)) (take part.taken (drop at block))
        ≡ cond part.ended (line_text (state_of used routes table) (take part.held exit)) []
    text-taken =
        ap (λ d. block_text (standing_after n (input ++ take at block)) (take part.taken d))
        (sym (take_all (length block - at) (drop at block) (simp length-drop (omega arith))))
        ∙ turn-text (standing_after n (input ++ take at block)) (take (length block - at) (drop at block)) line held used routes table so_far part exit k gathers

    text-more : block_text (standing_after n input) (take (at + part.taken) block)
        ≡ block_text (standing_after n input) (take at block) ++ cond part.ended (line_text (state_of used routes table) (take part.held exit)) []
    text-more =
        ap (block_text (standing_after n input)) (take-add at part.taken block)
        ∙ text-append (standing_after n input) (take at block) (take part.taken (drop at block))
        ∙ ap (λ s. block_text (standing_after n input) (take at block) ++ block_text s (take part.taken (drop at block)))
        (sym (block-append (standing [] (first_state n)) input (take at block)))
        ∙ ap (λ t. block_text (standing_after n input) (take at block) ++ t) text-taken

    -- where a line ended, its text, and else nothing
    pub text-ended : part.ended ≡ true
        → block_text (standing_after n input) (take at block) ++ line_text (state_of used routes table) (take part.held exit)
        ≡ block_text (standing_after n input) (take (at + part.taken) block)
    text-ended e =
        sym (text-more ∙ ap (λ b. block_text (standing_after n input) (take at block) ++ cond b (line_text (state_of used routes table) (take part.held exit)) []) e)

    pub text-open : part.ended ≡ false → block_text (standing_after n input) (take at block) ≡ block_text (standing_after n input) (take (at + part.taken) block)
    text-open e =
        sym (text-more ∙ ap (λ b. block_text (standing_after n input) (take at block) ++ cond b (line_text (state_of used routes table) (take part.held exit)) []) e
        ∙ append-nil (block_text (standing_after n input) (take at block)))
