-- Gathering a line: what is laid into the line's buffer. Assumes nothing.
use mathlib.Core.Path.{◌≡◌, refl, ap, sym, ◌∙◌}
use mathlib.Core.Bool.{cond}
use mathlib.Core.List.{List, [], ◌∷◌}
use Prim.Native.Nat.{ℕ, ◌+◌, ◌-◌, ◌<◌, ◌≤◌, min}
use native.Mathlib.Omega.{arith}
use native.Mathlib.Decide.{dec_lt}
use lib.Dec.{ltb}
use lib.ListN.{length, take, length-take}
use lib.Seq.{take-take, take_all}
use borrow.Author.Tests.{ltb-true, ltb-false}
use Rattle.octets.proofs.Cases.{by-test}
use Rattle.octets.specs.Store.{stored}
use Rattle.octets.proofs.StoreLaws.{stored-none}
use Rattle.text.specs.Field.{place_of}
use Rattle.text.specs.Print.{laid}
use Rattle.text.proofs.FieldLaws.{place-within}
use Rattle.lines.specs.declared.Gathered.{Gathered}
use Rattle.lines.specs.Gather.{gathered}
use Rattle.lines.specs.Promise.{Gathers}

-- a part of a text, cut again
take_min : (n m : ℕ) (s : List ℕ) → take n (take m s) ≡ take (min m n) s
take_min n m s =
    elim (dec_lt n m) [
      | yes l ↦ let k : min m n ≡ n = omega arith in rw k (take-take n m s (omega arith))
      | no g ↦ let k : min m n ≡ m = omega arith in rw k (take_all n (take m s) (simp length-take (omega arith)))
    ]

-- what the code stores is what is to be laid: it starts behind what is held, and ends where the buffer does
pub laid-stored : (line block : List ℕ) (held size start count : ℕ) → start ≡ min held (length line) → count ≡ min size (length line - start)
    → stored line start (take count block) ≡ laid line held (take size block)
unfolding laid
laid-stored line block held size start count e f =
    elim (dec_lt (length line) held) [
      | yes l ↦
          let z : count ≡ 0 = omega arith in
          let k : length line - held ≡ 0 = omega arith in
          rw (z, k) (stored-none line start ∙ sym (stored-none line held))
      | no g ↦
          let s : start ≡ held = omega arith in
          rw (take_min (length line - held) size block, f, s)
    ]

-- what the code answers: a block that has no LF is taken to its end
module _ (block line exit : List ℕ) (held size start count : ℕ) (at : size ≡ place_of 10 block) (e : start ≡ min held (length line)) (f : count ≡ min size (length line - start)) (stores : exit ≡ stored line start (take count block)) where
  sums : start + count ≡ min (held + size) (length line)
  sums = omega arith

  lays : exit ≡ laid line held (take (place_of 10 block) block)
  lays = stores ∙ laid-stored line block held size start count e f ∙ ap (λ n. laid line held (take n block)) at

  takes : min (size + 1) (length block) ≡ cond (ltb size (length block)) (size + 1) size
  takes =
      by-test (ltb size (length block))
      (λ t. let h = ltb-true size (length block) t in rw t (omega arith))
      (λ t. let h = ltb-false size (length block) t in rw t (omega (arith, place-within 10 block)))

  pub gathers : (taken : ℕ) → taken ≡ min (size + 1) (length block)
      → Gathers block line held (record { taken = taken; held = start + count; ended = ltb size (length block) }) exit (block ∷ [])
  unfolding gathered
  gathers taken t =
      let e = t ∙ takes in
      record { is = rw (← at) (λ i. record { taken = e i; held = sums i; ended = ltb size (length block) }); leaves = lays; keeps = refl }

-- what a caller sees of an answer: of a block with an octet one is taken, no more is taken than there is, and the buffer holds no more
-- than its length
pub record Part (block line : List ℕ) (answer : Gathered) : Type 0 where
  pub some : 0 < length block → 0 < answer.taken
  pub within : answer.taken ≤ length block
  pub fits : answer.held ≤ length line

pub part_of : (block line : List ℕ) (held : ℕ) (answer : Gathered) (exit : List ℕ) (kept : List (List ℕ)) → Gathers block line held answer exit kept → Part block line answer
unfolding gathered
part_of block line held answer exit kept gathers =
    let h = place-within 10 block in
    by-test (ltb (place_of 10 block) (length block))
    (λ t. let e = rw t at gathers.is in
    let k = ltb-true (place_of 10 block) (length block) t in
    rw e (record { some = λ z. omega arith; within = omega arith; fits = omega arith }))
    (λ t. let e = rw t at gathers.is in
    let k = ltb-false (place_of 10 block) (length block) t in
    rw e (record { some = λ z. omega arith; within = omega arith; fits = omega arith }))
