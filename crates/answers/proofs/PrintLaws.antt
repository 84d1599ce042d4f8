-- Texts printed one behind the other, and how long they are. Assumes nothing.
use mathlib.Core.Path.{◌≡◌, sym, ◌∙◌}
use mathlib.Core.Bool.{◌&&◌}
use mathlib.Core.List.{List, [], ◌++◌}
use Prim.Native.Nat.{ℕ, ◌+◌, ◌^◌, ◌<◌, ◌≤◌}
use native.Mathlib.Omega.{arith}
use native.Mathlib.Nat.{add-zero, zero-add}
use lib.Dec.{leb}
use lib.ListN.{length, length-append}
use borrow.Author.Tests.{le-leb, lt-leb}
use Rattle.octets.proofs.Cases.{by-test}
use Rattle.text.specs.Spelling.{quoted}
use Rattle.text.specs.Decimal.{decimal_of}
use Rattle.text.specs.Print.{Printed}
use Rattle.text.proofs.DecimalLaws.{length-decimal, decimal-short}
use Rattle.text.proofs.PrintLaws.{laid-behind, laid_none}
use Rattle.answers.specs.Answer.{place_text, answer_text, count_text, most_answer, most_text, Answered}

-- nothing was printed
pub printed-none : (out : List ℕ) (at : ℕ) (text : List ℕ) → text ≡ [] → Printed out at text out at
printed-none out at text e = rw e (sym (laid_none out at), sym (add-zero at))

-- one text behind another
module _ (out : List ℕ) (at : ℕ) (s t : List ℕ) where
  pub printed-then : (middle : List ℕ) (place : ℕ) (exit : List ℕ) (next : ℕ) → Printed out at s middle place → Printed middle place t exit next
      → Printed out at (s ++ t) exit next
  printed-then middle place exit next p q =
      (laid-behind out middle exit s t at place p.0 p.1 q.0, q.1 ∙ rw (p.1, length-append s t) (omega arith))

-- at the front the place is the text's length
pub printed-short : (most : ℕ) (out text exit : List ℕ) (next : ℕ) → Printed out 0 text exit next → length text ≤ most → Answered most out text exit next
printed-short most out text exit next p h = let e = p.1 ∙ zero-add (length text) in (p.0, e, omega arith)

-- which refusals have a place
module _ (number place : ℕ) where
  pub place-low : number < 3 → place_text number place ≡ []
  unfolding place_text
  place-low h = rw (lt-leb 3 number h)

  pub place-high : 7 < number → place_text number place ≡ []
  unfolding place_text
  place-high h = rw (le-leb 3 number (omega arith), lt-leb number 7 h)

  pub place-told : 3 ≤ number → number ≤ 7 → place_text number place ≡ quoted "\t" ++ decimal_of place
  unfolding place_text
  place-told h k = rw (le-leb 3 number h, le-leb number 7 k)

-- how long the texts are
pub place_short : (number place : ℕ) → place < 2 ^ 64 → length (place_text number place) ≤ 21
unfolding place_text
place_short number place h =
    by-test (leb 3 number && leb number 7) (λ t. rw t (omega (arith, decimal-short place h))) (λ t. rw t (omega arith))

length-count : (count : ℕ) → length (count_text count) ≡ 7 + length (decimal_of count)
unfolding count_text
length-count count = rw (length-append (decimal_of count) (quoted "\n")) (omega arith)

pub count-short : (count : ℕ) → count < 2 ^ 64 → length (count_text count) ≤ 27
count-short count h = omega (arith, length-count count, decimal-short count h)

pub answer-short : (number place : ℕ) → number < 10 ^ 3 → place < 2 ^ 64 → length (answer_text number place) ≤ most_answer
unfolding answer_text
answer-short number place h k =
    rw (length-append (decimal_of number) (place_text number place ++ quoted "\n"), length-append (place_text number place) (quoted "\n"))
    (omega (arith, length-decimal 3 number (omega arith) h, place_short number place k))

-- an answer is no longer than a list may be, whatever the table's length
pub answer-fits : (n printed : ℕ) → printed ≤ most_answer → printed ≤ most_text n
answer-fits n printed h = omega arith
