-- A list of pairs judged on a number: one law for each return of the code and each turn of its loop. Assumes nothing.
use mathlib.Core.Path.{◌≡◌, refl, sym, ap, subst, ◌∙◌}
use mathlib.Core.Bool.{Bool, true, false, not, ◌&&◌, ◌||◌}
use mathlib.Core.List.{List}
use Prim.Native.Nat.{ℕ, ◌+◌, ◌-◌, ◌/◌, ◌^◌, ◌<◌, ◌≤◌}
use native.Mathlib.Omega.{arith}
use lib.Bits.{bit_and, and_le_r}
use lib.Dec.{leb, eqb}
use lib.ListN.{length, get_or}
use borrow.Author.Tests.{leb-true}
use Rattle.octets.specs.Bit.{has}
use Rattle.octets.specs.Number.{number_at}
use Rattle.octets.specs.Walk.{Walk}
use Rattle.octets.proofs.Facts.{below}
use Rattle.rule.specs.declared.Shape.{Shape}
use Rattle.rule.specs.Operator.{size_of}
use Rattle.rule.specs.Component.{pair_at, Pair, pair_of, pairs_from}
use Rattle.spelling.specs.Plain.{plain_operand}
use Rattle.rule.proofs.ComponentLaws.{pair-cases, more_within, pairs-more, pairs-last, pairs-refused}
use Rattle.matching.specs.declared.Evaluated.{Evaluated}
use Rattle.matching.specs.Operator.{numeric_holds, bitmask_holds}
use Rattle.matching.specs.Evaluation.{with_pair, evaluate_pair}
use Rattle.matching.specs.Match.{holds_for, pair_holds, body_holds}
use Rattle.matching.proofs.PairListLaws.{judged_to, judged-on, judged-last, judged-none}
use Rattle.std.proofs.Common.{Result, Ok, Err}
use Rattle.rule.specs.declared.Refusal.{Refusal}
use Rattle.rule.specs.declared.NextPair.{NextPair}
use Rattle.rule.specs.declared.NextPair.TheVariants.{More, Last}

-- how `pair_holds` comes to each of its answers
module _ (shape : Shape) (operator value «data» wanted : ℕ) (r : Bool) (asks : wanted ≡ plain_operand shape.ignored value) where
  pub holds-mask : shape.bitmask ≡ true → r ≡ bitmask_holds operator «data» wanted → r ≡ holds_for shape operator value «data»
  unfolding holds_for
  holds-mask h e = rw (h, ← asks) e

  pub holds-number : shape.bitmask ≡ false → r ≡ numeric_holds operator «data» wanted → r ≡ holds_for shape operator value «data»
  unfolding holds_for
  holds-number h e = rw (h, ← asks) e

-- the pair that `evaluate_pair` reads
pub judged-pair : (shape : Shape) (v : List ℕ) (at next «data» operator value : ℕ) (holds : Bool) (evaluated r : Evaluated)
    → operator ≡ get_or v at 0 → value ≡ number_at (next - (at + 1)) v (at + 1) → holds ≡ holds_for shape operator value «data»
    → r ≡ with_pair evaluated (has operator 64 && not (eqb at 0)) holds → r ≡ evaluate_pair shape v at next «data» evaluated
judged-pair shape v at next «data» operator value holds evaluated r o w h e = rw (e, h, w, o)

-- what the list of a body gives that is judged up to a place
abbrev pub body_to : Shape → List ℕ → ℕ → ℕ → Evaluated → Bool
body_to shape v «data» at evaluated = judged_to (pair_holds shape «data») at evaluated (pairs_from shape.largest v at).items

-- no pair is judged at first
pub body-start : (shape : Shape) (v : List ℕ) («data» : ℕ)
    → body_holds shape v «data» ≡ body_to shape v «data» 0 (record { found = false; group = false })
unfolding body_holds
body-start shape v «data» = refl

-- how `list_holds` goes on and comes to each of its answers
module _ (shape : Shape) (v : List ℕ) («data» at : ℕ) (evaluated : Evaluated) (pair : Result NextPair Refusal) (is : pair ≡ pair_at shape.largest v at)
    (so_far : body_holds shape v «data» ≡ body_to shape v «data» at evaluated) where
  abbrev rest : Walk Pair (Result ℕ Refusal) → Bool
  rest w = judged_to (pair_holds shape «data») at evaluated w.items

  pub list_on : (next : ℕ) (r : Evaluated) → pair ≡ Ok (More next) → r ≡ evaluate_pair shape v at next «data» evaluated
      → body_holds shape v «data» ≡ body_to shape v «data» next r
  list_on next r e f =
      let q : pair_at shape.largest v at ≡ Ok (More next) = sym is ∙ e in
      so_far ∙ ap rest (pairs-more shape.largest v at next q)
      ∙ judged-on (pair_holds shape «data») at evaluated next (pair_of v at next) (pairs_from shape.largest v next).items (more_within shape.largest v at next q).0
      ∙ ap (body_to shape v «data» next) (sym f)

  pub list-last : (next : ℕ) (r : Evaluated) → pair ≡ Ok (Last next) → r ≡ evaluate_pair shape v at next «data» evaluated
      → r.found || r.group ≡ body_holds shape v «data»
  list-last next r e f =
      sym
      (so_far ∙ ap rest (pairs-last shape.largest v at next (sym is ∙ e)) ∙ judged-last (pair_holds shape «data») at evaluated (pair_of v at next)
      ∙ ap (λ (j : Evaluated). j.found || j.group) (sym f))

  pub list-cut : (refusal : Refusal) → pair ≡ Err refusal → evaluated.found || evaluated.group ≡ body_holds shape v «data»
  list-cut refusal e =
      sym (so_far ∙ ap rest (pairs-refused shape.largest v at refusal (sym is ∙ e)) ∙ judged-none (pair_holds shape «data») at evaluated)

-- how far a pair reaches: its operator and a value of at most eight octets
abbrev Reaches : List ℕ → ℕ → Result NextPair Refusal → Type 0
Reaches v at (Ok (More next)) = (at < next) × ((next ≤ length v) × (next ≤ at + 9))
Reaches v at (Ok (Last next)) = (at < next) × ((next ≤ length v) × (next ≤ at + 9))
Reaches v at (Err refusal) = Unit {0}

size-most : (operator : ℕ) → size_of operator ≤ 8
unfolding size_of
size-most operator = leb-true _ _ (below 4 (λ k. leb (2 ^ k) 8) refl (bit_and operator 48 / 16) (omega (arith, and_le_r operator 48)))

-- a pair that was found stands in the body, and the next place is nearer to its end
module _ (largest : ℕ) (v : List ℕ) (at next : ℕ) (pair : Result NextPair Refusal) (is : pair ≡ pair_at largest v at) where
  reaches : Reaches v at (pair_at largest v at)
  reaches =
      let small = size-most (get_or v at 0) in
      pair-cases largest v at (Reaches v at) tt (λ h. tt) (λ h u e. (omega arith, (omega arith, omega arith))) (λ h u e. (omega arith, (omega arith, omega arith)))

  pub more-inside : pair ≡ Ok (More next) → (at < next) × ((next ≤ length v) × (next ≤ at + 9))
  more-inside e = subst (Reaches v at) (sym is ∙ e) reaches

  pub last-inside : pair ≡ Ok (Last next) → (at < next) × ((next ≤ length v) × (next ≤ at + 9))
  last-inside e = subst (Reaches v at) (sym is ∙ e) reaches

  pub more-nearer : pair ≡ Ok (More next) → length v - next < length v - at
  more-nearer e = let w = more-inside e in omega arith
