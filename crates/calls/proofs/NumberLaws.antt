-- **The number of a call's word tells whether its `out` was set** (`NumberTells`): 0 exactly where the call grants what it was asked, since no
-- refusal has the number 0. Assumes nothing.
use mathlib.Core.Path.{◌≡◌, refl, sym}
use Prim.Native.Nat.{ℕ}
use native.Mathlib.Omega.{arith}
use borrow.Author.Tests.{ne_eqb}
use Rattle.rule.specs.declared.Refusal.{Refusal}
use Rattle.rule.specs.declared.Span.{Span}
use Rattle.rule.specs.Refusal.{number_of}
use Rattle.rule.proofs.Near.{number-given}
use Rattle.action.specs.declared.Actions.{Actions}
use Rattle.table.specs.declared.Place.{Place}
use Rattle.lookup.specs.declared.Matched.{Matched}
use Rattle.flowspec.specs.Told.{refusal_told, reading_told, writing_told, comparison_told, actions_told, announced_told, verdict_told, lookup_told, match_place_told}
use Rattle.update.specs.declared.Reached.{Reached}
use Rattle.update.specs.Apply.{reached_told, unreached_told}
use Rattle.calls.specs.Word.{NumberTells}
use Rattle.std.specs.declared.cmp.Ordering.{Ordering as Order}
use Rattle.std.specs.declared.cmp.Ordering.TheVariants.{Less, Equal, Greater}
use Rattle.std.proofs.Common.{Result, Ok, Err, Option, Some, None}

-- a refusal's number is not 0
refusal-tells : (refusal : Refusal) (many : ℕ) → NumberTells (refusal_told refusal many)
refusal-tells refusal many =
    let some : number_of refusal ≡ 0 → ⊥ = λ z. omega (arith, number-given refusal) in sym (ne_eqb (number_of refusal) 0 some)

pub read_number : (answer : Result Span Refusal) → NumberTells (reading_told answer)
read_number (Ok read) = refl
read_number (Err refusal) = refusal-tells refusal 2

pub write-number : (answer : Result ℕ Refusal) → NumberTells (writing_told answer)
write-number (Ok octets) = refl
write-number (Err refusal) = refusal-tells refusal 1

pub compare-number : (answer : Result Order Refusal) → NumberTells (comparison_told answer)
compare-number (Ok Less) = refl
compare-number (Ok Greater) = refl
compare-number (Ok Equal) = refl
compare-number (Err refusal) = refusal-tells refusal 1

pub actions-number : (answer : Option Actions) → NumberTells (actions_told answer)
actions-number (Some actions) = refl
actions-number None = refl

pub announce-number : (answer : Result ℕ Refusal) → NumberTells (announced_told answer)
announce-number (Ok notes) = refl
announce-number (Err refusal) = refusal-tells refusal 1

pub reach-number : (answer : Result Reached Refusal) → NumberTells (reached_told answer)
reach-number (Ok reached) = refl
reach-number (Err refusal) = refusal-tells refusal 2

pub unreach-number : (answer : Result ℕ Refusal) → NumberTells (unreached_told answer)
unreach-number (Ok count) = refl
unreach-number (Err refusal) = refusal-tells refusal 1

judged-number : (verdict : Option Matched) → NumberTells (verdict_told verdict)
judged-number None = refl
judged-number (Some rules) = refl

pub lookup-number : (answer : Result (Option Matched) Refusal) → NumberTells (lookup_told answer)
lookup-number (Ok verdict) = judged-number verdict
lookup-number (Err refusal) = refusal-tells refusal 7

pub first-match-number : (answer : Result Place Refusal) → NumberTells (match_place_told answer)
first-match-number (Ok found) = refl
first-match-number (Err refusal) = refusal-tells refusal 2
