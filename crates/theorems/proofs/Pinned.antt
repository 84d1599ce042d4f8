-- **The one claim about what answers say**: whether every case of every answer grants what was asked, its number, its place and its values,
-- the zeros of a refusal among them, by computation. Assumes nothing.
use mathlib.Core.Path.{◌≡◌, refl}
use mathlib.Core.Bool.{Bool, true, false}
use mathlib.Core.List.{List, [], ◌∷◌, map}
use Prim.Native.Nat.{ℕ, ◌-◌}
use Rattle.std.proofs.Common.{Ok, Err, Some, None}
use Rattle.std.specs.declared.cmp.Ordering.TheVariants.{Less, Equal, Greater}
use Rattle.rule.specs.declared.Refusal.{Refusal}
use Rattle.rule.specs.Refusal.{number_of, place_of}
use Rattle.rule.specs.Reading.{span}
use Rattle.action.specs.declared.Actions.{Actions}
use Rattle.action.specs.Actions.{flags_of, notes_of}
use Rattle.lookup.specs.Lookup.{matched}
use Rattle.flowspec.specs.Told.{Told, reading_told, writing_told, comparison_told, feasibility_told, actions_told, announced_told, withdrawn_told, lookup_told, match_place_told}
use Rattle.update.specs.Apply.{reached_told, unreached_told, reached}

-- an answer, and what is expected of it: whether it grants, its number, its place and its values
pub record Row : Type 0 where
  pub says : Told
  pub expects : Told

abbrev pub expect : Told → Bool → ℕ → ℕ → List ℕ → Row
expect says grants number place values =
    record { says = says; expects = record { grants = grants; number = number; place = place; values = values } }

module _ (refusal : Refusal) (start size octets end count notes : ℕ) (actions : Actions) where
  -- every case of every answer
  abbrev pub answers : List Row
  answers =
      expect (reading_told (Ok (span start size))) true 0 0 (start ∷ size ∷ [])
      ∷ expect (reading_told (Err refusal)) false (number_of refusal) (place_of refusal) (0 ∷ 0 ∷ [])
      ∷ expect (writing_told (Ok octets)) true 0 0 (octets ∷ [])
      ∷ expect (writing_told (Err refusal)) false (number_of refusal) (place_of refusal) (0 ∷ [])
      ∷ expect (comparison_told (Ok Less)) true 0 0 (1 ∷ [])
      ∷ expect (comparison_told (Ok Greater)) true 0 0 (2 ∷ [])
      ∷ expect (comparison_told (Ok Equal)) true 0 0 (3 ∷ [])
      ∷ expect (comparison_told (Err refusal)) false (number_of refusal) (place_of refusal) (0 ∷ [])
      ∷ expect (feasibility_told (Ok tt)) true 0 0 []
      ∷ expect (feasibility_told (Err refusal)) false (number_of refusal) (place_of refusal) []
      ∷ expect (actions_told (Some actions)) true 0 0
      (flags_of actions ∷ actions.marking.number ∷ actions.bytes.number ∷ actions.packets.number ∷ actions.redirect.number ∷ notes_of actions ∷ [])
      ∷ expect (actions_told None) false 13 0 (0 ∷ 0 ∷ 0 ∷ 0 ∷ 0 ∷ 0 ∷ [])
      ∷ expect (announced_told (Ok notes)) true 0 0 (notes ∷ [])
      ∷ expect (announced_told (Err refusal)) false (number_of refusal) (place_of refusal) (0 ∷ [])
      ∷ expect (withdrawn_told (Ok tt)) true 0 0 []
      ∷ expect (withdrawn_told (Err refusal)) false (number_of refusal) (place_of refusal) []
      ∷ expect (lookup_told (Ok (Some (matched actions count)))) true 0 0
      (count ∷ flags_of actions ∷ actions.marking.number ∷ actions.bytes.number ∷ actions.packets.number ∷ actions.redirect.number ∷ notes_of actions ∷ [])
      ∷ expect (lookup_told (Ok None)) true 0 0 (0 ∷ 0 ∷ 0 ∷ 0 ∷ 0 ∷ 0 ∷ 0 ∷ [])
      ∷ expect (lookup_told (Err refusal)) false (number_of refusal) (place_of refusal) (0 ∷ 0 ∷ 0 ∷ 0 ∷ 0 ∷ 0 ∷ 0 ∷ [])
      ∷ expect (match_place_told (Ok (record { start = start; end = end }))) true 0 0 (start ∷ (end - start) ∷ [])
      ∷ expect (match_place_told (Err refusal)) false (number_of refusal) (place_of refusal) (0 ∷ 0 ∷ [])
      ∷ expect (reached_told (Ok (reached count notes))) true 0 0 (count ∷ notes ∷ [])
      ∷ expect (reached_told (Err refusal)) false (number_of refusal) (place_of refusal) (0 ∷ 0 ∷ [])
      ∷ expect (unreached_told (Ok count)) true 0 0 (count ∷ [])
      ∷ expect (unreached_told (Err refusal)) false (number_of refusal) (place_of refusal) (0 ∷ [])
      ∷ []

  pub pinned : map (λ (r : Row). r.says) answers ≡ map (λ (r : Row). r.expects) answers
  pinned = refl
