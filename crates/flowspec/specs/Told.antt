-- What each answer says in 01's terms: whether the call grants what it was asked; the refusal's number, 0 where the call is done; its
-- place; and the values of the answer, in the order that the comment above each definition names.
use Rattle.std.specs.Prelude.{ℕ, ◌-◌, Bool, true, false, List, [], ◌∷◌, replicate, Result, Ok, Err, Option, Some, None}
use Rattle.std.specs.declared.cmp.Ordering.{Ordering as Order}
use Rattle.std.specs.declared.cmp.Ordering.TheVariants.{Less, Equal, Greater}
use Rattle.rule.specs.Refusal.{number_of, place_of}
use Rattle.rule.specs.declared.Refusal.{Refusal}
use Rattle.rule.specs.declared.Span.{Span}
use Rattle.action.specs.Actions.{values_of}
use Rattle.action.specs.declared.Actions.{Actions}
use Rattle.table.specs.declared.Place.{Place}
use Rattle.lookup.specs.declared.Matched.{Matched}

-- What an answer says.
pub record Told : Type 0 where
  pub grants : Bool
  pub number : ℕ
  pub place : ℕ
  pub values : List ℕ

-- What an answer that grants something says: its number, place 0, and its values.
abbrev pub granted : ℕ → List ℕ → Told
granted number values = record { grants = true; number = number; place = 0; values = values }

-- A call that is done, with its values.
abbrev pub done : List ℕ → Told
done values = granted 0 values

-- A call that is refused with a number and a place: its values, so many, are 0.
abbrev pub refused : ℕ → ℕ → ℕ → Told
refused number place many = record { grants = false; number = number; place = place; values = replicate many 0 }

-- A call that is refused: its number in 01's table, its place, and so many values.
abbrev pub refusal_told : Refusal → ℕ → Told
refusal_told refusal many = refused (number_of refusal) (place_of refusal) many

-- 01: "Reading one rule answers the start and length of its value, 0 and 0 if refused."
abbrev pub reading_told : Result Span Refusal → Told
reading_told (Ok read) = done (read.start ∷ read.size ∷ [])
reading_told (Err refusal) = refusal_told refusal 2

-- 01: "... and answers how many octets it wrote (0 if refused)."
abbrev pub writing_told : Result ℕ Refusal → Told
writing_told (Ok octets) = done (octets ∷ [])
writing_told (Err refusal) = refusal_told refusal 1

-- 1 where the first rule comes first, 2 where the second does, 3 where they are the same rule.
abbrev pub comparison_told : Result Order Refusal → Told
comparison_told (Ok Less) = done (1 ∷ [])
comparison_told (Ok Greater) = done (2 ∷ [])
comparison_told (Ok Equal) = done (3 ∷ [])
comparison_told (Err refusal) = refusal_told refusal 1

-- No value: 0 says that the rule is feasible.
abbrev pub feasibility_told : Result Unit Refusal → Told
feasibility_told (Ok _) = done []
feasibility_told (Err refusal) = refusal_told refusal 0

-- Flags, DSCP, byte rate, packet rate, redirect community, notes; unsound actions are 13.
abbrev pub actions_told : Option Actions → Told
actions_told (Some actions) = done (values_of actions)
actions_told None = refused 13 0 6

-- The notes of the rule's rates. 2026-05: "Actions and announcement answer it".
abbrev pub announced_told : Result ℕ Refusal → Told
announced_told (Ok notes) = done (notes ∷ [])
announced_told (Err refusal) = refusal_told refusal 1

-- No value: what withdrawing leaves is the table.
abbrev pub withdrawn_told : Result Unit Refusal → Told
withdrawn_told (Ok _) = done []
withdrawn_told (Err refusal) = refusal_told refusal 0

-- The count, then flags, DSCP, byte rate, packet rate, redirect community and notes of the merged actions, in which T is never set; each
-- is 0 where no rule matches.
abbrev pub verdict_told : Option Matched → Told
verdict_told None = done (replicate 7 0)
verdict_told (Some matched) = done (matched.count ∷ values_of matched.actions)

-- The verdict's, where the packet was looked up.
abbrev pub lookup_told : Result (Option Matched) Refusal → Told
lookup_told (Ok verdict) = verdict_told verdict
lookup_told (Err refusal) = refusal_told refusal 7

-- A part of a table, by its start and length.
abbrev pub place_values : ℕ → ℕ → List ℕ
place_values start end = start ∷ (end - start) ∷ []

-- The first match's record in the table, 0 and 0 where there is none or the lookup is refused.
abbrev pub match_place_told : Result Place Refusal → Told
match_place_told (Ok found) = done (place_values found.start found.end)
match_place_told (Err refusal) = refusal_told refusal 2
