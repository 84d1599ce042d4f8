-- What a call with a whole attribute does: it goes through its checks, and where all hold the single calls are made (Singles.antt); refused,
-- it changes nothing.
use Rattle.std.specs.Prelude.{ℕ, cond, List, [], ◌∷◌, ◌++◌, length, drop, Result, Ok, Err}
use Rattle.rule.specs.declared.Family.{Family}
use Rattle.rule.specs.declared.Refusal.{Refusal}
use Rattle.rule.specs.Refusal.{refused_with}
use Rattle.request.specs.Input.{Policy}
use Rattle.flowspec.specs.Told.{Told, done, refusal_told}
use Rattle.flowspec.specs.Checks.{Check}
use Rattle.update.specs.Singles.{Reach, Singles, announcing_each, withdrawing_each}
use Rattle.update.specs.Checks.{reach_notes, reach_checks, unreach_checks}
use Rattle.update.specs.declared.Reached.{Reached}

-- What comes of checks: where all hold, what is granted; else what the number and the place of the first that does not hold make.
abbrev pub decided : {A : Type 0} → List Check → A → (ℕ → ℕ → A) → A
decided [] granted refuse = granted
decided (c ∷ cs) granted refuse = cond c.holds (decided cs granted refuse) (refuse c.number c.place)

-- What a call with a whole attribute leaves: its answer, the table's octets, and the answer words.
pub record Left (A : Type 0) : Type 0 where
  pub answer : A
  pub table : List ℕ
  pub words : List ℕ

-- 2026-01: "a lent buffer's front lists one number per rule, its rest kept".
abbrev pub listed : Singles → List ℕ → List ℕ
listed singles answers = singles.numbers ++ drop (length singles.numbers) answers

-- 2026-01: "the answer is 0 and their count": what is left where the single calls are made, by the answer for their count.
abbrev pub applied_all : {A : Type 0} → (ℕ → A) → Singles → List ℕ → Left A
applied_all answer_for singles answers =
    record { answer = answer_for (length singles.numbers); table = singles.table; words = listed singles answers }

-- 2026-01: "any of them refuses the whole attribute, and nothing is changed".
abbrev pub refused_whole : {A : Type 0} → List ℕ → List ℕ → ℕ → ℕ → Left (Result A Refusal)
refused_whole table answers number place = record { answer = refused_with number place; table = table; words = answers }

-- What is done for a reach, by how many rules it has and the notes of their rates.
abbrev pub reached : ℕ → ℕ → Reached
reached count notes = record { count = count; notes = notes }

-- A reach: its rules are announced, and the notes of their rates are told, whatever its rules are answered.
unfoldable pub reaching : Family → Policy → Reach → List ℕ → List ℕ → Left (Result Reached Refusal)
reaching family policy reach table answers =
    decided (reach_checks family policy reach table answers)
    (applied_all (λ count. Ok (reached count (reach_notes reach))) (announcing_each family policy reach table) answers)
    (refused_whole table answers)

-- An unreach: its rules are withdrawn.
unfoldable pub unreaching : Family → List ℕ → List ℕ → List ℕ → Left (Result ℕ Refusal)
unreaching family attribute table answers =
    decided (unreach_checks family attribute table answers)
    (applied_all (λ count. Ok count) (withdrawing_each family attribute table) answers)
    (refused_whole table answers)

-- What a reach's answer says: the count of the rules and the notes of their rates, each 0 where the attribute is refused.
abbrev pub reached_told : Result Reached Refusal → Told
reached_told (Ok reached) = done (reached.count ∷ reached.notes ∷ [])
reached_told (Err refusal) = refusal_told refusal 2

-- What an unreach's answer says: the count of the rules, 0 where the attribute is refused.
abbrev pub unreached_told : Result ℕ Refusal → Told
unreached_told (Ok count) = done (count ∷ [])
unreached_told (Err refusal) = refusal_told refusal 1
