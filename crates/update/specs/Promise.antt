-- What the two calls promise, for whatever family and whatever octets they are lent: the answer (`is`), its number, place and values
-- (`tells`), by the list of checks that the call goes through (Checks.antt), the table at exit (`leaves`), the answer words at exit
-- (`lists`), and that what is lent to be read alone is as it was (`keeps`; `kept` is what those slices hold at exit). No call has a
-- `requires`. That no second result satisfies a promise is shown in theorems/proofs/AttributeUnique.antt.
use Rattle.std.specs.Prelude.{ℕ, ◌≡◌, List, [], ◌∷◌, Result}
use Rattle.rule.specs.declared.Family.{Family}
use Rattle.rule.specs.declared.Refusal.{Refusal}
use Rattle.request.specs.Input.{Policy}
use Rattle.flowspec.specs.Told.{done}
use Rattle.flowspec.specs.Checks.{told}
use Rattle.update.specs.Singles.{Reach}
use Rattle.update.specs.Checks.{reach_values, unreach_count, reach_checks, unreach_checks}
use Rattle.update.specs.Apply.{reaching, unreaching, reached_told, unreached_told}
use Rattle.update.specs.declared.Reached.{Reached}

-- Announcing the rules of a reach: refusals 10, 9, 19, 1 to 7 rule by rule, 13, 16, none of which changes an octet or a word.
pub record Reaches (family : Family) (policy : Policy) (reach : Reach) (table answers : List ℕ)
    (answer : Result Reached Refusal) (exit words : List ℕ) (kept : List (List ℕ)) : Type 0 where
  pub is : answer ≡ (reaching family policy reach table answers).answer
  pub tells : reached_told answer ≡ told (reach_checks family policy reach table answers) (done (reach_values family reach))
  pub leaves : exit ≡ (reaching family policy reach table answers).table
  pub lists : words ≡ (reaching family policy reach table answers).words
  pub keeps : kept ≡ policy.routes ∷ reach.attribute ∷ reach.communities ∷ []

-- Withdrawing the rules of an unreach: refusals 10, 19, 1 to 7 rule by rule, 16, none of which changes an octet or a word.
pub record Unreaches (family : Family) (attribute table answers : List ℕ)
    (answer : Result ℕ Refusal) (exit words : List ℕ) (kept : List (List ℕ)) : Type 0 where
  pub is : answer ≡ (unreaching family attribute table answers).answer
  pub tells : unreached_told answer ≡ told (unreach_checks family attribute table answers) (done (unreach_count family attribute ∷ []))
  pub leaves : exit ≡ (unreaching family attribute table answers).table
  pub lists : words ≡ (unreaching family attribute table answers).words
  pub keeps : kept ≡ attribute ∷ []
