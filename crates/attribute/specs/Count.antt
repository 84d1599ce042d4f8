-- What counting the rules of an attribute gives: how many there are, or the refusal of the first that is not accepted. Calls are read by it;
-- no promise names it.
use Rattle.std.specs.Prelude.{ℕ, List, length}
use Rattle.octets.specs.Walk.{Walk}
use Rattle.std.specs.Prelude.{Result, Ok, Err}
use Rattle.rule.specs.declared.Refusal.{Refusal}

-- So many rules, or the refusal of the first that is not accepted.
abbrev pub counted_as : ℕ → Result Unit Refusal → Result ℕ Refusal
counted_as count (Ok _) = Ok count
counted_as count (Err refusal) = Err refusal

-- What a walk over rules counts.
abbrev pub count_of : Walk (List ℕ) (Result Unit Refusal) → Result ℕ Refusal
count_of rules = counted_as (length rules.items) rules.ending
