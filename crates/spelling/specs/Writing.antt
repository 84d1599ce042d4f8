-- Writing one rule from its value (RFC 8955 section 4.1): the length field, then the plain spelling.
use Rattle.std.specs.Prelude.{ℕ, ◌+◌, ◌/◌, ◌%◌, cond, List, [], ◌∷◌, ◌++◌, ltb, length, drop, Result, Ok, Err}
use Rattle.rule.specs.declared.Family.{Family}
use Rattle.rule.specs.declared.Refusal.{Refusal}
use Rattle.rule.specs.declared.Refusal.TheVariants.{ShortBuffer}
use Rattle.rule.specs.Value.{check_value}
use Rattle.spelling.specs.Plain.{plain}

-- 01: "The writer uses one octet below 240, two from 240."
unfoldable pub length_field : ℕ → List ℕ
length_field size = cond (ltb size 240) (size ∷ []) ((0xf0 + size / 256) ∷ size % 256 ∷ [])

-- The rule that is written for a value.
unfoldable pub rule_for : Family → List ℕ → List ℕ
rule_for family v = length_field (length v) ++ plain family v

-- What the writer answers once the value is checked: the rule's size, 16 where that is above `room`, or the value's refusal.
abbrev pub into_room : Family → List ℕ → ℕ → Result Unit Refusal → Result ℕ Refusal
into_room family v room (Ok _) = cond (ltb room (length (rule_for family v))) (Err ShortBuffer) (Ok (length (rule_for family v)))
into_room family v room (Err refusal) = Err refusal

-- What the writer answers for a buffer of `room` octets: 1 to 7, then 16 where the buffer is too short, or how many were written.
unfoldable pub writing : Family → List ℕ → ℕ → Result ℕ Refusal
writing family v room = into_room family v room (check_value family v)

-- What the buffer holds after an answer: the rule and the rest of the buffer, or all that it held where the writer refused.
abbrev pub filled : Family → List ℕ → List ℕ → Result ℕ Refusal → List ℕ
filled family v buffer (Ok n) = rule_for family v ++ drop n buffer
filled family v buffer (Err refusal) = buffer

-- What the buffer holds after the writer's call for a value.
unfoldable pub after_writing : Family → List ℕ → List ℕ → List ℕ
after_writing family v buffer = filled family v buffer (writing family v (length buffer))
