-- Reading one rule (RFC 8955 section 4.1): the length field, the value behind it, and nothing after that.
use Rattle.std.specs.Prelude.{ℕ, ◌+◌, ◌*◌, cond, List, ltb, eqb, length, get_or, take, drop}
use Rattle.std.specs.Int.Bits.{bit_and}
use Rattle.rule.specs.declared.Family.{Family}
use Rattle.rule.specs.Value.{check_value}
use Rattle.std.specs.Prelude.{Result, Ok, Err}
use Rattle.rule.specs.declared.Refusal.{Refusal}
use Rattle.rule.specs.declared.Refusal.TheVariants.{Overlong, OctetsBehind}
use Rattle.rule.specs.declared.Span.{Span}

-- How many octets the length field has: one where the first octet is below 0xf0, otherwise two.
unfoldable pub field_size : List ℕ → ℕ
field_size s = cond (ltb (get_or s 0 0) 0xf0) 1 2

-- 01: "first octet below 0xf0 is the length; otherwise the low four bits and the next octet give it".
unfoldable pub field_length : List ℕ → ℕ
field_length s = cond (ltb (get_or s 0 0) 0xf0) (get_or s 0 0) (bit_and (get_or s 0 0) 0x0f * 256 + get_or s 1 0)

-- Where a value stands, by its first place and its size.
abbrev pub span : ℕ → ℕ → Span
span start size = record { start = start; size = size }

-- What is read once a rule is checked: the rule, by where its value starts and its size, or its refusal.
abbrev pub read_as : ℕ → ℕ → Result Unit Refusal → Result Span Refusal
read_as start size (Ok _) = Ok (span start size)
read_as start size (Err refusal) = Err refusal

-- The value of a rule, which starts at a place of its octets and has a size.
abbrev pub value_of : List ℕ → ℕ → ℕ → List ℕ
value_of rule start size = take size (drop start rule)

-- Where the rule ends that octets begin with: behind its length field and its value.
abbrev pub rule_end : List ℕ → ℕ
rule_end rule = field_size rule + field_length rule

-- The value of that rule.
abbrev pub value_in : List ℕ → List ℕ
value_in rule = value_of rule (field_size rule) (field_length rule)

-- Refusals 1 to 7 of that rule: 1 where its "length field or value runs past the bytes", then those of its value.
abbrev pub check_rule : Family → List ℕ → Result Unit Refusal
check_rule family rule = cond (ltb (length rule) (rule_end rule)) (Err Overlong) (check_value family (value_in rule))

-- The rule that octets begin with, as it is read.
unfoldable pub first_rule : Family → List ℕ → Result Span Refusal
first_rule family s = read_as (field_size s) (field_length s) (check_rule family s)

-- A rule that does not end where the `total` octets end is 15 instead, and a refusal stays as it is.
abbrev pub alone : ℕ → Result Span Refusal → Result Span Refusal
alone total (Ok rule) = cond (eqb (rule.start + rule.size) total) (Ok rule) (Err OctetsBehind)
alone total (Err refusal) = Err refusal

-- The one rule that octets are: octets after it are 15.
unfoldable pub one_rule : Family → List ℕ → Result Span Refusal
one_rule family s = alone (length s) (first_rule family s)
