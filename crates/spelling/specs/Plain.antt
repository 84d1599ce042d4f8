-- 01, "Plain spelling": bits that are to be ignored are cleared, octet by octet, and the length never changes. What the next octet is says
-- which of its bits count: an octet before the first component, a type octet, a prefix's length octet, its offset octet, an octet of its
-- pattern, an operator, or an octet of a pair's value.
use Rattle.std.specs.Prelude.{ℕ, ◌-◌, ◌*◌, ◌/◌, ◌^◌, Bool, true, false, cond, List, [], ◌∷◌, leb, ltb, eqb}
use Rattle.std.specs.Int.Bits.{bit_and}
use Rattle.rule.specs.declared.Family.{Family}
use Rattle.rule.specs.Shape.{shape_of}
use Rattle.rule.specs.Operator.{ends_list, size_of}

-- What the next octet of a value is.
pub data Expected : Type 0 where
  -- One of the octets before the first component, of which `left` are still to come, this one included.
  Head : (left : ℕ) → Expected
  -- A type octet.
  Kind : Expected
  -- A prefix's length octet.
  Length : Expected
  -- Its offset octet, behind a length octet that says `bits`.
  Offset : (bits : ℕ) → Expected
  -- An octet of its pattern, of which `left` bits are still to come, this octet's included.
  PatternOctet : (left : ℕ) → Expected
  -- An operator of a list of the type `kind`, the list's first or a later one.
  Operator : (kind : ℕ) (first : Bool) → Expected
  -- An octet of a pair's value, of which `left` octets are still to come, this one included; the list's last pair's or an earlier one's.
  Operand : (kind left : ℕ) (last : Bool) → Expected

-- What is expected where a value begins: the octets before the first component, or a type where the family has none.
unfoldable pub expected_at_start : Family → Expected
expected_at_start family = cond (eqb family.head 0) Kind (Head family.head)

-- What is expected behind a type octet: a prefix's length, or the first operator of a list.
unfoldable pub body_of : Family → ℕ → Expected
body_of family kind = cond (shape_of family kind).prefix Length (Operator kind true)

-- What is expected behind a prefix's length and offset: its pattern, which has length minus offset bits, or a type where it has none.
unfoldable pub pattern_after : ℕ → ℕ → Expected
pattern_after bits offset = cond (leb bits offset) Kind (PatternOctet (bits - offset))

-- What is expected behind an octet of a pair's value: the rest of it, or the next operator, or after the last pair a type.
unfoldable pub operand_after : ℕ → ℕ → Bool → Expected
operand_after kind left last = cond (ltb 1 left) (Operand kind (left - 1) last) (cond last Kind (Operator kind false))

-- What is expected after the octet x, where x was as expected.
unfoldable pub after : Family → Expected → ℕ → Expected
after family (Head left) x = cond (leb left 1) Kind (Head (left - 1))
after family Kind x = body_of family x
after family Length x = cond family.offsets (Offset x) (pattern_after x 0)
after family (Offset bits) x = pattern_after bits x
after family (PatternOctet left) x = cond (leb left 8) Kind (PatternOctet (left - 8))
after family (Operator kind first) x = Operand kind (size_of x) (ends_list x)
after family (Operand kind left last) x = operand_after kind left last

-- An operator without the bits that are always ignored; 01: "0x08 of numeric and 0x0c of bitmask operators".
unfoldable pub without_reserved : Bool → ℕ → ℕ
without_reserved bitmask x = cond bitmask (bit_and x 0xf3) (bit_and x 0xf7)

-- An operator in its plain spelling: 01 also ignores "AND in a list's first operator", which is 0x40.
unfoldable pub plain_operator : Bool → Bool → ℕ → ℕ
plain_operator bitmask first x =
    let operator = without_reserved bitmask x in
    cond first (bit_and operator 0xbf) operator

-- A value, or an octet of one, without the bits to be ignored, which `shape_of` says by type; 01: "the top two bits of a DSCP value; the top
-- four of a fragment value", of which IPv6 ignores 0x01 too.
unfoldable pub plain_operand : ℕ → ℕ → ℕ
plain_operand ignored x = x - bit_and x ignored

-- 01: "prefix bits past the length": of the octet's eight bits the first `left` are kept, all of them where there are eight or more; `left`
-- is how many bits of the pattern are still to come, this octet's included.
unfoldable pub plain_pattern : ℕ → ℕ → ℕ
plain_pattern left x = x / 2 ^ (8 - left) * 2 ^ (8 - left)

-- The octet x, which is as expected, with the bits that are to be ignored cleared.
unfoldable pub cleared_octet : Family → Expected → ℕ → ℕ
cleared_octet family (Head left) x = x
cleared_octet family Kind x = x
cleared_octet family Length x = x
cleared_octet family (Offset bits) x = x
cleared_octet family (PatternOctet left) x = plain_pattern left x
cleared_octet family (Operator kind first) x = plain_operator (shape_of family kind).bitmask first x
cleared_octet family (Operand kind left last) x = plain_operand (shape_of family kind).ignored x

-- The plain spelling of octets, the first of which is as expected.
unfoldable pub plain_from : Family → Expected → List ℕ → List ℕ
plain_from family e [] = []
plain_from family e (x ∷ xs) = cleared_octet family e x ∷ plain_from family (after family e x) xs

-- The plain spelling of a value.
unfoldable pub plain : Family → List ℕ → List ℕ
plain family v = plain_from family (expected_at_start family) v
