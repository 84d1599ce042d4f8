-- One component of a value (RFC 8955 section 4.2): what stands at a place, where it ends, and why it is refused. A component is its
-- type octet and its body, all that follows up to its end. The refusals are in Refusal.antt.
use Rattle.std.specs.Prelude.{ℕ, ◌+◌, ◌-◌, ◌/◌, cond, ◌||◌, ◌&&◌, List, leb, ltb, eqb, length, get_or}
use Rattle.octets.specs.Number.{number_at}
use Rattle.octets.specs.Walk.{Step, more, last, stop, Walk, through}
use Rattle.rule.specs.declared.Family.{Family}
use Rattle.rule.specs.Shape.{shape_of}
use Rattle.rule.specs.Operator.{ends_list, size_of}
use Rattle.std.specs.Prelude.{Result, Ok, Err, Option, Some, None}
use Rattle.rule.specs.declared.Refusal.{Refusal}
use Rattle.rule.specs.declared.Refusal.TheVariants.{UnknownType, TypeOrder, PrefixLength, CutShort, ValueSize}
use Rattle.rule.specs.declared.NextPair.{NextPair}
use Rattle.rule.specs.declared.NextPair.TheVariants.{More, Last}
use Rattle.rule.specs.declared.Located.{Located}

-- An operator and its value, at a place in a list whose values have at most `largest` octets, and the place behind them. A missing
-- operator is 6 at the value's end, a size that is not allowed 7 at the operator, and a value cut short 6 at the value's end.
unfoldable pub pair_at : ℕ → List ℕ → ℕ → Result NextPair Refusal
pair_at largest v at =
    let operator = get_or v at 0 in
    let size = size_of operator in
    cond (leb (length v) at) (Err (CutShort (length v)))
    (cond (ltb largest size) (Err (ValueSize at))
    (cond (ltb (length v - (at + 1)) size) (Err (CutShort (length v)))
    (cond (ends_list operator) (Ok (Last (at + 1 + size))) (Ok (More (at + 1 + size))))))

-- A pair of a list: its operator, and its value as a number.
pub record Pair : Type 0 where
  pub operator : ℕ
  pub value : ℕ

-- The pair whose operator stands at a place and whose value ends at another.
abbrev pub pair_of : List ℕ → ℕ → ℕ → Pair
pair_of v at next = record { operator = get_or v at 0; value = number_at (next - (at + 1)) v (at + 1) }

-- A step along a list of pairs.
abbrev pub pair_step : List ℕ → ℕ → Result NextPair Refusal → Step ℕ Pair (Result ℕ Refusal)
pair_step v at (Ok (More next)) = more (pair_of v at next) next
pair_step v at (Ok (Last next)) = last (pair_of v at next) (Ok next)
pair_step v at (Err refusal) = stop (Err refusal)

-- The pairs of a list from a place on, and where the list ends.
unfoldable pub pairs_from : ℕ → List ℕ → ℕ → Walk Pair (Result ℕ Refusal)
pairs_from largest v at = through v (Err (CutShort (length v))) (λ i. pair_step v i (pair_at largest v i)) at

-- How many octets stand before a prefix's pattern: its length octet and, in a family with offsets, its offset octet.
unfoldable pub lead_of : Family → ℕ
lead_of family = cond family.offsets 2 1

-- RFC 8956 section 3.1, "offset": "the number of most significant address bits to skip", which the octet at the given place, behind the
-- length octet, says; in a family without offsets it is 0.
unfoldable pub offset_at : Family → List ℕ → ℕ → ℕ
offset_at family v place = cond family.offsets (get_or v place 0) 0

-- 01: "length octet 0 to 32, then that many bits rounded up to octets"; with an offset octet, that many less the offset. In order:
-- 6 at the value's end where the length octet is missing; 5 at the length octet where it is above the width; 6 where the offset octet is
-- missing; 5 at the length octet where it is not above the offset, unless both are 0; 6 where octets of the pattern are missing.
unfoldable pub prefix_end : Family → List ℕ → ℕ → Result ℕ Refusal
prefix_end family v at =
    let bits = get_or v at 0 in
    let offset = offset_at family v (at + 1) in
    let start = at + lead_of family in
    let octets = (bits - offset + 7) / 8 in
    cond (leb (length v) at) (Err (CutShort (length v)))
    (cond (ltb family.width bits) (Err (PrefixLength at))
    (cond (ltb (length v) start) (Err (CutShort (length v)))
    (cond (ltb 0 offset && leb bits offset) (Err (PrefixLength at))
    (cond (ltb (length v - start) octets) (Err (CutShort (length v))) (Ok (start + octets))))))

-- Where a body that begins at a place ends: a prefix or a list, by the type.
unfoldable pub body_end : Family → ℕ → List ℕ → ℕ → Result ℕ Refusal
body_end family kind v at =
    let shape = shape_of family kind in
    cond shape.prefix (prefix_end family v at) (pairs_from shape.largest v at).ending

-- A component by its type and the place behind it.
abbrev pub located : ℕ → ℕ → Located
located kind next = record { kind = kind; next = next }

-- What a body's end tells of its component: the type and the place behind the body, or the body's refusal.
abbrev pub found : ℕ → Result ℕ Refusal → Result (Option Located) Refusal
found kind (Ok next) = Ok (Some (located kind next))
found kind (Err refusal) = Err refusal

-- The component at a place, behind one of the type `previous` (0 at the start), or nothing where the value ends there. A type 0 or above
-- the family's highest is 3 at the type octet, then a type not above the one before is 4 there, then come the body's refusals.
unfoldable pub component_at : Family → List ℕ → ℕ → ℕ → Result (Option Located) Refusal
component_at family v at previous =
    let kind = get_or v at 0 in
    cond (leb (length v) at) (Ok None)
    (cond (eqb kind 0 || ltb family.highest kind) (Err (UnknownType at))
    (cond (leb kind previous) (Err (TypeOrder at))
    (found kind (body_end family kind v (at + 1)))))
