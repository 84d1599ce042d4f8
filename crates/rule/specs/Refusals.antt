-- The refusals 1 to 7 of a value, row by row as in 01's table, each with its place. Reading goes left to right: a component begins where
-- the one before it ends, and in a list an operator stands behind the pair before it. Where an accepted component or pair ends is taken
-- from `component_at` and `pair_at`. That a value is refused exactly so is shown in proofs/RefusalsLaws.antt. Quoted are 01's words, whose
-- 12 and 32 are those of IPv4; in another family they are its highest type and its width.
use Rattle.std.specs.Prelude.{ℕ, ◌+◌, ◌-◌, ◌/◌, ◌<◌, ◌≤◌, ◌≡◌, Bool, true, false, ◌||◌, List, ◌⊎◌, ltb, eqb, length, get_or, Ok, Some}
use Rattle.rule.specs.declared.Family.{Family}
use Rattle.rule.specs.declared.Shape.{Shape}
use Rattle.rule.specs.declared.NextPair.TheVariants.{More}
use Rattle.rule.specs.Shape.{shape_of}
use Rattle.rule.specs.Operator.{size_of}
use Rattle.rule.specs.Component.{pair_at, lead_of, offset_at, located, component_at}
use Rattle.rule.specs.Value.{most_value}
use Rattle.rule.specs.Reading.{rule_end, value_in}

-- In a value of at most 4,095 octets that is longer than its head a component begins, or the value ends, at a place; the component before
-- it is of the type `previous`. The first begins behind the head, and 0 stands for the type before it.
pub data Begins (family : Family) (v : List ℕ) : ℕ → ℕ → Type 0 where
  first : length v ≤ most_value → family.head < length v → Begins family v family.head 0
  next : {at previous kind behind : ℕ} → Begins family v at previous → component_at family v at previous ≡ Ok (Some (located kind behind))
      → Begins family v behind kind

-- The type octet of the component that begins at a place.
abbrev pub type_at : List ℕ → ℕ → ℕ
type_at v at = get_or v at 0

-- That type is 0 or above the family's highest.
abbrev pub unknown_type : Family → List ℕ → ℕ → Bool
unknown_type family v at = eqb (type_at v at) 0 || ltb family.highest (type_at v at)

-- What the body of that type is.
abbrev pub shape_at : Family → List ℕ → ℕ → Shape
shape_at family v at = shape_of family (type_at v at)

-- At a place a component begins whose type is neither unknown nor out of order, so that its body is read.
pub record Opens (family : Family) (v : List ℕ) (at : ℕ) : Type 0 where
  pub previous : ℕ
  pub begins : Begins family v at previous
  pub inside : at < length v
  pub known : unknown_type family v at ≡ false
  pub rises : previous < type_at v at

-- The length octet at a place is one that no prefix may have. RFC 8956 section 3.1: "If length = 0 and offset = 0, this component matches
-- every address; otherwise, length MUST be in the range offset < length < 129 or the component is malformed."
pub data OutOfRange (family : Family) (v : List ℕ) (at : ℕ) : Type 0 where
  -- It is above the width, which is known there and then, even where nothing follows.
  above-width : at < length v → family.width < get_or v at 0 → OutOfRange family v at
  -- The octet behind it says an offset above 0, and the length is not above that offset.
  within-offset : at + 1 < length v → 0 < offset_at family v (at + 1) → get_or v at 0 ≤ offset_at family v (at + 1) → OutOfRange family v at

-- A prefix whose length octet is to stand at a place is cut short.
pub data PrefixCut (family : Family) (v : List ℕ) (at : ℕ) : Type 0 where
  -- The length octet is missing.
  no_length : length v ≤ at → PrefixCut family v at
  -- The length octet, not above the width, is the value's last, in a family that has an offset octet behind it.
  no-offset : length v ≡ at + 1 → get_or v at 0 ≤ family.width → family.offsets ≡ true → PrefixCut family v at
  -- Fewer octets follow than a length not above the width, minus the offset, asks: 01, "that many bits rounded up to octets".
  short-pattern : at + lead_of family ≤ length v → get_or v at 0 ≤ family.width
      → length v - (at + lead_of family) < (get_or v at 0 - offset_at family v (at + 1) + 7) / 8 → PrefixCut family v at

-- In the list of the component at `at` an operator is to stand at a place: the first behind the type octet, each other behind the pair
-- before it.
pub data Operator (family : Family) (v : List ℕ) (at : ℕ) : ℕ → Type 0 where
  first : Operator family v at (at + 1)
  next : {place behind : ℕ} → Operator family v at place → pair_at (shape_at family v at).largest v place ≡ Ok (More behind)
      → Operator family v at behind

-- A pair, of values of at most `largest` octets, whose operator is to stand at a place is cut short.
pub data PairCut (largest : ℕ) (v : List ℕ) (at : ℕ) : Type 0 where
  -- The operator is missing.
  no-operator : length v ≤ at → PairCut largest v at
  -- Fewer octets follow than it says, of a size that the type allows.
  short-value : at < length v → size_of (get_or v at 0) ≤ largest → length v - (at + 1) < size_of (get_or v at 0) → PairCut largest v at

-- A value is refused with a number at a place. 01: "3 to 7 carry a place in the value: the type octet (3, 4), the length octet (5), the
-- operator (7), the value's end (6)"; "at one octet 3 precedes 4, and 7 precedes 6".
pub data ValueRefused (family : Family) (v : List ℕ) : ℕ → ℕ → Type 0 where
  -- "value over 4,095"
  one : most_value < length v → ValueRefused family v 1 0
  -- "value of length 0", or exactly as long as its head
  two : length v ≤ most_value → (length v ≡ 0) ⊎ (length v ≡ family.head) → ValueRefused family v 2 0
  -- "component type 0 or above 12"
  three : {place previous : ℕ} → Begins family v place previous → place < length v → unknown_type family v place ≡ true
      → ValueRefused family v 3 place
  -- "type not above the one before"
  four : {place previous : ℕ} → Begins family v place previous → place < length v → unknown_type family v place ≡ false
      → type_at v place ≤ previous
      → ValueRefused family v 4 place
  -- "prefix length above 32"
  five : {at : ℕ} → Opens family v at → (shape_at family v at).prefix ≡ true → OutOfRange family v (at + 1) → ValueRefused family v 5 (at + 1)
  -- "value ends inside a component": a prefix or a list; or, before any, inside the head
  six-prefix : {at : ℕ} → Opens family v at → (shape_at family v at).prefix ≡ true → PrefixCut family v (at + 1)
      → ValueRefused family v 6 (length v)
  six-list : {at place : ℕ} → Opens family v at → (shape_at family v at).prefix ≡ false → Operator family v at place
      → PairCut (shape_at family v at).largest v place → ValueRefused family v 6 (length v)
  six-head : length v ≤ most_value → 0 < length v → length v < family.head → ValueRefused family v 6 (length v)
  -- "size not allowed for the type"
  seven : {at place : ℕ} → Opens family v at → (shape_at family v at).prefix ≡ false → Operator family v at place → place < length v
      → (shape_at family v at).largest < size_of (get_or v place 0) → ValueRefused family v 7 place

-- A rule is refused so: 1 where its "length field or value runs past the bytes", and else as its value is.
abbrev pub RuleRefused : Family → List ℕ → ℕ → ℕ → Type 0
RuleRefused family rule number place =
    ((length rule < rule_end rule) × ((number ≡ 1) × (place ≡ 0)))
    ⊎ ((rule_end rule ≤ length rule) × ValueRefused family (value_in rule) number place)
