-- Prefixes of any width w (32 for IPv4, 128 for IPv6): the bits of an address, when one prefix contains another, and which of two comes
-- first. RFC 8956 section 3.1 lets a prefix begin behind an offset; a prefix of RFC 8955 is one with offset 0.
use Prim.Native.Nat.{ℕ, zero, suc, ◌+◌, ◌-◌, ◌*◌, ◌/◌, ◌%◌, ◌^◌, ◌≤◌, ◌<◌, compare, Ordering}
use Rattle.std.specs.Prelude.{◌≡◌, Bool, cond, ◌&&◌, ◌||◌, List, [], ◌∷◌, ◌⊎◌, leb, eqb, take, drop, get_or}
use Rattle.octets.specs.Number.{number_at}
use Rattle.octets.specs.Order.{then}
use Rattle.octets.specs.Test.{same_list}
use Rattle.prefix.specs.declared.Address.{Address}
use Rattle.prefix.specs.declared.Prefix.{Prefix}

-- RFC 8956 section 3.1: a pattern stands for the bits of an address from `offset` ("the number of most significant address bits to skip")
-- up to `length` ("the N-th most significant bit in the address where bitwise pattern matching stops"). They are the bits of `address` at
-- those places.
pub record Pattern : Type 0 where
  pub offset : ℕ
  pub length : ℕ
  pub address : ℕ

-- The number that an address of the code stands for, in its two words.
abbrev pub address_of : Address → ℕ
address_of a = a.high * 2 ^ 64 + a.low

-- The pattern that a prefix of the code stands for.
abbrev pub pattern_of : Prefix → Pattern
pattern_of p = record { offset = p.offset; length = p.length; address = address_of p.address }

-- The n lowest bits of a number, the highest of them first.
unfoldable pub bits : ℕ → ℕ → List ℕ
bits zero a = []
bits (suc n) a = a / 2 ^ n % 2 ∷ bits n a

-- The bits of an address of w bits that follow its first m, up to its first n.
abbrev pub bits_between : ℕ → ℕ → ℕ → ℕ → List ℕ
bits_between w m n a = drop m (take n (bits w a))

-- The bits that a pattern stands for.
abbrev pub pattern_bits : ℕ → Pattern → List ℕ
pattern_bits w p = bits_between w p.offset p.length p.address

-- A pattern covers an address that has the pattern's bits, from the offset up to the length.
unfoldable pub covers_address : ℕ → Pattern → ℕ → Bool
covers_address w p a = same_list (pattern_bits w p) (bits_between w p.offset p.length a)

-- A pattern contains another of the same offset that is no shorter and begins with the same bits; every pattern contains itself.
unfoldable pub contains : ℕ → Pattern → Pattern → Bool
contains w p q = eqb p.offset q.offset && (leb p.length q.length && covers_address w p q.address)

-- RFC 8956 section 4: "If the offsets are not equal, the lowest offset has precedence". Else RFC 8955 section 5.1: the more specific comes
-- first if one contains the other, else the lower address.
unfoldable pub prefix_order : ℕ → Pattern → Pattern → Ordering
prefix_order w p q =
    then (compare p.offset q.offset)
    (cond (contains w p q || contains w q p) (compare q.length p.length) (compare p.address q.address))

-- RFC 8956 section 3.1: an offset octet stands behind the length octet where the family has offsets, and else the offset is 0.
abbrev pub offset_in : Bool → List ℕ → ℕ
offset_in offsets body = cond offsets (get_or body 1 0) 0

-- The place of a body where the octets of its pattern begin.
abbrev pub pattern_start : Bool → ℕ
pattern_start offsets = cond offsets 2 1

-- RFC 8955 section 4.2.2.1, RFC 8956 section 3.1: a component's body spells a pattern by a length octet, an offset octet where there are
-- offsets, and the pattern's octets; those not sent are 0. The address is the pattern "shifted to the right by the number of offset bits".
unfoldable pub pattern_in : ℕ → Bool → List ℕ → Pattern
pattern_in w offsets body =
    record {
      offset = offset_in offsets body;
      length = get_or body 0 0;
      address = number_at (w / 8) body (pattern_start offsets) / 2 ^ offset_in offsets body;
    }

-- What a plain pattern is: no longer than the width, an address of the bits behind the offset, no bit set past the length, and RFC 8956
-- section 3.1's "length = 0 and offset = 0" or else "offset < length".
pub record WellFormed (w : ℕ) (p : Pattern) : Type 0 where
  pub within : p.length ≤ w
  pub fits : p.address < 2 ^ (w - p.offset)
  pub clear : p.address % 2 ^ (w - p.length) ≡ 0
  pub begins : (p.offset < p.length) ⊎ ((p.offset ≡ 0) × (p.length ≡ 0))
