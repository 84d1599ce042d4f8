-- What stands before the rules in the value of an attribute MP_REACH_NLRI (RFC 4760 section 3, a reach) or MP_UNREACH_NLRI (section 4, an
-- unreach), and which of these values are taken: any other is 19.
use Rattle.std.specs.Prelude.{ℕ, Bool, cond, ◌&&◌, List, leb, ltb, eqb, length, get_or}
use Rattle.octets.specs.Number.{number_at}
use Rattle.rule.specs.declared.Family.{Family}

-- RFC 4760, "Address Family Identifier (AFI)": IANA's number for a family, 1 for IP version 4 and 2 for IP version 6.
unfoldable pub afi_of : Family → ℕ
afi_of family = cond (eqb family.version 4) 1 2

-- RFC 8955 section 4, and RFC 8956 section 2 for AFI 2: "SAFI=133", the "Subsequent Address Family Identifier" of flow rules.
abbrev pub flow_safi : ℕ
flow_safi = 133

-- The first two octets are the AFI and the third is the SAFI: both are those of the family's flow rules.
unfoldable pub is_of_family : Family → List ℕ → Bool
is_of_family family attribute = eqb (number_at 2 attribute 0) (afi_of family) && eqb (get_or attribute 2 0) flow_safi

-- The octets before the rules of a reach: AFI (2), SAFI (1), "Length of Next Hop Network Address" (1), no "Network Address of Next Hop",
-- "Reserved" (1).
abbrev pub reach_head : ℕ
reach_head = 5

-- The octets before the rules of an unreach: AFI (2), SAFI (1).
abbrev pub unreach_head : ℕ
unreach_head = 3

-- A reach is taken where it is longer than its head, so that the head is whole and more than nothing follows, its family is the caller's, and
-- the length of its next hop is 0. 2026-01: "A truncated head, a nonzero next-hop length, another family or a reach with no rule is 19."
unfoldable pub is_reach : Family → List ℕ → Bool
is_reach family attribute = ltb reach_head (length attribute) && (is_of_family family attribute && eqb (get_or attribute 3 0) 0)

-- An unreach is taken where its head is whole and its family is the caller's. 2026-01: "An unreach with no rule is an accepted no-op."
unfoldable pub is_unreach : Family → List ℕ → Bool
is_unreach family attribute = leb unreach_head (length attribute) && is_of_family family attribute
