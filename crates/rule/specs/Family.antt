-- What a family of addresses decides: the highest component type (`highest`), how many bits an address has (`width`), how many octets
-- stand before the first component (`head`), whether an offset octet stands behind a prefix's length octet (`offsets`), the bits of a
-- fragment value that count (`fragment`), ICMP's protocol number (`icmp`), the version in a packet's first octet (`version`), and how many
-- 32-bit words a route has (`words`).
use Rattle.std.specs.Prelude.{◌+◌, ◌*◌, ◌≤◌, ◌≡◌, true, false}
use Rattle.rule.specs.declared.Family.{Family}
use Rattle.rule.specs.declared.AddressFamily.{AddressFamily}
use Rattle.rule.specs.declared.AddressFamily.TheVariants.{Ipv4, Ipv6}

-- RFC 8955: component types 1 to 12, addresses of 32 bits, nothing before the first component, no offsets, four bits of a fragment value
-- (section 4.2.2.12), ICMP as protocol 1, IP version 4; 01: "four a route".
abbrev pub ipv4 : Family
ipv4 = record { highest = 12; width = 32; head = 0; offsets = false; fragment = 0x0f; icmp = 1; version = 4; words = 4 }

-- RFC 8956: component types 1 to 13 (section 3.7), addresses of 128 bits, nothing before the first component, offsets (section 3.1), three
-- bits of a fragment value (section 3.6: all but DF), ICMPv6 as protocol 58 (section 3.4), IP version 6; a route is four words of address
-- and, as in IPv4, three more.
abbrev pub ipv6 : Family
ipv6 = record { highest = 13; width = 128; head = 0; offsets = true; fragment = 0x0e; icmp = 58; version = 6; words = 7 }

-- The families of addresses that the calls know, each by what it decides; a definition that depends on the family takes that, and none asks
-- which family it is.
abbrev pub family_of : AddressFamily → Family
family_of Ipv4 = ipv4
family_of Ipv6 = ipv6

-- What holds of every family here, and what the code of addresses and routes asks: an address has at most 128 bits, and a route's words are
-- those of its address and three more.
pub record Fits (family : Family) : Type 0 where
  pub narrow : family.width ≤ 128
  pub words : family.words * 32 ≡ family.width + 96
