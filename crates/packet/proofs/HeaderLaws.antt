-- The headers: the length of IPv4's in words, and when octets are unusable as a packet of either family, one law for each return of the
-- code. Assumes nothing.
use mathlib.Core.Path.{◌≡◌}
use mathlib.Core.Bool.{true, not}
use mathlib.Core.List.{List}
use Prim.Native.Nat.{ℕ, ◌*◌, ◌/◌, ◌<◌, ◌≤◌}
use lib.Bits.{bit_and, and_le_r}
use lib.Dec.{ltb, eqb}
use lib.ListN.{length, get_or}
use borrow.Author.Tests.{lt-ltb, le-ltb, eq-eqb, ne_eqb}
use Rattle.octets.specs.Number.{number_at}
use Rattle.rule.specs.declared.Family.{Family}
use Rattle.packet.specs.Header.{header_words, ipv4_unusable}
use Rattle.packet.specs.Header6.{ipv6_unusable}

-- the header's length is never above 15 words: its field has four bits
pub words-bounded : (s : List ℕ) → header_words s ≤ 15
words-bounded s = and_le_r (get_or s 0 0) 15

module _ (family : Family) (s : List ℕ) where
  pub too_few : length s < 20 → true ≡ ipv4_unusable family s
  unfolding ipv4_unusable
  too_few h = rw (lt-ltb _ _ h)

  module _ (enough : 20 ≤ length s) where
    pub other-version : (get_or s 0 0 / 16 ≡ family.version → ⊥) → true ≡ ipv4_unusable family s
    unfolding ipv4_unusable
    other-version h = rw (le-ltb _ _ enough, ne_eqb _ _ h)

    module _ (same : get_or s 0 0 / 16 ≡ family.version) where
      pub short-header : bit_and (get_or s 0 0) 15 < 5 → true ≡ ipv4_unusable family s
      unfolding ipv4_unusable
      short-header h = rw (le-ltb _ _ enough, eq-eqb _ _ same, lt-ltb _ _ h)

      pub by_total : (total : ℕ) → 5 ≤ bit_and (get_or s 0 0) 15 → total ≡ number_at 2 s 2 → ltb total (4 * bit_and (get_or s 0 0) 15) ≡ ipv4_unusable family s
      unfolding ipv4_unusable
      by_total total h e = rw (le-ltb _ _ enough, eq-eqb _ _ same, le-ltb _ _ h, e)

-- the same of IPv6
module _ (family : Family) (s : List ℕ) where
  pub too-few-six : length s < 40 → true ≡ ipv6_unusable family s
  unfolding ipv6_unusable
  too-few-six h = rw (lt-ltb _ _ h)

  pub by-version : 40 ≤ length s → not (eqb (get_or s 0 0 / 16) family.version) ≡ ipv6_unusable family s
  unfolding ipv6_unusable
  by-version h = rw (le-ltb _ _ h)
