-- Which transport octets are there and what they show: one law for each return of the code. Assumes nothing.
use mathlib.Core.Path.{◌≡◌, sym, ◌∙◌}
use mathlib.Core.Bool.{Bool, false}
use mathlib.Core.List.{List, []}
use Prim.Native.Nat.{ℕ, ◌-◌, ◌*◌, ◌<◌, ◌≤◌, min}
use native.Mathlib.Omega.{arith}
use lib.Bits.{bit_and}
use lib.ListN.{length, get_or, take, drop}
use borrow.Author.Tests.{ne_eqb}
use Rattle.std.proofs.Common.{Option}
use Rattle.std.specs.Bool.{then_some}
use Rattle.octets.specs.Number.{number_at}
use Rattle.rule.specs.declared.Family.{Family}
use Rattle.packet.specs.Transport.{transport_found, transport_octets, has_ports, has_icmp, has_flags, transport_fields}

-- behind a fragment offset that is not 0 the transport header is not found
pub later-not-found : (offset : ℕ) → (offset ≡ 0 → ⊥) → transport_found offset ≡ false
later-not-found offset later = ne_eqb offset 0 later

-- a part that ends where it begins, or before, has no octets
pub empty : (s : List ℕ) (from to : ℕ) → to ≤ from → take (to - from) (drop from s) ≡ []
empty s from to h = let e : to - from ≡ 0 = omega arith in rw e

-- how `transport_octets` comes to each of its answers
module _ (s : List ℕ) (field : ℕ) (says : field ≡ number_at 2 s 6) where
  pub not_found : (bit_and field 8191 ≡ 0 → ⊥) → [] ≡ transport_octets s
  unfolding transport_octets
  not_found later = rw (← says, later-not-found (bit_and field 8191) later)

  module _ (first total end : ℕ) (is : first ≡ get_or s 0 0) (sum : total ≡ number_at 2 s 2) (least : end ≡ min (length s) total)
      (found : bit_and field 8191 ≡ 0) where
    pub found-octets : take (end - 4 * bit_and first 15) (drop (4 * bit_and first 15) s) ≡ transport_octets s
    unfolding transport_octets
    found-octets = rw (least, ← sum, ← is, ← says, found)

    pub found_none : end < 4 * bit_and first 15 → [] ≡ transport_octets s
    found_none h = sym (empty s (4 * bit_and first 15) end (omega arith)) ∙ found-octets

-- the fields are what the calls answer
pub fields-shown : (family : Family) (protocol : ℕ) (t : List ℕ) (ports icmp control : Bool) (a b c d e : ℕ) (source destination kind code flags : Option ℕ)
    → ports ≡ has_ports protocol (length t) → icmp ≡ has_icmp family protocol (length t) → control ≡ has_flags protocol (length t)
    → a ≡ number_at 2 t 0 → b ≡ number_at 2 t 2 → c ≡ get_or t 0 0 → d ≡ get_or t 1 0 → e ≡ number_at 2 t 12
    → source ≡ then_some ports a → destination ≡ then_some ports b → kind ≡ then_some icmp c → code ≡ then_some icmp d → flags ≡ then_some control (bit_and e 4095)
    → record { source_port = source; destination_port = destination; icmp_type = kind; icmp_code = code; flags = flags } ≡ transport_fields family protocol t
unfolding transport_fields
fields-shown family protocol t ports icmp control a b c d e source destination kind code flags p i f a' b' c' d' e' s1 s2 s3 s4 s5 =
    rw (s1, s2, s3, s4, s5, p, i, f, a', b', c', d', e')
