-- A later fragment of IPv6 (RFC 8200 section 4.5), by its octets, and what it shows. That it shows just this is the law `later-six` in
-- proofs/Theorems6.antt.
use Rattle.std.specs.Prelude.{ℕ, ◌+◌, ◌≡◌, cond, not, get_or}
use Rattle.std.specs.Bool.{then_some}
use mathlib.Core.List.{List, Memᴰ}
use Rattle.octets.specs.Number.{number_at}
use Rattle.extension.specs.Extension.{is_walked, offset_of_fragment, more_flag, walked_over, before_fragment}
use Rattle.packet.specs.declared.Packet.{Packet}
use Rattle.packet.specs.Header6.{counted}
use Rattle.packet.specs.Transport.{hidden}

-- At a place begins the first header 44 that the walk comes over, and the offset in it is not 0.
pub record LaterFragment (s : List ℕ) (place : ℕ) : Type 0 where
  pub walked : Memᴰ (before_fragment place) (walked_over (counted s))
  pub later : offset_of_fragment (number_at 2 s (place + 2)) ≡ 0 → ⊥

-- Types 4 to 9 are hidden. Type 12 has 0x02, and with it 0x08 where M is clear. Type 3 has the number in the header's first octet, its "Next
-- Header", unless that is 0, 43 or 60; then it is hidden too.
pub record ShownLater (s : List ℕ) (place : ℕ) (packet : Packet) : Type 0 where
  pub transport : packet.transport ≡ hidden
  pub fragment : packet.fragment ≡ cond (more_flag (number_at 2 s (place + 2))) 0x02 0x0a
  pub protocol : packet.protocol ≡ then_some (not (is_walked (get_or s place 0))) (get_or s place 0)
