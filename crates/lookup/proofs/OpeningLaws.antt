-- What a lookup begins with: one law for each way in which the code comes to it. Assumes nothing.
use mathlib.Core.Path.{◌≡◌}
use mathlib.Core.List.{List}
use Prim.Native.Nat.{ℕ}
use Rattle.std.proofs.Common.{Option, Some, None}
use Rattle.rule.specs.declared.Family.{Family}
use Rattle.packet.specs.declared.Packet.{Packet}
use Rattle.packet.specs.Packet.{packet_of}
use Rattle.table.specs.Sound.{soundness}
use Rattle.table.proofs.LeaveLaws.{was-sound, was-unsound}
use Rattle.lookup.specs.Opening.{opening}
use Rattle.std.proofs.Common.{Result, Ok, Err, Option, Some, None}
use Rattle.rule.specs.declared.Refusal.{Refusal}
use Rattle.rule.specs.declared.Refusal.TheVariants.{UnusablePacket}

module _ (family : Family) (t octets : List ℕ) (s : Result ℕ Refusal) (is : s ≡ soundness family t) where
  pub see-unsound : (refusal : Refusal) → s ≡ Err refusal → Err refusal ≡ opening family t octets
  unfolding opening
  see-unsound refusal e = let unsound = was-unsound family t s is refusal e in rw (unsound.0, unsound.1)

  module _ (used : ℕ) (e : s ≡ Ok used) (sight : Option Packet) (shows : sight ≡ packet_of family octets) where
    pub see-unusable : sight ≡ None → Err UnusablePacket ≡ opening family t octets
    unfolding opening
    see-unusable f = rw ((was-sound family t s is used e).0, ← shows, f)

    pub see-usable : (packet : Packet) → sight ≡ Some packet → Ok packet ≡ opening family t octets
    unfolding opening
    see-usable packet f = rw ((was-sound family t s is used e).0, ← shows, f)
