-- What a lookup begins with: the table is checked, then the packet's octets are read. 01: "lookup 10, 12".
use Rattle.std.specs.Prelude.{ℕ, cond, List, Option, Some, None}
use Rattle.rule.specs.declared.Family.{Family}
use Rattle.packet.specs.Packet.{packet_of}
use Rattle.table.specs.Sound.{sound_table}
use Rattle.std.specs.Prelude.{Result, Ok, Err}
use Rattle.rule.specs.declared.Refusal.{Refusal}
use Rattle.rule.specs.declared.Refusal.TheVariants.{UnsoundTable, UnusablePacket}
use Rattle.packet.specs.declared.Packet.{Packet}

-- What a lookup begins with, by what the octets show: an unusable packet is 12.
abbrev pub opening_of : Option Packet → Result Packet Refusal
opening_of None = Err UnusablePacket
opening_of (Some packet) = Ok packet

-- 01: "lookup 10, 12": what the packet shows, or the number of the refusal.
unfoldable pub opening : Family → List ℕ → List ℕ → Result Packet Refusal
opening family t octets = cond (sound_table family t) (opening_of (packet_of family octets)) (Err UnsoundTable)
