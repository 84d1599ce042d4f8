-- **Whom request 2026-02, on IP options, leaves as they were.** A packet of IPv4 that shows what it showed before (packet/proofs/Options.antt) is
-- answered by every table as it was: so a packet with a header of five words, and a later fragment. Assumes nothing.
use mathlib.Core.Path.{◌≡◌}
use mathlib.Core.Bool.{cond}
use mathlib.Core.List.{List}
use Prim.Native.Nat.{ℕ}
use Rattle.std.proofs.Common.{Result, Err}
use Rattle.rule.specs.declared.Family.{Family}
use Rattle.rule.specs.declared.Refusal.{Refusal}
use Rattle.rule.specs.declared.Refusal.TheVariants.{UnsoundTable}
use Rattle.packet.specs.declared.Packet.{Packet}
use Rattle.packet.specs.Header.{header_words, fragment_field, fragment_offset}
use Rattle.packet.specs.Packet.{packet_of}
use Rattle.packet.proofs.Options.{packet_before, five-words, later_same}
use Rattle.table.specs.Sound.{sound_table}
use Rattle.lookup.specs.Opening.{opening_of, opening}
use Rattle.flowspec.specs.Look.{looked_up, looking_up, first_in, first_match}

module _ (family : Family) (four : family.version ≡ 4) (t octets : List ℕ) where
  -- what a lookup began with before the request, by what octets showed then
  abbrev opening_before : Result Packet Refusal
  opening_before = cond (sound_table family t) (opening_of (packet_before family octets)) (Err UnsoundTable)

  -- the table answers of the packet what it answered, and its first match stands where it stood
  abbrev pub JudgedAsBefore : Type 0
  JudgedAsBefore = (looking_up family t octets ≡ looked_up family t opening_before) × (first_match family t octets ≡ first_in family t opening_before)

  same-shown : packet_before family octets ≡ packet_of family octets → JudgedAsBefore
  unfolding looking_up first_match opening
  same-shown e = (rw e, rw e)

  -- a packet with a header of five words
  pub five-words-judged : header_words octets ≡ 5 → JudgedAsBefore
  five-words-judged h = same-shown (five-words family four octets h)

  -- a later fragment, with options too
  pub later-judged : (fragment_offset (fragment_field octets) ≡ 0 → ⊥) → JudgedAsBefore
  later-judged h = same-shown (later_same family four octets h)
