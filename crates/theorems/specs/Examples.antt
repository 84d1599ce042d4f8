-- 01's examples marked P, in one list, and rates with the notes of 2026-05 in another: each asks a definition something and expects numbers
-- of it. proofs/Examples.antt has one claim about each list.
use Rattle.std.specs.Prelude.{ℕ, ◌^◌, Bool, true, false, List, [], ◌∷◌, Result, Ok, Err, Option, Some, None}
use Rattle.octets.specs.Order.{ordered}
use Rattle.rule.specs.declared.Refusal.{Refusal}
use Rattle.rule.specs.Family.{ipv4}
use Rattle.rule.specs.Value.{check_value}
use Rattle.rule.specs.Reading.{field_size, field_length}
use Rattle.rule.specs.Refusal.{number_of, place_of}
use Rattle.spelling.specs.Writing.{length_field}
use Rattle.order.specs.Precedence.{precedence}
use Rattle.rate.specs.declared.Rate.{Rate}
use Rattle.rate.specs.Rate.{note_number, rate_of}
use Rattle.packet.specs.declared.Packet.{Packet}
use Rattle.packet.specs.Packet.{packet_of}
use Rattle.matching.specs.Match.{matches}
use Rattle.flowspec.specs.Told.{comparison_told}

-- What an example asks: how a length is written; the size of a length field and the length it gives; what is said of a value; which of
-- two values comes first; what rate a single gives; whether a packet matches a value.
pub data Question : Type 0 where
  length_written : ℕ → Question
  length_read : List ℕ → Question
  value : List ℕ → Question
  order : List ℕ → List ℕ → Question
  rate : ℕ → Question
  match : List ℕ → List ℕ → Question

-- A refusal's number and place, 0 and 0 for an accepted value.
abbrev pub checked_as : Result Unit Refusal → List ℕ
checked_as (Ok _) = 0 ∷ 0 ∷ []
checked_as (Err refusal) = number_of refusal ∷ place_of refusal ∷ []

-- 0, the number that a rate gives and its note, or 13.
abbrev pub rated_as : Option Rate → List ℕ
rated_as (Some r) = 0 ∷ r.number ∷ note_number r.note ∷ []
rated_as None = 13 ∷ []

-- 1 where the packet matches, 0 where it does not, 12 where it is unusable.
abbrev pub matched_as : List ℕ → Option Packet → List ℕ
matched_as v None = 12 ∷ []
matched_as v (Some packet) = to_number (matches ipv4 v packet)
  where
    to_number : Bool → List ℕ
    to_number true = 1 ∷ []
    to_number false = 0 ∷ []

-- What the definitions answer.
unfoldable pub answer_to : Question → List ℕ
answer_to (length_written n) = length_field n
answer_to (length_read s) = field_size s ∷ field_length s ∷ []
answer_to (value v) = checked_as (check_value ipv4 v)
answer_to (order v w) = (comparison_told (Ok (ordered (precedence ipv4 v w)))).values
answer_to (rate single) = rated_as (rate_of single)
answer_to (match v packet) = matched_as v (packet_of ipv4 packet)

-- A UDP packet of 28 octets from 192.0.2.1 to 192.0.2.2, with these ports, each below 256.
abbrev pub udp : ℕ → ℕ → List ℕ
udp from to =
    0x45 ∷ 0 ∷ 0 ∷ 28 ∷ 0 ∷ 0 ∷ 0 ∷ 0 ∷ 64 ∷ 17 ∷ 0 ∷ 0
    ∷ 192 ∷ 0 ∷ 2 ∷ 1 ∷ 192 ∷ 0 ∷ 2 ∷ 2
    ∷ 0 ∷ from ∷ 0 ∷ to ∷ 0 ∷ 8 ∷ 0 ∷ 0 ∷ []

-- A question and the numbers expected.
pub record Example : Type 0 where
  pub asks : Question
  pub expects : List ℕ

-- What is expected of a question.
abbrev pub is : Question → List ℕ → Example
is q a = record { asks = q; expects = a }

-- The marked examples, in 01's order.
abbrev pub examples : List Example
examples =
    is (length_written 239) (0xef ∷ [])
    ∷ is (length_written 240) (0xf0 ∷ 0xf0 ∷ [])
    ∷ is (length_written 4095) (0xff ∷ 0xff ∷ [])
    ∷ is (length_read (0xf0 ∷ 0x0b ∷ [])) (2 ∷ 11 ∷ [])
    ∷ is (value (0x01 ∷ 0x21 ∷ [])) (5 ∷ 1 ∷ [])
    ∷ is (value (0x01 ∷ 0x18 ∷ 0xc0 ∷ 0x00 ∷ [])) (6 ∷ 4 ∷ [])
    ∷ is (value (0x03 ∷ 0x81 ∷ 0x06 ∷ 0x03 ∷ 0x81 ∷ 0x06 ∷ [])) (4 ∷ 3 ∷ [])
    ∷ is (value (0x0b ∷ 0x91 ∷ [])) (7 ∷ 1 ∷ [])
    ∷ is (order (0x01 ∷ 0x19 ∷ 0xc0 ∷ 0x00 ∷ 0x02 ∷ 0x00 ∷ []) (0x01 ∷ 0x18 ∷ 0xc0 ∷ 0x00 ∷ 0x02 ∷ [])) (1 ∷ [])
    ∷ is (order (0x01 ∷ 0x18 ∷ 0xc0 ∷ 0x00 ∷ 0x02 ∷ []) (0x01 ∷ 0x18 ∷ 0xc6 ∷ 0x33 ∷ 0x64 ∷ [])) (1 ∷ [])
    ∷ is (order (0x01 ∷ 0x00 ∷ []) (0x03 ∷ 0x81 ∷ 0x06 ∷ [])) (1 ∷ [])
    ∷ is (order (0x01 ∷ 0x10 ∷ 0x09 ∷ 0xff ∷ []) (0x01 ∷ 0x08 ∷ 0x0a ∷ [])) (1 ∷ [])
    ∷ is (rate 0xbf800000) (0 ∷ 0 ∷ 4 ∷ [])
    ∷ is (rate 0x80000000) (0 ∷ 0 ∷ 0 ∷ [])
    ∷ is (rate 0x00000001) (0 ∷ 1 ∷ 2 ∷ [])
    ∷ is (rate 0x4b7fffff) (0 ∷ 16777215 ∷ 0 ∷ [])
    ∷ is (match (0x04 ∷ 0x03 ∷ 0x89 ∷ 0xc5 ∷ 0x8b ∷ []) (udp 100 200)) (0 ∷ [])
    ∷ is (match (0x04 ∷ 0x03 ∷ 0x89 ∷ 0xc5 ∷ 0x8b ∷ []) (udp 138 200)) (1 ∷ [])
    ∷ []

-- 2026-05: "exact, rounded down, raised to 1, or capped; minus zero is exact, negative numbers are "taken as zero"": 1 and 1.5, 0.5, 2^63 and
-- plus infinity, plus zero and minus infinity.
abbrev pub notes : List Example
notes =
    is (rate 0x3f800000) (0 ∷ 1 ∷ 0 ∷ [])
    ∷ is (rate 0x3fc00000) (0 ∷ 1 ∷ 1 ∷ [])
    ∷ is (rate 0x3f000000) (0 ∷ 1 ∷ 2 ∷ [])
    ∷ is (rate 0x5f000000) (0 ∷ (2 ^ 63) ∷ 0 ∷ [])
    ∷ is (rate 0x7f800000) (0 ∷ (2 ^ 63) ∷ 3 ∷ [])
    ∷ is (rate 0x00000000) (0 ∷ 0 ∷ 0 ∷ [])
    ∷ is (rate 0xff800000) (0 ∷ 0 ∷ 4 ∷ [])
    ∷ []
