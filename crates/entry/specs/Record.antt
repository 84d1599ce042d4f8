-- A record: its head, a list of fields of fixed widths, and then the value. 01: "Record: value length (2), originator (4), flags (1:
-- ...), DSCP (1), byte rate (8), packet rate (8), redirect community (8), then the value; big-endian, absent fields zero." 2026-05: "A new
-- octet behind the redirect has three bits for each rate, byte rate lowest", and "three zero octets after it".
use Rattle.std.specs.Prelude.{ℕ, ◌+◌, ◌/◌, ◌%◌, ◌^◌, ◌≡◌, Bool, ◌&&◌, List, [], ◌∷◌, ◌++◌, ltb, eqb, length, get_or, drop, map}
use Rattle.octets.specs.Bit.{has}
use Rattle.octets.specs.Number.{number_at, octets_of}
use Rattle.octets.specs.Test.{same_list}
use Rattle.rule.specs.declared.Family.{Family}
use Rattle.action.specs.declared.Actions.{Actions}
use Rattle.action.specs.declared.Given.{Given}
use Rattle.action.specs.declared.Limit.{Limit}
use Rattle.action.specs.Actions.{values_of}
use Rattle.entry.specs.Entry.{Entry, possible}

-- How many octets the length of a value has.
abbrev pub length_width : ℕ
length_width = 2

-- How many octets each field of a head has.
abbrev pub head_widths : List ℕ
head_widths = length_width ∷ 4 ∷ 1 ∷ 1 ∷ 8 ∷ 8 ∷ 8 ∷ 1 ∷ 1 ∷ 1 ∷ 1 ∷ []

-- The octets of fields together.
abbrev pub width_of : List ℕ → ℕ
width_of [] = 0
width_of (width ∷ widths) = width + width_of widths

-- The octets of a head; 2026-05: "a record costs 36 plus the value".
abbrev pub head_cost : ℕ
head_cost = width_of head_widths

-- Numbers written one behind the other, each in its width.
unfoldable pub written_fields : List ℕ → List ℕ → List ℕ
written_fields [] numbers = []
written_fields (width ∷ widths) [] = []
written_fields (width ∷ widths) (number ∷ numbers) = octets_of width number ++ written_fields widths numbers

-- The same of fields that are pairs of a width and a number, as the code has them.
abbrev pub written : List (ℕ × ℕ) → List ℕ
written fields = written_fields (map (λ (f : ℕ × ℕ). f.0) fields) (map (λ (f : ℕ × ℕ). f.1) fields)

-- Numbers read one behind the other, each in its width.
unfoldable pub read_fields : List ℕ → List ℕ → ℕ → List ℕ
read_fields [] s at = []
read_fields (width ∷ widths) s at = number_at width s at ∷ read_fields widths s (at + width)

-- The three zero octets.
abbrev pub spare : List ℕ
spare = 0 ∷ 0 ∷ 0 ∷ []

-- The fields of a head, in order: value length, originator, flags, DSCP, byte rate, packet rate, redirect community, notes, three zeros.
unfoldable pub head_numbers : Entry → List ℕ
head_numbers e = length e.value ∷ e.origin.originator ∷ values_of e.actions ++ spare

-- The record of an entry.
unfoldable pub record_of : Entry → List ℕ
record_of e = written_fields head_widths (head_numbers e) ++ e.value

-- A field and whether its flag is set; `bit` is the flag's value. The number is taken as it stands, also where the flag is not set.
abbrev pub field_if : ℕ → ℕ → ℕ → Given
field_if flags bit number = record { present = has flags bit; number = number }

-- A rate with its note and whether its flag is set, likewise.
abbrev pub limit_if : ℕ → ℕ → ℕ → ℕ → Limit
limit_if flags bit number note = record { present = has flags bit; number = number; note = note }

-- The actions that fields stand for; 01: "1 byte rate, 2 packet rate, 4 S, 8 T, 16 marking, 32 redirect". The low three bits of the notes are
-- the byte rate's, and the next three the packet rate's.
unfoldable pub actions_in : ℕ → ℕ → ℕ → ℕ → ℕ → ℕ → Actions
actions_in flags dscp bytes packets redirect notes =
    record {
      bytes = limit_if flags 1 bytes (notes % 2 ^ 3);
      packets = limit_if flags 2 packets (notes / 2 ^ 3 % 2 ^ 3);
      sample = has flags 4;
      onward = has flags 8;
      marking = field_if flags 16 dscp;
      redirect = field_if flags 32 redirect;
    }

-- The entry that a record's octets stand for.
unfoldable pub entry_of : List ℕ → Entry
entry_of r =
    let fields = read_fields head_widths r 0 in
    record {
      origin = record { originator = get_or fields 1 0 };
      actions = actions_in (get_or fields 2 0) (get_or fields 3 0) (get_or fields 4 0) (get_or fields 5 0) (get_or fields 6 0) (get_or fields 7 0);
      value = drop head_cost r;
    }

-- A record's octets are as many as its length field says.
abbrev pub Measured : List ℕ → Type 0
Measured r = length r ≡ head_cost + number_at length_width r 0

-- A record that could be: its entry could be, and writing the entry gives these octets back.
unfoldable pub good_record : Family → List ℕ → Bool
good_record family r = possible family (entry_of r) && same_list (record_of (entry_of r)) r

-- How the code tests first the fields of a head that have bits to spare: six flags, two notes of three bits, and three zeros. No promise
-- names this: a record that could be passes, and octets that pass are written back as they stood, so that the code need not write them.
unfoldable pub tidy_head : List ℕ → Bool
tidy_head r =
    let fields = read_fields head_widths r 0 in
    ltb (get_or fields 2 0) (2 ^ 6) && ltb (get_or fields 7 0) (2 ^ 6) && eqb (get_or fields 8 0) 0 && eqb (get_or fields 9 0) 0 && eqb (get_or fields 10 0) 0
