-- Which buffers are sound tables. `Encodes` says it as 01 does: there is a list of entries that the octets are the records of; and
-- `sound_table` is the test that the code makes. That they say the same is shown in proofs/SoundLaws.antt.
use Rattle.std.specs.Prelude.{ℕ, ◌+◌, ◌-◌, ◌≤◌, ◌≡◌, Bool, true, cond, ◌&&◌, List, [], ◌∷◌, ◌++◌, leb, length, replicate}
use Rattle.octets.specs.Test.{every}
use Rattle.sorted.specs.Table.{Sorted, sorted}
use Rattle.sorted.specs.History.{costs}
use Rattle.rule.specs.declared.Family.{Family}
use Rattle.order.specs.Key.{key_order}
use Rattle.entry.specs.Entry.{Entry, entry_key, possible}
use Rattle.entry.specs.Record.{head_cost, record_of, good_record}
use Rattle.table.specs.Walk.{records_from, records, entries}
use Rattle.std.specs.Prelude.{Result, Ok, Err}
use Rattle.rule.specs.declared.Refusal.{Refusal}
use Rattle.rule.specs.declared.Refusal.TheVariants.{UnsoundTable}

-- 01: "A lent buffer of 0 to 65,536 octets."
abbrev pub most_octets : ℕ
most_octets = 65536

-- 01: "A rule costs 32 plus its length"; 2026-05: "a record costs 36 plus the value".
abbrev pub cost : Entry → ℕ
cost e = head_cost + length e.value

-- The records of entries, one behind the other.
unfoldable pub records_of : List Entry → List ℕ
records_of [] = []
records_of (e ∷ es) = record_of e ++ records_of es

-- A buffer of n octets that holds entries: their records from octet 0, and zero after.
unfoldable pub table_of : ℕ → List Entry → List ℕ
table_of n es = records_of es ++ replicate (n - costs cost es) 0

-- A buffer is the encoding of a list of entries: it is no longer than it may be, there is room, and the entries could be and stand in
-- precedence order, each rule once.
pub record Encodes (family : Family) (t : List ℕ) (es : List Entry) : Type 0 where
  pub short : length t ≤ most_octets
  pub room : costs cost es ≤ length t
  pub each : every (possible family) es ≡ true
  pub rising : Sorted key_order (entry_key family) es
  pub is : t ≡ table_of (length t) es

-- The test: short enough, nothing but records and zeros, each record one that could be, in precedence order.
unfoldable pub sound_table : Family → List ℕ → Bool
sound_table family t =
    leb (length t) most_octets
    && ((records_from t 0).ending && (every (good_record family) (records t) && sorted key_order (entry_key family) (entries t)))

-- What the code answers: sound, with the octets that the records take, or not.
unfoldable pub soundness : Family → List ℕ → Result ℕ Refusal
soundness family t = cond (sound_table family t) (Ok (costs cost (entries t))) (Err UnsoundTable)
