-- What a lookup goes by: the entries that a packet hits, in their order. That verdict and first record are settled by them alone, so that a
-- record which is not hit may be left out of a table, or put in, is shown in proofs/LeavingLaws.antt.
use Rattle.std.specs.Prelude.{ℕ, ◌≡◌, Bool, cond}
use mathlib.Core.List.{List, [], ◌∷◌, head?}
use Rattle.std.proofs.Math.Option.{Option}
use Rattle.rule.specs.declared.Family.{Family}
use Rattle.rule.specs.Value.{between}
use Rattle.packet.specs.declared.Packet.{Packet}
use Rattle.entry.specs.Entry.{Entry}
use Rattle.table.specs.Walk.{entries}
use Rattle.lookup.specs.Lookup.{hit, verdict_for, first_place}

-- The entries that are hit.
abbrev pub hits : (Entry → Bool) → List Entry → List Entry
hits test [] = []
hits test (e ∷ es) = cond (test e) (e ∷ hits test es) (hits test es)

-- Entries down to the first without T.
abbrev pub up_to : List Entry → List Entry
up_to [] = []
up_to (e ∷ es) = e ∷ cond e.actions.onward (up_to es) []

-- The first entry that is hit, if one is.
abbrev pub first_hit : (Entry → Bool) → List Entry → Option Entry
first_hit test es = head? (hits test es)

-- The octets of the first match's record in a table.
abbrev pub first_record : (Entry → Bool) → List ℕ → List ℕ
first_record test t = between t (first_place test 0 (entries t)).start (first_place test 0 (entries t)).end

-- Two tables say the same of a packet, looked up under a head: one verdict, and first records of the same octets.
pub record Alike (family : Family) (head : List ℕ) (packet : Packet) (t u : List ℕ) : Type 0 where
  pub verdict : verdict_for family head packet (entries t) ≡ verdict_for family head packet (entries u)
  pub octets : first_record (hit family head packet) t ≡ first_record (hit family head packet) u
