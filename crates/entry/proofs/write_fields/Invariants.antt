use Prim.Native.Nat.{ℕ}
use mathlib.Core.List.{map}
use Rattle.entry.proofs.RecordLaws.{WritingFields}
use Rattle.entry.proofs.write_fields.Given as goal

abbrev pub invariant-loop-width : goal.invariant-loop-width
invariant-loop-width l = WritingFields (map (λ (f : ℕ × ℕ). f.0) l.fields) (map (λ (f : ℕ × ℕ). f.1) l.fields) l.initial.buffer l.buffer l.at l.width-index l.place
