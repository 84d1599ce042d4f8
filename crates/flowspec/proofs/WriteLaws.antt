-- Writing one rule: the promise from what the spelling crate's writer ensures. Assumes nothing.
use mathlib.Core.Path.{◌≡◌, refl, ap, ◌∙◌}
use mathlib.Core.List.{List, [], ◌∷◌}
use Prim.Native.Nat.{ℕ}
use lib.ListN.{length}
use Rattle.std.proofs.Common.{Result}
use Rattle.rule.specs.declared.Family.{Family}
use Rattle.rule.specs.declared.Refusal.{Refusal}
use Rattle.spelling.specs.Writing.{writing, after_writing}
use Rattle.flowspec.specs.Told.{writing_told}
use Rattle.flowspec.specs.Promise.{WritesOne}
use Rattle.flowspec.proofs.ToldLaws.{write-tells}

pub writes : (family chosen : Family) → chosen ≡ family → (value buffer : List ℕ) (answer : Result ℕ Refusal) (exit : List ℕ)
    → (answer ≡ writing chosen value (length buffer)) × (exit ≡ after_writing chosen value buffer) → WritesOne family value buffer answer exit (value ∷ [])
writes family chosen chose value buffer answer exit h =
    rw (← chose) (record { is = h.0; tells = ap writing_told h.0 ∙ write-tells chosen value buffer; leaves = h.1; keeps = refl })
