-- An octet within the buffer is stored, and one past its end is dropped.
use borrow.Author.Rules.{rules}
use mathlib.Core.Path.{refl, sym, ◌∙◌}
use lib.Seq.{set_out}
use Rattle.text.proofs.PrintLaws.{laid_one}
use Rattle.text.proofs.put_octet.Goals as goal

pub returns-then-out-at : goal.returns-then-out-at
returns-then-out-at c = (sym (laid_one _ _ _ ∙ set_out _ _ _ (search rules)), refl)

pub returns : goal.returns
returns c = (sym (laid_one _ _ _), refl)
