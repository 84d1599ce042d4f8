-- The room holds zeros before it is filled, so a text of fewer digits spells a number that ends in zeros, as the definition has it.
use mathlib.Core.Path.{◌∙◌}
use Rattle.text.proofs.PrintLaws.{number-laid}
use Rattle.text.proofs.word_in.Goals as goal

pub returns : goal.returns
returns c = c.number_at.ensures.0 ∙ number-laid 4 _ _ c.read_octets.ensures.0
