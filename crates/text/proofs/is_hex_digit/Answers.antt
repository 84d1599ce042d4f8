-- Each range of signs is one case of the definition.
use Rattle.text.specs.Hex.{is_hex_digit}
use Rattle.text.proofs.is_hex_digit.Goals as goal

pub returns : goal.returns
unfolding is_hex_digit
returns c = rw (c.is_from-decimal.ensures, c.is_from-letter.ensures)
