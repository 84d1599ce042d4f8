-- A number below 10 has a decimal digit, and any other below 16 a letter.
use borrow.Author.Rules.{rules}
use Rattle.text.proofs.HexLaws.{digit-decimal, digit-letter}
use Rattle.text.proofs.hex_digit.Goals as goal

pub returns-then-n-lt10 : goal.returns-then-n-lt10
returns-then-n-lt10 c = search (digit-decimal, rules)

pub returns-else-n-lt10 : goal.returns-else-n-lt10
returns-else-n-lt10 c = search (digit-letter, rules)
