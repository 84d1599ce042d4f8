-- Each range of signs is one case of the definition.
use borrow.Author.Rules.{rules}
use Rattle.text.proofs.HexLaws.{low-decimal, value-decimal, low-letter, value-letter, value_none}
use Rattle.text.proofs.hex_value.Goals as goal

pub overflow_sub-result : goal.overflow_sub-result
overflow_sub-result c = search (low-decimal, rules)

pub returns-then-is_from : goal.returns-then-is_from
returns-then-is_from c = value-decimal _ _ c.is_from.ensures c.if-is_from.true

pub overflow_sub-result-then-is_from-2 : goal.overflow_sub-result-then-is_from-2
overflow_sub-result-then-is_from-2 c = search (low-letter, rules)

pub returns-then-is_from-2 : goal.returns-then-is_from-2
returns-then-is_from-2 c = value-letter _ _ c.is_from.ensures _ c.is_from-2.ensures c.if-is_from.false c.if-is_from-2.true

pub returns : goal.returns
returns c = value_none _ _ c.is_from.ensures _ c.is_from-2.ensures c.if-is_from.false c.if-is_from-2.false
