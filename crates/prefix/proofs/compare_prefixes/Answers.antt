-- The offsets decide; where they are equal and one prefix contains the other the lengths, and else the addresses.
use mathlib.Core.Path.{◌∙◌}
use Rattle.octets.proofs.OrderLaws.{numbers-ordered}
use Rattle.prefix.proofs.PrefixLaws.{addresses-ordered, by-offset, by_length, by_address}
use borrow.Author.Rules.{rules}
use Rattle.prefix.proofs.compare_prefixes.Goals as goal

pub returns-then-first-second : goal.returns-then-first-second
returns-then-first-second c = by-offset _ _ _ _ (search rules) (c.cmp.ensures ∙ numbers-ordered _ _)

pub returns-then-are_nested : goal.returns-then-are_nested
returns-then-are_nested c = by_length _ _ _ _ _ (search rules) c.are_nested.ensures (search rules) (c.cmp-then-are_nested.ensures ∙ numbers-ordered _ _)

pub returns : goal.returns
returns c = by_address _ _ _ _ _ (search rules) c.are_nested.ensures (search rules) (c.cmp-2.ensures ∙ addresses-ordered _ _ (search rules) (search rules))
