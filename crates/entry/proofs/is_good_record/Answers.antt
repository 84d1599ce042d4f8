-- The checks are the definition's own: octets that the entry's record gives back have a tidy head.
use Rattle.entry.proofs.CodecLaws.{good-untidy, good-no-actions, good-value}
use native.Mathlib.Omega.{arith}
use borrow.Author.Rules.{rules}
use mathlib.Core.Path.{ap}
use mathlib.Core.Bool.{not}
use Rattle.entry.proofs.is_good_record.Goals as goal

pub returns-then-not-is_tidy_head : goal.returns-then-not-is_tidy_head
returns-then-not-is_tidy_head c = search (good-untidy, rules)

pub returns-then-not-could_be : goal.returns-then-not-could_be
returns-then-not-could_be c = search (good-no-actions, rules)

pub returns : goal.returns
returns c =
    good-value _ _ _ c.record_actions-actions.ensures _ c.could_be.ensures _
    (λ i. omega (arith, c.type_inv.octets i))
    (search rules)
    _
    c.is_tidy_head.ensures
    (ap not c.if-not-is_tidy_head.false)
    (ap not c.if-not-could_be.false)
    c.is_plain_value.ensures
