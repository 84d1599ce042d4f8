-- The type says whether the body is a prefix or a list, as it said to the cursor.
use Rattle.spelling.proofs.PlainWalkLaws.{as-prefix, as-list}
use Rattle.entry.proofs.BodyLaws.{body-prefix, body-list}
use borrow.Author.Rules.{rules}
use Rattle.entry.proofs.is_plain_body.Goals as goal

pub is_plain_prefix-requires : goal.is_plain_prefix-requires
is_plain_prefix-requires c = search (as-prefix, rules)

pub returns-then-shape : goal.returns-then-shape
returns-then-shape c = search (body-prefix, rules)

pub is_plain_list-requires : goal.is_plain_list-requires
is_plain_list-requires c = search (as-list, rules)

pub returns : goal.returns
returns c = search (body-list, rules)
