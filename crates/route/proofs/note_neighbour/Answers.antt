-- A route no longer than the destination, or outside it, is passed over.
use Rattle.route.proofs.PassLaws.{not-inside, outside, inside}
use borrow.Author.Rules.{rules}
use Rattle.route.proofs.note_neighbour.Goals as goal

pub returns-then-inner-destination : goal.returns-then-inner-destination
returns-then-inner-destination c = search (not-inside, rules)

pub returns-then-not-contains_prefix : goal.returns-then-not-contains_prefix
returns-then-not-contains_prefix c = search (outside, rules)

pub returns : goal.returns
returns c = search (inside, rules)
