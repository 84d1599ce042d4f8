-- The destination is judged by the routes.
use borrow.Author.Rules.{rules}
use Rattle.rule.proofs.FamilyLaws.{chosen-fits}
use Rattle.request.proofs.JudgingLaws.{value-judged}
use Rattle.request.proofs.is_feasible.Goals as goal

pub destination_of-destination-requires : goal.destination_of-destination-requires
destination_of-destination-requires c = search (chosen-fits, rules)

pub is_feasible-requires : goal.is_feasible-requires
is_feasible-requires c = search (chosen-fits, rules)

pub returns : goal.returns
returns c = search (value-judged, rules)
