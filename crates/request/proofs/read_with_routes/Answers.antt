-- Unsound routes are refused before the rule is read.
use borrow.Author.Rules.{rules}
use Rattle.rule.proofs.FamilyLaws.{chosen-fits}
use Rattle.request.proofs.JudgingLaws.{with-unsound, with-sound}
use Rattle.request.proofs.read_with_routes.Goals as goal

pub sound_routes-requires : goal.sound_routes-requires
sound_routes-requires c = search (chosen-fits, rules)

pub returns-then-not-sound_routes : goal.returns-then-not-sound_routes
returns-then-not-sound_routes c = search (with-unsound, rules)

pub returns : goal.returns
returns c = search (with-sound, rules)
