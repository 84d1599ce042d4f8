-- A shown field is judged by the list, and a hidden one never matches.
use Rattle.matching.specs.Match.{field_matches}
use borrow.Author.Rules.{rules}
use Rattle.matching.proofs.field_matches.Goals as goal

pub returns : goal.returns
unfolding field_matches
returns c = search rules
