-- The rule decides whether the record matches, and T in its actions whether the walk goes on.
use Rattle.lookup.proofs.LookupLaws.{judge-missed, judge-goes-on, judge-stops}
use borrow.Author.Rules.{rules}
use Rattle.lookup.proofs.hit_of_record.Goals as goal

pub returns-then-not-hits_record : goal.returns-then-not-hits_record
returns-then-not-hits_record c = search (judge-missed, rules)

pub returns-then-actions : goal.returns-then-actions
returns-then-actions c = search (judge-goes-on, rules)

pub returns : goal.returns
returns c = search (judge-stops, rules)
