-- Each return is a row of the RFC's table.
use mathlib.Core.Path.{refl}
use borrow.Author.Rules.{rules}
use Rattle.matching.proofs.OperatorLaws.{numeric-row, numeric-last}
use Rattle.matching.proofs.numeric_holds.Goals as goal

pub returns-in-0 : goal.returns-in-0
returns-in-0 c = numeric-row _ _ _ (search rules) 0 refl c.in-0.is

pub returns-in-1 : goal.returns-in-1
returns-in-1 c = numeric-row _ _ _ (search rules) 1 refl c.in-1.is

pub returns-in-2 : goal.returns-in-2
returns-in-2 c = numeric-row _ _ _ (search rules) 2 refl c.in-2.is

pub returns-in-3 : goal.returns-in-3
returns-in-3 c = numeric-row _ _ _ (search rules) 3 refl c.in-3.is

pub returns-in-4 : goal.returns-in-4
returns-in-4 c = numeric-row _ _ _ (search rules) 4 refl c.in-4.is

pub returns-in-5 : goal.returns-in-5
returns-in-5 c = numeric-row _ _ _ (search rules) 5 refl c.in-5.is

pub returns-in-6 : goal.returns-in-6
returns-in-6 c = numeric-row _ _ _ (search rules) 6 refl c.in-6.is

pub returns-in_default : goal.returns-in_default
returns-in_default c = search (numeric-last, rules)
