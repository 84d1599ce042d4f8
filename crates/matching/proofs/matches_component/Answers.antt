-- Each return is a row of the definition: an address, one field, either port, a number that every packet shows, or nothing.
use mathlib.Core.Path.{refl}
use Rattle.matching.specs.Match.{fields_for}
use Rattle.matching.proofs.MatchLaws.{on-destination, on-source, on-field, on-either, on-number, on-nothing}
use borrow.Author.Rules.{rules}
use Rattle.matching.proofs.matches_component.Goals as goal

pub returns-in-1 : goal.returns-in-1
returns-in-1 c = search (on-destination, rules)

pub returns-in-2 : goal.returns-in-2
returns-in-2 c = search (on-source, rules)

pub returns-in-3 : goal.returns-in-3
unfolding fields_for
returns-in-3 c = on-field _ _ _ _ 3 c.in-3.is refl _ (search rules) _ _ refl c.field_matches.ensures

pub returns-in-4 : goal.returns-in-4
unfolding fields_for
returns-in-4 c = on-either _ _ _ _ 4 c.in-4.is refl _ (search rules) _ _ _ _ refl c.field_matches-in-4.ensures c.field_matches-in-4-2.ensures

pub returns-in-5 : goal.returns-in-5
unfolding fields_for
returns-in-5 c = on-field _ _ _ _ 5 c.in-5.is refl _ (search rules) _ _ refl c.field_matches-in-5.ensures

pub returns-in-6 : goal.returns-in-6
unfolding fields_for
returns-in-6 c = on-field _ _ _ _ 6 c.in-6.is refl _ (search rules) _ _ refl c.field_matches-in-6.ensures

pub returns-in-7 : goal.returns-in-7
unfolding fields_for
returns-in-7 c = on-field _ _ _ _ 7 c.in-7.is refl _ (search rules) _ _ refl c.field_matches-in-7.ensures

pub returns-in-8 : goal.returns-in-8
unfolding fields_for
returns-in-8 c = on-field _ _ _ _ 8 c.in-8.is refl _ (search rules) _ _ refl c.field_matches-in-8.ensures

pub returns-in-9 : goal.returns-in-9
unfolding fields_for
returns-in-9 c = on-field _ _ _ _ 9 c.in-9.is refl _ (search rules) _ _ refl c.field_matches-in-9.ensures

pub returns-in-10 : goal.returns-in-10
unfolding fields_for
returns-in-10 c = on-number _ _ _ _ 10 c.in-10.is refl _ (search rules) _ _ refl c.list_holds.ensures

pub returns-in-11 : goal.returns-in-11
unfolding fields_for
returns-in-11 c = on-number _ _ _ _ 11 c.in-11.is refl _ (search rules) _ _ refl c.list_holds-in-11.ensures

pub returns-in-12 : goal.returns-in-12
unfolding fields_for
returns-in-12 c = on-number _ _ _ _ 12 c.in-12.is refl _ (search rules) _ _ refl c.list_holds-in-12.ensures

pub returns-in-13 : goal.returns-in-13
unfolding fields_for
returns-in-13 c = on-field _ _ _ _ 13 c.in-13.is refl _ (search rules) _ _ refl c.field_matches-in-13.ensures

pub returns-in_default : goal.returns-in_default
returns-in_default c = search (on-nothing, rules)
