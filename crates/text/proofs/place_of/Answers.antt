-- How many octets stand before the first that is the mark.
use Rattle.std.proofs.Common.{◌≡◌, ◌≢◌, rules, tests}
use Rattle.std.proofs.lemmas.Iterator.{YieldsList-from_slice, IsFirst-from_position}
use Rattle.text.proofs.FieldLaws.{mark-found}
use Rattle.text.proofs.place_of.Goals as goal

pub returns : goal.returns
returns c = let s = c.args.s.now in let mark = c.args.mark in
    mark-found mark s _ _ (IsFirst-from_position _ _ _ (λ x. x ≡ mark) (λ x. x ≢ mark) c.position.ensures.ran (YieldsList-from_slice s cc) (λ x q k. search (rules, tests)) (λ x q k. search (rules, tests))) c.unwrap_or.ensures
