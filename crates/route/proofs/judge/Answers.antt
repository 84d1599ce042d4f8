-- Before each route, what is kept and the routes to come settle the whole list.
use mathlib.Core.Path.{◌≡◌, ◌∙◌}
use mathlib.Core.List.{◌++◌}
use native.Mathlib.Omega.{arith}
use borrow.Author.Rules.{rules}
use lib.ListN.{length}
use Rattle.std.specs.Slice.Iter.{chunks_exact_rest}
use Rattle.route.proofs.PassLaws.{pass-start, pass_on, pass-over, pass-end}
use Rattle.route.proofs.judge.Goals.{In-Some}
use Rattle.route.proofs.judge.Goals as goal

-- a route's words come off the front
module _ (c : In-Some) where
  cut : chunks_exact_rest c.loop-own.own-iterator ≡ c.in-Some.own.now ++ chunks_exact_rest c.next.new.self
  cut = c.in-Some.ensures.steps.1.0

  size : length c.in-Some.own.now ≡ c.args.family.words
  size = c.in-Some.ensures.steps.1.1 ∙ c.loop-own.invariant.0

pub loop-own-init : goal.loop-own-init
loop-own-init c = (search rules, pass-start _ _ _ _ (search rules))

pub loop-own-preserved-then-not-are_nested : goal.loop-own-preserved-then-not-are_nested
loop-own-preserved-then-not-are_nested c =
    let k = (goal.at.loop-own-preserved-then-not-are_nested c).In-Some in
    let l = c.loop-own.invariant in
    let here = c.route_in-route.ensures in
    (k.in-Some.ensures.steps.0 ∙ l.0, pass-over _ c.requires _ _ _ _ _ l.1 _ _ (cut k) (size k) _ _ here c.are_nested.ensures c.if-not-are_nested.true)

pub loop-own-preserved : goal.loop-own-preserved
loop-own-preserved c =
    let k = (goal.at.loop-own-preserved c).In-Some in
    let l = c.loop-own.invariant in
    let here = c.route_in-route.ensures in
    (k.in-Some.ensures.steps.0 ∙ l.0, pass_on _ c.requires _ _ _ _ _ l.1 _ _ (cut k) (size k) _ _ _ here c.better-best.ensures c.note_neighbour-seen.ensures)

pub returns : goal.returns
returns c =
    let l = c.loop-own.invariant in
    pass-end _ _ _ _ _ _ _ _ l.1 (omega (arith, l.0, c.in-None.ensures.steps)) c.is_validated.ensures
