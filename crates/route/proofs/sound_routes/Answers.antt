-- Before each route but the first, the list is sound exactly where the routes from here on are in order: those before were.
use mathlib.Core.Path.{◌≡◌, ap, sym, ◌∙◌}
use mathlib.Core.List.{◌++◌}
use native.Mathlib.Omega.{arith}
use borrow.Author.Rules.{rules}
use lib.ListN.{length}
use Rattle.std.specs.Slice.Iter.{chunks_exact_rest}
use Rattle.route.proofs.RouteLaws.{too_long, left_over, no-routes, first-not-plain, check-start, not-following, check-on, check-end}
use Rattle.route.proofs.sound_routes.Goals.{In-Some, In-Some-own}
use Rattle.route.proofs.sound_routes.Goals as goal

-- the first route's words come off the front
module _ (c : In-Some) where
  first-cut : c.args.words.now ≡ c.in-Some.front.now ++ chunks_exact_rest c.next.new.self
  first-cut = sym c.chunks_exact-routes.ensures.rest ∙ c.in-Some.ensures.steps.1.0

  first-size : length c.in-Some.front.now ≡ c.args.family.words
  first-size = c.in-Some.ensures.steps.1.1 ∙ c.chunks_exact-routes.ensures.size

-- and then those of each route behind it
module _ (c : In-Some-own) where
  cut : chunks_exact_rest c.loop-own.own-iterator ≡ c.in-Some-own.own.now ++ chunks_exact_rest c.next-in-loop-own.new.self
  cut = c.in-Some-own.ensures.steps.1.0

  size : length c.in-Some-own.own.now ≡ c.args.family.words
  size = c.in-Some-own.ensures.steps.1.1 ∙ c.loop-own.invariant.0

pub returns-then-stride-words : goal.returns-then-stride-words
returns-then-stride-words c = search (too_long, rules)

pub returns-then-words-stride-ne0 : goal.returns-then-words-stride-ne0
returns-then-words-stride-ne0 c = search (left_over, rules)

pub returns-in_default : goal.returns-in_default
returns-in_default c =
    let all = c.chunks_exact-routes.ensures in
    no-routes _ c.requires _ c.if-stride-words.false c.if-words-stride-ne0.false
    (omega (arith, c.in_default.ensures.steps, ap length all.rest, all.size))

pub returns-then-not-is_plain : goal.returns-then-not-is_plain
returns-then-not-is_plain c =
    let k = (goal.at.returns-then-not-is_plain c).In-Some in
    first-not-plain _ c.requires _ c.if-stride-words.false c.if-words-stride-ne0.false _ _ (first-cut k) (first-size k) _ _ c.route_in-first.ensures c.is_plain.ensures c.if-not-is_plain.true

pub loop-own-init : goal.loop-own-init
loop-own-init c =
    let k = (goal.at.loop-own-init c).In-Some in (
      search rules,
      rw c.into_iter-own-iterator.ensures.into_iter_gives
          (check-start _ c.requires _ c.if-stride-words.false c.if-words-stride-ne0.false _ _ (first-cut k) (first-size k) _ _ c.route_in-first.ensures
          c.is_plain.ensures c.if-not-is_plain.false),
    )

pub returns-then-not-may_follow : goal.returns-then-not-may_follow
returns-then-not-may_follow c =
    let k = (goal.at.returns-then-not-may_follow c).In-Some-own in
    not-following _ c.requires _ _ _ _ _ c.loop-own.invariant.1 (cut k) (size k) _ _ c.route_in-route.ensures c.may_follow.ensures c.if-not-may_follow.true

pub loop-own-preserved : goal.loop-own-preserved
loop-own-preserved c =
    let k = (goal.at.loop-own-preserved c).In-Some-own in (
      k.in-Some-own.ensures.steps.0 ∙ c.loop-own.invariant.0,
      check-on _ c.requires _ _ _ _ _ c.loop-own.invariant.1 (cut k) (size k) _ _ c.route_in-route.ensures c.may_follow.ensures c.if-not-may_follow.false,
    )

pub returns : goal.returns
returns c =
    let l = c.loop-own.invariant in
    check-end _ c.requires _ _ _ l.1 (omega (arith, l.0, c.in-None.ensures.steps))
