-- The actions of a rule's communities. The invariant: the actions so far and the communities that are left give the whole answer.
use mathlib.Core.Path.{◌≡◌, refl, ◌∙◌}
use mathlib.Core.List.{◌++◌}
use native.Mathlib.Omega.{arith}
use borrow.Author.Rules.{rules}
use lib.ListN.{length}
use Rattle.std.specs.Slice.Iter.{chunks_exact_rest, chunks_exact_size}
use Rattle.std.proofs.Common.{Some, None}
use Rattle.octets.specs.Number.{number_at}
use Rattle.action.specs.declared.Actions.{Actions}
use Rattle.action.specs.Actions.{actions_of}
use Rattle.action.specs.Reading.{with_community}
use Rattle.action.proofs.Communities.{Reached, refused, start, finished, next, stopped, takes-byte-rate, takes-packet-rate, takes-flags, takes-marking, takes-redirect, skipped, refuses-byte-rate, refuses-packet-rate}
use Rattle.action.proofs.actions_of.Goals.{In-Some}
use Rattle.action.proofs.actions_of.Goals as goal

-- a turn: what is left is cut by a community, which changes the actions or is refused
module _ (c : In-Some) where
  cut : chunks_exact_rest c.loop-eight.eight-iterator ≡ c.in-Some.eight.now ++ chunks_exact_rest c.next.new.self
  cut = c.in-Some.ensures.steps.1.0

  whole : length c.in-Some.eight.now ≡ 8
  whole = c.in-Some.ensures.steps.1.1 ∙ c.loop-eight.invariant.0

  on : (b : Actions) → with_community c.loop-eight.actions (number_at 8 c.in-Some.eight.now 0) ≡ Some b
      → (chunks_exact_size c.next.new.self ≡ 8) × Reached c.args.communities.now b (chunks_exact_rest c.next.new.self)
  on b h = (c.in-Some.ensures.steps.0 ∙ c.loop-eight.invariant.0, next _ _ _ c.loop-eight.invariant.1 _ _ cut whole b h)

  off : with_community c.loop-eight.actions (number_at 8 c.in-Some.eight.now 0) ≡ None → None ≡ actions_of c.args.communities.now
  off h = stopped _ _ _ c.loop-eight.invariant.1 _ _ cut whole h

pub returns-then-size : goal.returns-then-size
returns-then-size c = search (refused, rules)

pub loop-eight-init : goal.loop-eight-init
loop-eight-init c = (search rules, search (start, rules))

pub returns-in_err-rate-in-ByteRate : goal.returns-in_err-rate-in-ByteRate
returns-in_err-rate-in-ByteRate c =
    c.from_residual.ensures
    ∙ off (goal.at.returns-in_err-rate-in-ByteRate c).In-Some
    (refuses-byte-rate _ _ _ _ c.number_at-community.ensures.0 c.kind_of.ensures _ c.rate_in.ensures c.in_err-rate-in-ByteRate.was c.in-ByteRate.is)

pub loop-eight-preserved-in-ByteRate : goal.loop-eight-preserved-in-ByteRate
loop-eight-preserved-in-ByteRate c =
    on (goal.at.loop-eight-preserved-in-ByteRate c).In-Some _
    (takes-byte-rate _ _ _ _ c.number_at-community.ensures.0 c.kind_of.ensures _ _ _ _ _ c.in-ByteRate.is c.rate_in.ensures c.in_ok-rate-in-ByteRate.was
    c.limit_of.ensures c.smaller_of-actions.ensures refl)

pub returns-in_err-rate-in-PacketRate : goal.returns-in_err-rate-in-PacketRate
returns-in_err-rate-in-PacketRate c =
    c.from_residual-in_err-rate-in-PacketRate.ensures
    ∙ off (goal.at.returns-in_err-rate-in-PacketRate c).In-Some
    (refuses-packet-rate _ _ _ _ c.number_at-community.ensures.0 c.kind_of.ensures _ c.rate_in-in-PacketRate.ensures c.in_err-rate-in-PacketRate.was c.in-PacketRate.is)

pub loop-eight-preserved-in-PacketRate : goal.loop-eight-preserved-in-PacketRate
loop-eight-preserved-in-PacketRate c =
    on (goal.at.loop-eight-preserved-in-PacketRate c).In-Some _
    (takes-packet-rate _ _ _ _ c.number_at-community.ensures.0 c.kind_of.ensures _ _ _ _ _ c.in-PacketRate.is c.rate_in-in-PacketRate.ensures
    c.in_ok-rate-in-PacketRate.was c.limit_of-in-PacketRate.ensures c.smaller_of-actions-in-PacketRate.ensures refl)

pub loop-eight-preserved-in-TrafficAction : goal.loop-eight-preserved-in-TrafficAction
loop-eight-preserved-in-TrafficAction c =
    on (goal.at.loop-eight-preserved-in-TrafficAction c).In-Some _
    (takes-flags _ _ _ _ c.number_at-community.ensures.0 c.kind_of.ensures _ c.in-TrafficAction.is refl)

pub loop-eight-preserved-in-Marking : goal.loop-eight-preserved-in-Marking
loop-eight-preserved-in-Marking c =
    on (goal.at.loop-eight-preserved-in-Marking c).In-Some _
    (takes-marking _ _ _ _ c.number_at-community.ensures.0 c.kind_of.ensures _ _ _ c.in-Marking.is c.given_of.ensures c.first_of-actions.ensures refl)

pub loop-eight-preserved-in-Redirect : goal.loop-eight-preserved-in-Redirect
loop-eight-preserved-in-Redirect c =
    on (goal.at.loop-eight-preserved-in-Redirect c).In-Some _
    (takes-redirect _ _ _ _ c.number_at-community.ensures.0 c.kind_of.ensures _ _ _ c.in-Redirect.is c.given_of-in-Redirect.ensures
    c.first_of-actions-in-Redirect.ensures refl)

pub loop-eight-preserved : goal.loop-eight-preserved
loop-eight-preserved c =
    on (goal.at.loop-eight-preserved c).In-Some _ (skipped _ _ _ _ c.number_at-community.ensures.0 c.kind_of.ensures _ c.in-Other.is refl)

pub returns : goal.returns
returns c = finished _ _ _ c.loop-eight.invariant.1 (omega (arith, c.loop-eight.invariant.0, c.in-None.ensures.steps))
