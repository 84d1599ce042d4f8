-- Four worked histories, told once of a scene: a family, a buffer, one route and two rules. In the first the one rule is announced, the other
-- is, the first is announced again by somebody else and so gone, announced once more, and the other is withdrawn. The second comes to the
-- same in another order, in another spelling and with other answers; the third by two whole attributes. In the fourth the route is gone
-- when the one rule is announced again. Scene4.antt has a scene of IPv4, and Scene6.antt one of IPv6.
use Rattle.std.specs.Prelude.{ℕ, false, List, [], ◌∷◌, ◌++◌, replicate, Ok, Err}
use Rattle.rule.specs.declared.Family.{Family}
use Rattle.rule.specs.declared.Refusal.TheVariants.{Infeasible, NotHeld}
use Rattle.route.specs.declared.Origin.{Origin}
use Rattle.rate.specs.declared.Note.TheVariants.{TakenAsZero}
use Rattle.rate.specs.Rate.{note_number}
use Rattle.action.specs.declared.Actions.{Actions}
use Rattle.action.specs.Given.{given}
use Rattle.action.specs.Limit.{limit}
use Rattle.action.specs.Actions.{no_actions}
use Rattle.action.specs.Reading.{with_byte_rate, with_marking}
use Rattle.entry.specs.Entry.{Entry}
use Rattle.request.specs.Input.{Announcement, Policy, settings_of, origin_of, announcement_of, policy_of}
use Rattle.update.specs.Singles.{Reach, reach_of}
use Rattle.update.specs.Apply.{reached}
use Rattle.history.specs.History.{Call, announcement, withdrawal, AnswerTo, Made, empty_table}
use Rattle.history.specs.Attributes.{reach, unreach, Event, whole}

-- A scene: what its calls are lent, two rules, the tables that they leave, and two packets.
pub record Scene : Type 0 where
  -- its family, the octets of its buffer, and the policy by which originator 7 may announce both rules
  pub family : Family
  pub size : ℕ
  pub policy : Policy
  -- the one rule, which is left at the end: its value, its NLRI, and its NLRI in another spelling
  pub value : List ℕ
  pub rule : List ℕ
  pub spelled : List ℕ
  -- the other rule, which is withdrawn
  pub other_value : List ℕ
  pub other_rule : List ℕ
  -- both in a reach, and the other in an unreach
  pub reached_both : List ℕ
  pub unreached_other : List ℕ
  -- the table with the one rule, which drops, with the other, which marks, with both, and with both where both drop
  pub one : List ℕ
  pub another : List ℕ
  pub both : List ℕ
  pub dropped : List ℕ
  -- a packet that the one rule meets, and one that it does not
  pub met : List ℕ
  pub missed : List ℕ

-- No route is left, and rules with no destination are not allowed.
abbrev pub unrouted : Policy
unrouted = policy_of [] (settings_of false)

-- Who announces both rules.
abbrev pub seven : Origin
seven = origin_of 7

-- Somebody else.
abbrev pub eight : Origin
eight = origin_of 8

-- A byte rate of minus 1, which is taken as zero.
abbrev pub dropping : List ℕ
dropping = 0x80 ∷ 0x06 ∷ 0 ∷ 0 ∷ 0xbf ∷ 0x80 ∷ 0 ∷ 0 ∷ []

-- A marking with DSCP 10.
abbrev pub marking : List ℕ
marking = 0x80 ∷ 0x09 ∷ 0 ∷ 0 ∷ 0 ∷ 0 ∷ 0 ∷ 10 ∷ []

-- The same byte rate behind a route target, which is skipped.
abbrev pub dropping_spelled : List ℕ
dropping_spelled = 0x00 ∷ 0x02 ∷ 0xfd ∷ 0xe8 ∷ 0 ∷ 0 ∷ 0 ∷ 1 ∷ dropping

-- Its note.
abbrev pub taken_as_zero : ℕ
taken_as_zero = note_number TakenAsZero

-- The byte rate as read.
abbrev pub drops : Actions
drops = with_byte_rate no_actions (limit 0 taken_as_zero)

-- The marking as read.
abbrev pub marks : Actions
marks = with_marking no_actions (given 10)

-- The head of a record of 7 whose rates and redirect stand as 0: so many octets of value, flags, DSCP, notes and three zeros.
abbrev pub head_for : ℕ → ℕ → ℕ → ℕ → List ℕ
head_for size flags dscp notes = 0 ∷ size ∷ 0 ∷ 0 ∷ 0 ∷ 7 ∷ flags ∷ dscp ∷ replicate 24 0 ++ notes ∷ 0 ∷ 0 ∷ 0 ∷ []

-- A call with its answer and what it left.
abbrev pub made : (call : Call) → AnswerTo call → List ℕ → Made
made call answer left = record { call = call; answer = answer; left = left }

module _ (s : Scene) where
  -- The one rule as the table holds it.
  abbrev pub entry : Entry
  entry = record { origin = seven; actions = drops; value = s.value }

  -- The other rule as the table holds it.
  abbrev pub other_entry : Entry
  other_entry = record { origin = seven; actions = marks; value = s.other_value }

  -- The one rule announced by its originator.
  abbrev pub owned : Announcement
  owned = announcement_of s.rule seven dropping

  -- The same announced by another.
  abbrev pub foreign : Announcement
  foreign = announcement_of s.rule eight dropping

  -- The same announced in the other spelling.
  abbrev pub respelled : Announcement
  respelled = announcement_of s.spelled seven dropping_spelled

  -- The other rule announced.
  abbrev pub marked : Announcement
  marked = announcement_of s.other_rule seven marking

  -- The other rule announced to be dropped too.
  abbrev pub other_dropped : Announcement
  other_dropped = announcement_of s.other_rule seven dropping

  -- The first history.
  abbrev pub worked : List Made
  worked =
      made (announcement s.policy owned) (Ok taken_as_zero) s.one
      ∷ made (announcement s.policy marked) (Ok 0) s.both
      ∷ made (announcement s.policy foreign) (Err Infeasible) s.another
      ∷ made (announcement s.policy owned) (Ok taken_as_zero) s.both
      ∷ made (withdrawal s.other_rule) (Ok tt) s.one
      ∷ []

  -- The second: the other rule is withdrawn first, where it is not held, and the one is announced in the other spelling.
  abbrev pub other : List Made
  other =
      made (withdrawal s.other_rule) (Err NotHeld) (empty_table s.size)
      ∷ made (announcement s.policy respelled) (Ok taken_as_zero) s.one
      ∷ []

  -- Both rules in one reach, both to be dropped.
  abbrev pub both_reached : Reach
  both_reached = reach_of s.reached_both seven dropping

  -- The third: both are announced by the reach, lent three answer words, and the other is withdrawn by the unreach.
  abbrev pub attributes : List Event
  attributes =
      whole (record { attribute = reach s.policy both_reached; lent = 99 ∷ 99 ∷ 99 ∷ []; answer = Ok (reached 2 taken_as_zero); words = 0 ∷ 0 ∷ 99 ∷ []; left = s.dropped })
      ∷ whole (record { attribute = unreach s.unreached_other; lent = 99 ∷ []; answer = Ok 1; words = 0 ∷ []; left = s.one })
      ∷ []

  -- The single calls that the attributes stand for.
  abbrev pub standing : List Made
  standing =
      made (announcement s.policy owned) (Ok taken_as_zero) s.one
      ∷ made (announcement s.policy other_dropped) (Ok taken_as_zero) s.dropped
      ∷ made (withdrawal s.other_rule) (Ok tt) s.one
      ∷ []

  -- The fourth: the routes change between two calls, and the one rule, judged by those of its last call, is gone; the other, which was judged
  -- by the routes of its own, stays.
  abbrev pub rerouted : List Made
  rerouted =
      made (announcement s.policy owned) (Ok taken_as_zero) s.one
      ∷ made (announcement s.policy marked) (Ok 0) s.both
      ∷ made (announcement unrouted owned) (Err Infeasible) s.another
      ∷ []
