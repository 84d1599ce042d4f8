-- The single calls that an attribute stands for: one announcement, or one withdrawal, of each of its rules, in order, each lent the octets
-- of that rule as they stand in the attribute.
use Rattle.std.specs.Prelude.{ℕ, List, [], ◌∷◌}
use Rattle.rule.specs.declared.Family.{Family}
use Rattle.route.specs.declared.Origin.{Origin}
use Rattle.request.specs.Input.{Announcement, Policy, announcement_of}
use Rattle.flowspec.specs.Announce.{Outcome, announcing, withdrawing}
use Rattle.flowspec.specs.Told.{Told, announced_told, withdrawn_told}
use Rattle.attribute.specs.Rules.{reach_rules, unreach_rules}

-- A reach, with whatever octets it came: the attribute, who announces its rules, and the extended communities of their actions.
pub record Reach : Type 0 where
  pub attribute : List ℕ
  pub origin : Origin
  pub communities : List ℕ

-- A reach from the values that a call is lent one by one.
abbrev pub reach_of : List ℕ → Origin → List ℕ → Reach
reach_of attribute origin communities = record { attribute = attribute; origin = origin; communities = communities }

-- What single calls leave: the number that each is answered with, and the table's octets after the last.
pub record Singles : Type 0 where
  pub numbers : List ℕ
  pub table : List ℕ

-- What a call leaves, with its number for an answer.
abbrev pub numbered : {A : Type 0} → (A → Told) → Outcome A → Outcome ℕ
numbered tells left = record { answer = (tells left.answer).number; table = left.table }

-- One call for each rule, in order, each on the table that the call before it left.
abbrev pub each_rule : (List ℕ → List ℕ → Outcome ℕ) → List (List ℕ) → List ℕ → Singles
each_rule call [] table = record { numbers = []; table = table }
each_rule call (rule ∷ rules) table =
    let rest = each_rule call rules (call rule table).table in
    record { numbers = (call rule table).answer ∷ rest.numbers; table = rest.table }

-- The announcement of one rule of a reach.
abbrev pub announcement_in : Reach → List ℕ → Announcement
announcement_in reach rule = announcement_of rule reach.origin reach.communities

-- The announcement as a call on a table.
abbrev pub announcing_one : Family → Policy → Reach → List ℕ → List ℕ → Outcome ℕ
announcing_one family policy reach rule table = numbered announced_told (announcing family policy (announcement_in reach rule) table)

-- What the announcements of a reach leave.
abbrev pub announcing_each : Family → Policy → Reach → List ℕ → Singles
announcing_each family policy reach table =
    each_rule (announcing_one family policy reach) (reach_rules family reach.attribute).items table

-- The withdrawal of one rule of an unreach, as a call on a table.
abbrev pub withdrawing_one : Family → List ℕ → List ℕ → Outcome ℕ
withdrawing_one family rule table = numbered withdrawn_told (withdrawing family rule table)

-- What the withdrawals of an unreach leave.
abbrev pub withdrawing_each : Family → List ℕ → List ℕ → Singles
withdrawing_each family attribute table = each_rule (withdrawing_one family) (unreach_rules family attribute).items table
