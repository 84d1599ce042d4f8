-- A rule as the table holds it, and which rules with actions it could hold.
use Rattle.std.specs.Prelude.{ℕ, ◌^◌, Bool, true, false, ◌&&◌, List, ltb, Result, Ok, Err}
use Rattle.octets.specs.Test.{same_list}
use Rattle.rule.specs.declared.Family.{Family}
use Rattle.rule.specs.declared.Refusal.{Refusal}
use Rattle.rule.specs.Value.{check_value}
use Rattle.spelling.specs.Plain.{plain}
use Rattle.order.specs.Key.{RuleKey, keys_of}
use Rattle.route.specs.declared.Origin.{Origin}
use Rattle.action.specs.declared.Actions.{Actions}
use Rattle.action.specs.Possible.{could_be}
use Rattle.entry.specs.declared.Head.{Head}

-- The origin and the actions of the announcement, and the rule's value in its plain spelling.
pub record Entry : Type 0 where
  pub origin : Origin
  pub actions : Actions
  pub value : List ℕ

-- The entry of a rule, by its plain value, that an announcement's origin and actions head.
abbrev pub entry_for : Head → List ℕ → Entry
entry_for head v = record { origin = head.origin; actions = head.actions; value = v }

-- Entries stand in precedence order, which is the order of these keys (RFC 8955 section 5.1).
abbrev pub entry_key : Family → Entry → RuleKey
entry_key family e = keys_of family e.value

-- Whether the check of a value ended in no refusal.
abbrev pub is_accepted : Result Unit Refusal → Bool
is_accepted (Ok _) = true
is_accepted (Err refusal) = false

-- A value that the table may hold: accepted, and in its plain spelling.
unfoldable pub plain_value : Family → List ℕ → Bool
plain_value family v = is_accepted (check_value family v) && same_list (plain family v) v

-- 01: "accepted plain rules and actions": an originator of 32 bits, actions that some communities give, and an accepted plain value.
unfoldable pub possible : Family → Entry → Bool
possible family e = ltb e.origin.originator (2 ^ 32) && (could_be e.actions && plain_value family e.value)
