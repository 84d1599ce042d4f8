-- What an announcement asks of a table, once its rule is read, its actions are read and it is judged; and the entry that it asks for.
use Rattle.std.specs.Prelude.{ℕ, Bool, Result, Ok, Err, Option, Some, None}
use Rattle.rule.specs.declared.Family.{Family}
use Rattle.rule.specs.Reading.{value_of}
use Rattle.rule.specs.declared.Refusal.{Refusal}
use Rattle.rule.specs.declared.Refusal.TheVariants.{UnsoundActions}
use Rattle.rule.specs.declared.Span.{Span}
use Rattle.spelling.specs.Plain.{plain}
use Rattle.action.specs.declared.Actions.{Actions}
use Rattle.action.specs.Actions.{actions_of}
use Rattle.entry.specs.Entry.{Entry, entry_for}
use Rattle.request.specs.Input.{Announcement, Policy}
use Rattle.request.specs.Judging.{read_with_routes, is_feasible}
use Rattle.request.specs.declared.Request.{Request}

-- What an announcement asks of a table, by where its rule's value starts and its size, its actions, and whether it is feasible.
abbrev pub request : ℕ → ℕ → Actions → Bool → Request
request start size actions feasible = record { start = start; size = size; actions = actions; feasible = feasible }

-- What an announcement asks: a rule that is refused is refused so, then unsound actions are 13, then the rule is judged.
abbrev pub request_for : Family → Policy → Announcement → Result Span Refusal → Option Actions → Result Request Refusal
request_for family policy a (Err refusal) actions = Err refusal
request_for family policy a (Ok read) None = Err UnsoundActions
request_for family policy a (Ok read) (Some actions) =
    Ok (request read.start read.size actions (is_feasible family policy (value_of a.rule read.start read.size) a.origin))

-- What an announcement asks of a table: its rule is read once the routes are found sound (9).
unfoldable pub request_of : Family → Policy → Announcement → Result Request Refusal
request_of family policy a = request_for family policy a (read_with_routes family policy.routes a.rule) (actions_of a.communities)

-- The entry that an announcement asks for, once its rule and its actions are read: its origin and actions, and the rule's value in its
-- plain spelling.
abbrev pub announced_entry : Family → Announcement → ℕ → ℕ → Actions → Entry
announced_entry family a start size actions =
    entry_for (record { origin = a.origin; actions = actions }) (plain family (value_of a.rule start size))
