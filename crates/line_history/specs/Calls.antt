-- What lines do to the program's table, as a history of calls at the door (crate history): an announce line and a withdraw line make one
-- call each, and any other line makes none. A route line may stand anywhere; it changes the routes that the announcements behind it are
-- lent, and no announcement before it.
use Rattle.std.specs.Prelude.{List, [], ◌∷◌, ◌++◌, ℕ, take}
use Rattle.rule.specs.Family.{ipv4}
use Rattle.request.specs.Input.{origin_of, announcement_of, policy_of}
use Rattle.line.specs.Line.{Line, route, announce, withdraw, list, other, line_of}
use Rattle.lines.specs.Serve.{setting_off}
use Rattle.lines.specs.Input.{State, after_line}
use Rattle.history.specs.History.{Call, announcement, withdrawal, Made, history_of}

-- The calls that a line makes: an announcement is lent the routes in use at that line, and the setting is off.
abbrev pub calls_of : State → Line → List Call
calls_of state (announce rule originator communities) =
    announcement (policy_of (take state.used state.routes) setting_off) (announcement_of rule (origin_of originator) communities) ∷ []
calls_of state (withdraw rule) = withdrawal rule ∷ []
calls_of state (route address size originator neighbour) = []
calls_of state list = []
calls_of state other = []

-- The history of the calls that lines make one after the other, from a state on.
abbrev pub made_by : State → List (List ℕ) → List Made
made_by state [] = []
made_by state (line ∷ lines) = history_of ipv4 state.table (calls_of state (line_of line)) ++ made_by (after_line state line) lines
