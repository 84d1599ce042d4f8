-- What serving a line prints and leaves. The routes stand in a buffer of words, four a route, of which the first `used` are in use.
use Rattle.std.specs.Prelude.{ℕ, ◌+◌, ◌*◌, ◌≤◌, ◌≡◌, Bool, false, cond, ◌&&◌, List, [], ◌∷◌, leb, length, take}
use Rattle.octets.specs.Store.{stored}
use Rattle.rule.specs.Family.{ipv4}
use Rattle.route.specs.declared.Settings.{Settings}
use Rattle.route.specs.Route.{most_routes}
use Rattle.request.specs.Input.{settings_of, origin_of, announcement_of, policy_of}
use Rattle.flowspec.specs.Announce.{announcing, withdrawing, Outcome}
use Rattle.flowspec.specs.Told.{Told, announced_told, withdrawn_told}
use Rattle.text.specs.Print.{laid}
use Rattle.lines.specs.declared.Served.{Served}
use Rattle.line.specs.Line.{Line, route, announce, withdraw, list, other, line_of}
use Rattle.answers.specs.Answer.{unknown_text, change_text, list_text, most_answer, Answered}

-- What serving a line leaves: the text that it prints, how many words of the routes' buffer are in use, that buffer's words, and the table.
pub record Serving : Type 0 where
  pub text : List ℕ
  pub used : ℕ
  pub routes : List ℕ
  pub table : List ℕ

-- 01: "at most 4,096 routes", in words.
abbrev pub most_words : ℕ
most_words = most_routes * ipv4.words

-- There is room for a route behind the words in use: it is not past the 4,096, nor past the buffer's end.
abbrev pub route_fits : ℕ → List ℕ → Bool
route_fits used routes = leb (used + ipv4.words) most_words && leb (used + ipv4.words) (length routes)

-- A line that prints a text and changes nothing.
abbrev pub printing : List ℕ → ℕ → List ℕ → List ℕ → Serving
printing text used routes table = record { text = text; used = used; routes = routes; table = table }

-- A line that changes the table alone, and prints the call's answer, by what that tells.
abbrev pub changing : {A : Type 0} → (A → Told) → Outcome A → ℕ → List ℕ → Serving
changing tells changed used routes =
    record { text = change_text (tells changed.answer); used = used; routes = routes; table = changed.table }

-- 01: "A route line adds to the list and prints nothing"; "a route past 4,096 prints `answer\t?`". Whether the routes are sound is judged
-- by the announcements that follow.
abbrev pub adding : List ℕ → ℕ → List ℕ → List ℕ → Serving
adding words used routes table =
    cond (route_fits used routes)
    (record { text = []; used = used + ipv4.words; routes = stored routes used words; table = table })
    (printing unknown_text used routes table)

-- 01: "the setting is off": a rule with no destination is infeasible.
abbrev pub setting_off : Settings
setting_off = settings_of false

-- What a line says is done. The routes in use are all words where `used` passes the buffer's end.
abbrev pub served_as : Line → ℕ → List ℕ → List ℕ → Serving
served_as (route address size originator neighbour) used routes table = adding (address ∷ size ∷ originator ∷ neighbour ∷ []) used routes table
served_as (announce rule originator communities) used routes table =
    changing announced_told (announcing ipv4 (policy_of (take used routes) setting_off) (announcement_of rule (origin_of originator) communities) table) used routes
served_as (withdraw rule) used routes table = changing withdrawn_told (withdrawing ipv4 rule table) used routes
served_as list used routes table = printing (list_text table) used routes table
served_as other used routes table = printing unknown_text used routes table

-- What serving a line leaves.
unfoldable pub served : List ℕ → ℕ → List ℕ → List ℕ → Serving
served line used routes table = served_as (line_of line) used routes table

-- The answer for what serving leaves: how long its text is, which may be longer than the buffer that it is printed into, and the words in
-- use.
abbrev pub served_told : Serving → Served
served_told serving = record { printed = length serving.text; used = serving.used }

-- How the code holds what a line that changes the table leaves, which no promise names: the table, and the printed text.
pub record Changes {A : Type 0} (tells : A → Told) (changed : Outcome A) (out : List ℕ) (printed : ℕ) (table_exit out_exit : List ℕ) : Type 0 where
  pub leaves : table_exit ≡ changed.table
  pub prints : Answered most_answer out (change_text (tells changed.answer)) out_exit printed

-- How the code holds what a route line leaves, which no promise names: the routes, the printed text, and the answer. The table, which it
-- leaves alone, is not lent to it.
pub record Adds (added : Serving) (out : List ℕ) (answer : Served) (routes_exit out_exit : List ℕ) : Type 0 where
  pub is : answer ≡ served_told added
  pub leaves : routes_exit ≡ added.routes
  pub prints : out_exit ≡ laid out 0 added.text
  pub short : answer.printed ≤ most_answer
