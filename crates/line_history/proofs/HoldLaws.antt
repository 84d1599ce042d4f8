-- **Demand 3 for the program**: after any input, route lines anywhere, its table holds exactly the rules whose last counted call was a feasible
-- announcement, by the routes in use at that line, each with that call's actions, once, in precedence order (`input-holds`); and each line
-- that makes a call prints the answer of that call (`calls-printed`). Assumes nothing.
use mathlib.Core.Path.{◌≡◌, refl, sym, ap, subst, ◌∙◌}
use mathlib.Core.List.{List, [], ◌∷◌}
use Prim.Native.Nat.{ℕ, ◌≤◌}
use native.Mathlib.Omega.{arith}
use lib.ListN.{take}
use Rattle.octets.specs.Test.{Each}
use Rattle.octets.proofs.Cases.{by-test, apart}
use Rattle.rule.specs.Family.{ipv4}
use Rattle.table.specs.Sound.{most_octets}
use Rattle.request.specs.Input.{origin_of, announcement_of, policy_of}
use Rattle.line.specs.Line.{Line, route, announce, withdraw, list, other, line_of}
use Rattle.line.proofs.SaidLaws.{announced-could}
use Rattle.lines.specs.Serve.{Serving, route_fits, setting_off, served_as, served}
use Rattle.answers.specs.Answer.{change_text}
use Rattle.lines.specs.Input.{State, line_text, program_octets, first_state, lines_of, after_line, after_lines, left_by}
use Rattle.history.specs.History.{Call, announcement, withdrawal, answer_told, CanBe, EachCanBe, Happened, end_of, outcome_of, history_of, empty_table, FromEmpty, HoldsExactly}
use Rattle.history.proofs.HistoryLaws.{history-holds}
use Rattle.history.proofs.Happens.{end-append, given-append, happened-append, happens, each-given}
use Rattle.line_history.specs.Calls.{calls_of, made_by}

-- the calls that a line makes are what a history says they are given
line-given : (state : State) (line : List ℕ) → Each CanBe (calls_of state (line_of line))
line-given state line =
    go (line_of line) refl
  where
    go : (l : Line) → line_of line ≡ l → Each CanBe (calls_of state l)
    go (announce rule originator communities) e = (announced-could line rule originator communities e, tt)
    go (withdraw rule) e = (tt, tt)
    go (route address size originator neighbour) e = tt
    go list e = tt
    go other e = tt

-- **a line leaves the table that its calls leave**, and so one that makes none leaves it as it was
pub line-left : (state : State) (line : List ℕ) → end_of state.table (history_of ipv4 state.table (calls_of state (line_of line))) ≡ (after_line state line).table
unfolding after_line served
line-left state line =
    go (line_of line) refl
  where
    go : (l : Line) → line_of line ≡ l → end_of state.table (history_of ipv4 state.table (calls_of state (line_of line))) ≡ (after_line state line).table
    go (announce rule originator communities) e = rw e
    go (withdraw rule) e = rw e
    go (route address size originator neighbour) e = rw e (by-test (route_fits state.used state.routes) (λ h. rw h) (λ h. rw h))
    go list e = rw e
    go other e = rw e

-- any lines, from any state
made-given : (state : State) (lines : List (List ℕ)) → EachCanBe (made_by state lines)
made-given state [] = tt
made-given state (line ∷ lines) =
    given-append (history_of ipv4 state.table (calls_of state (line_of line))) (made_by (after_line state line) lines)
    (each-given ipv4 (calls_of state (line_of line)) state.table (line-given state line)) (made-given (after_line state line) lines)

made-happened : (state : State) (lines : List (List ℕ)) → Happened ipv4 state.table (made_by state lines)
made-happened state [] = tt
made-happened state (line ∷ lines) =
    let first = history_of ipv4 state.table (calls_of state (line_of line)) in
    let rest = made_by (after_line state line) lines in
    happened-append ipv4 first rest state.table (happens ipv4 (calls_of state (line_of line)) state.table)
    (subst (λ t. Happened ipv4 t rest) (sym (line-left state line)) (made-happened (after_line state line) lines))

made-left : (state : State) (lines : List (List ℕ)) → end_of state.table (made_by state lines) ≡ (after_lines state lines).table
unfolding after_lines
made-left state [] = refl
made-left state (line ∷ lines) =
    let first = history_of ipv4 state.table (calls_of state (line_of line)) in
    let rest = made_by (after_line state line) lines in
    end-append state.table first rest ∙ ap (λ (t : List ℕ). end_of t rest) (line-left state line) ∙ made-left (after_line state line) lines

-- **after any lines the table holds exactly what is in force**
pub lines-hold : (n : ℕ) → n ≤ most_octets → (state : State) → state.table ≡ empty_table n → (lines : List (List ℕ))
    → HoldsExactly ipv4 n (made_by state lines) (after_lines state lines).table
lines-hold n fits state empty lines =
    let from : FromEmpty ipv4 n (made_by state lines) = record { fits = fits; given = made-given state lines; happened = subst (λ t. Happened ipv4 t (made_by state lines)) empty (made-happened state lines) } in
    subst (λ t. HoldsExactly ipv4 n (made_by state lines) t) (ap (λ (t : List ℕ). end_of t (made_by state lines)) (sym empty) ∙ made-left state lines)
    (history-holds ipv4 n (made_by state lines) from)

-- **so of the program, after any input**
pub input-holds : (input : List ℕ) → HoldsExactly ipv4 program_octets (made_by (first_state program_octets) (lines_of input)) (left_by program_octets input).table
unfolding first_state
input-holds input = lines-hold program_octets (omega arith) (first_state program_octets) refl (lines_of input)

-- a line prints the answer of a call that is made in its state
abbrev Prints : State → List ℕ → Call → Type 0
Prints state line call = line_text state line ≡ change_text (answer_told call (outcome_of ipv4 call state.table).answer)

-- what a line says is served
says : (state : State) (line : List ℕ) (l : Line) → line_of line ≡ l
    → served line state.used state.routes state.table ≡ served_as l state.used state.routes state.table
unfolding served
says state line l e = rw e

-- **a line that makes a call prints the answer of that call**
pub calls-printed : (state : State) (line : List ℕ) (call : Call) → calls_of state (line_of line) ≡ call ∷ [] → Prints state line call
calls-printed state line call is =
    go (line_of line) refl is
  where
    go : (l : Line) → line_of line ≡ l → calls_of state l ≡ call ∷ [] → Prints state line call
    go (announce rule originator communities) e made =
        let same : announcement (policy_of (take state.used state.routes) setting_off) (announcement_of rule (origin_of originator) communities) ≡ call = cc in
        subst (Prints state line) same (ap (λ (o : Serving). o.text) (says state line _ e))
    go (withdraw rule) e made =
        let same : withdrawal rule ≡ call = cc in
        subst (Prints state line) same (ap (λ (o : Serving). o.text) (says state line _ e))
    go (route address size originator neighbour) e made = apart (cc)
    go list e made = apart (cc)
    go other e made = apart (cc)
