-- A task done for the rules of an attribute one after the other: what the rules that remain leave completes what all leave. Assumes nothing.
use mathlib.Core.Path.{◌≡◌, refl, sym, ap, ap₂, ◌∙◌}
use mathlib.Core.List.{List, [], ◌∷◌, ◌++◌, append-nil}
use Prim.Native.Nat.{ℕ, ◌+◌, ◌<◌, ◌≤◌}
use native.Mathlib.Omega.{arith}
use native.Mathlib.Numerals.{add-one}
use lib.ListN.{length, take, drop, set, length-set, take-append-drop}
use lib.Seq.{length-take-le, append_snoc, take-suc-set, drop-set-lt, drop-drop}
use Rattle.std.proofs.Common.{Result, Ok, Err, Option, Some, None}
use Rattle.octets.specs.Walk.{Walk, before}
use Rattle.octets.proofs.Cases.{apart}
use Rattle.octets.proofs.Facts.{Octets}
use Rattle.rule.specs.declared.Family.{Family}
use Rattle.rule.specs.Value.{between}
use Rattle.rule.specs.declared.Refusal.{Refusal}
use Rattle.rule.specs.Refusal.{told_number}
use Rattle.rule.proofs.ComponentsLaws.{octets-between}
use Rattle.table.specs.declared.Answer.{Answer}
use Rattle.table.specs.Change.{Changed, outcome_of, Ready, Leaves}
use Rattle.table.proofs.LeaveLaws.{changed-ready, leaves-ready}
use Rattle.attribute.specs.Rules.{rule_at, rules_from, rule_place}
use Rattle.attribute.specs.declared.RulePlace.{RulePlace}
use Rattle.attribute.proofs.RulesLaws.{RuleThere, rules-end, rules-refused, rules-next, rule-there}
use Rattle.update.specs.declared.Task.{Task}
use Rattle.update.specs.Singles.{Singles, each_rule}
use Rattle.update.specs.Steps.{rule_asks, rule_change, rule_call, tasks_from, Prepared, LeavesAll}
use Rattle.update.proofs.StepLaws.{task-brings}

-- what the code finds at a place, with the family as it is chosen
module _ (family chosen : Family) (chose : chosen ≡ family) (a : List ℕ) (at : ℕ) (next : Result (Option RulePlace) Refusal) (is : next ≡ rule_at chosen a at) where
  stands : (found : Result (Option RulePlace) Refusal) → next ≡ found → rule_at family a at ≡ found
  stands found e = ap (λ (f : Family). rule_at f a at) (sym chose) ∙ sym is ∙ e

  pub rule_found : (start end : ℕ) → next ≡ Ok (Some (rule_place start end)) → RuleThere family a at start end
  rule_found start end e = rule-there family a at start end (stands (Ok (Some (rule_place start end))) e)

-- what the rules from a place on leave, by what stands there
module _ (family : Family) (routes : List ℕ) (task : Task) (a : List ℕ) (at : ℕ) (t : List ℕ) where
  abbrev left_by : Walk (List ℕ) (Result Unit Refusal) → Singles
  left_by rules = each_rule (rule_call family routes task) rules.items t

  pub tasks-end : rule_at family a at ≡ Ok None → tasks_from family routes task a at t ≡ record { numbers = []; table = t }
  tasks-end e = ap left_by (rules-end family a at e)

  module _ (start end : ℕ) (another : rule_at family a at ≡ Ok (Some (rule_place start end))) where
    -- that of a rule answered with a number, which leaves a table, and of the rules behind it
    abbrev onward : ℕ → List ℕ → Singles
    onward number u = let rest = tasks_from family routes task a end u in record { numbers = number ∷ rest.numbers; table = rest.table }

    abbrev changing : Changed → Singles
    changing c = onward (told_number (outcome_of c.number)) c.table

    pub tasks-next : (answer : Answer) (exit : List ℕ) → Leaves (rule_change family routes task (between a start end) t) answer exit
        → (number : ℕ) → number ≡ told_number answer.outcome → tasks_from family routes task a at t ≡ onward number exit
    tasks-next answer exit left number tells =
        let c = rule_change family routes task (between a start end) t in
        ap left_by (rules-next family a at start end another)
        ∙ ap (λ (v : List ℕ). changing (rule_change family routes task v t)) (rule-there family a at start end another).value
        ∙ ap₂ onward (sym (tells ∙ ap told_number left.outcome)) (sym left.table)

-- a task done for the rules before a place: the table is ready for the next, all that remain are accepted and have an answer word each, and
-- what they leave completes what all leave; `first` and `buffer` are the table and the answer words as they were lent
pub record Applying (family : Family) (routes : List ℕ) (task : Task) (a : List ℕ) (from : ℕ) (first buffer t answers : List ℕ) (at taken count : ℕ) : Type 0 where
  pub ready : Ready family t taken
  pub accepted : (rules_from family a at).ending ≡ Ok tt
  pub enough : count + length (rules_from family a at).items ≤ length answers
  pub long : length t ≡ length first
  pub words : length answers ≡ length buffer
  pub leaves : (tasks_from family routes task a from first).table ≡ (tasks_from family routes task a at t).table
  pub lists : (tasks_from family routes task a from first).numbers ≡ take count answers ++ (tasks_from family routes task a at t).numbers
  pub rest : drop count answers ≡ drop count buffer

-- how `apply_rules` goes on and comes to what it leaves
module _ (family : Family) (routes : List ℕ) (task : Task) (a : List ℕ) (from : ℕ) (first buffer : List ℕ) (used : ℕ)
    (prepared : Prepared family task a from first used (length buffer)) where
  pub apply-starts : Applying family routes task a from first buffer first buffer from used 0
  apply-starts =
      let enough = prepared.enough in
      record {
        ready = prepared.ready;
        accepted = prepared.accepted;
        enough = omega arith;
        long = refl;
        words = refl;
        leaves = refl;
        lists = refl;
        rest = refl;
      }

  module _ (t answers : List ℕ) (at taken count : ℕ) (so_far : Applying family routes task a from first buffer t answers at taken count)
      (chosen : Family) (chose : chosen ≡ family) (next : Result (Option RulePlace) Refusal) (is : next ≡ rule_at chosen a at) where
    abbrev all : Singles
    all = tasks_from family routes task a from first

    pub apply-done : next ≡ Ok None → LeavesAll all buffer t answers
    apply-done e =
        let none = tasks-end family routes task a at t (stands family chosen chose a at next is (Ok None) e) in
        let enough = so_far.enough in
        let numbers : all.numbers ≡ take count answers
        = so_far.lists ∙ ap (λ (s : Singles). take count answers ++ s.numbers) none ∙ append-nil (take count answers) in
        let many : length all.numbers ≡ count = ap length numbers ∙ length-take-le count answers (omega arith) in
        record {
          leaves = sym (so_far.leaves ∙ ap (λ (s : Singles). s.table) none);
          lists =
              sym (take-append-drop count answers)
              ∙ ap₂ (λ (x y : List ℕ). x ++ y) (sym numbers) (so_far.rest ∙ ap (λ n. drop n buffer) (sym many));
        }

    pub apply-never : (refusal : Refusal) → next ≡ Err refusal → LeavesAll all buffer t answers
    apply-never refusal e =
        let none = rules-refused family a at refusal (stands family chosen chose a at next is (Err refusal) e) in
        let z : Err refusal ≡ (Ok tt) = sym (ap (λ (w : Walk (List ℕ) (Result Unit Refusal)). w.ending) none) ∙ so_far.accepted in
        apart (cc)

    module _ (start end : ℕ) (another : next ≡ Ok (Some (rule_place start end))) where
      here : rule_at family a at ≡ Ok (Some (rule_place start end))
      here = stands family chosen chose a at next is (Ok (Some (rule_place start end))) another

      one_more : rules_from family a at ≡ before (between a at end) (rules_from family a end)
      one_more = rules-next family a at start end here

      pub apply-word : count < length answers
      apply-word = omega (arith, ap (λ (w : Walk (List ℕ) (Result Unit Refusal)). length w.items) one_more, so_far.enough)

      pub apply-on : Octets a → (answer : Answer) (exit : List ℕ)
          → Leaves (rule_change family routes task (between a start end) t) answer exit
          → length exit ≡ length t → (number : ℕ) → number ≡ told_number answer.outcome
          → Applying family routes task a from first buffer exit (set answers count number) end answer.used (count + 1)
      apply-on o answer exit left same number tells =
          let ok = (rule-there family a at start end here).accepted in
          let items = ap (λ (w : Walk (List ℕ) (Result Unit Refusal)). length w.items) one_more in
          let set_long = length-set answers count number in
          let enough = so_far.enough in
          let next-is = tasks-next family routes task a at t start end here answer exit left number tells in
          let others = (tasks_from family routes task a end exit).numbers in
          record {
            ready =
                leaves-ready family (rule_change family routes task (between a start end) t) answer exit
                (changed-ready family t taken so_far.ready (rule_asks family routes task (between a start end))
                (task-brings family routes task (between a start end) prepared.could (octets-between a start end o) ok))
                left;
            accepted = sym (ap (λ (w : Walk (List ℕ) (Result Unit Refusal)). w.ending) one_more) ∙ so_far.accepted;
            enough = omega arith;
            long = same ∙ so_far.long;
            words = set_long ∙ so_far.words;
            leaves = so_far.leaves ∙ ap (λ (s : Singles). s.table) next-is;
            lists =
                so_far.lists ∙ ap (λ (s : Singles). take count answers ++ s.numbers) next-is
                ∙ sym (append_snoc (take count answers) number others)
                ∙ ap (λ (s : List ℕ). s ++ others)
                (sym (ap (λ n. take n (set answers count number)) (add-one count) ∙ take-suc-set answers count number (omega arith)));
            rest =
                drop-set-lt (count + 1) answers count number (omega arith) ∙ sym (drop-drop 1 count answers)
                ∙ ap (drop 1) so_far.rest ∙ drop-drop 1 count buffer;
          }
