-- Going down a table to count its records and to print them: what was done and what is left give the whole. Assumes nothing.
use mathlib.Core.Path.{◌≡◌, refl, ap, sym, ◌∙◌}
use mathlib.Core.Bool.{Bool, true, false}
use mathlib.Core.List.{List, [], ◌∷◌, ◌++◌}
use Prim.Native.Nat.{ℕ, ◌+◌, ◌-◌, ◌*◌, ◌/◌, ◌≤◌}
use native.Mathlib.Omega.{arith}
use native.Mathlib.Nat.{add-zero}
use lib.Dec.{leb}
use lib.ListN.{length, length-append}
use borrow.Author.Tests.{leb-true}
use Rattle.octets.proofs.Cases.{by-test, apart}
use Rattle.octets.specs.Walk.{Walk, before}
use Rattle.rule.specs.declared.Family.{Family}
use Rattle.rule.specs.declared.Refusal.{Refusal}
use Rattle.rule.specs.declared.Refusal.TheVariants.{UnsoundTable}
use Rattle.rule.specs.Refusal.{number_of, place_of}
use Rattle.rule.specs.Value.{between}
use Rattle.table.proofs.LeaveLaws.{was-sound}
use Rattle.rule.specs.Family.{ipv4}
use Rattle.table.specs.Walk.{record_at, records_from, records}
use Rattle.table.specs.Sound.{most_octets, sound_table, soundness}
use Rattle.table.proofs.WalkLaws.{was-found, records-more, records-end, records-unsound, records-ind}
use Rattle.table.proofs.EntryLaws.{length-there}
use Rattle.text.specs.Spelling.{quoted}
use Rattle.text.specs.Hex.{hex_of}
use Rattle.text.specs.Print.{laid, Printed}
use Rattle.text.proofs.HexLaws.{length-hex_of}
use Rattle.text.proofs.PrintLaws.{laid-append, laid_none, length-laid}
use Rattle.answers.specs.Answer.{answer_text, count_text, rule_text, rules_text, list_text, most_answer, least_record, most_text}
use Rattle.answers.proofs.PrintLaws.{printed-then, count-short}
use Rattle.std.proofs.Common.{Result, Ok, Err, Option, Some, None}

-- the records from a place on
abbrev pub records_left : List ℕ → ℕ → List (List ℕ)
records_left t at = (records_from t at).items

-- how the records go on, and how they end
module _ (t : List ℕ) (at : ℕ) where
  pub left-more : (next : ℕ) → record_at t at ≡ Ok (Some next) → records_left t at ≡ between t at next ∷ records_left t next
  left-more next e = ap (λ w. w.items) (records-more t at next e)

  -- what is found there is no record
  pub left-none : (found : Result (Option ℕ) Refusal) → found ≡ record_at t at → ((next : ℕ) → found ≡ Ok (Some next) → ⊥) → records_left t at ≡ []
  left-none (Ok None) e h = ap (λ w. w.items) (records-end t at (sym e))
  left-none (Err refusal) e h = ap (λ w. w.items) (records-unsound t at refusal (sym e))
  left-none (Ok (Some next)) e h = absurd (h next refl)

  -- so where nothing is found, and where it is unsound
  pub left-end : (result : Result (Option ℕ) Refusal) → result ≡ record_at t at → (found : Option ℕ) → result ≡ Ok found → found ≡ None → records_left t at ≡ []
  left-end result is found e n = left-none result is (λ next some. apart (cc))

  pub left-unsound : (result : Result (Option ℕ) Refusal) → result ≡ record_at t at → (refusal : Refusal) → result ≡ Err refusal → records_left t at ≡ []
  left-unsound result is refusal e = left-none result is (λ next some. apart (cc))

-- so many records are counted, and those from a place on are left
pub record Counting (t : List ℕ) (at count : ℕ) : Type 0 where
  pub within : at ≤ length t
  pub few : count ≤ at
  pub is : length (records t) ≡ count + length (records_left t at)

pub count-starts : (t : List ℕ) → Counting t 0 0
unfolding records
count-starts t = record { within = omega arith; few = omega arith; is = sym (omega arith) }

module _ (t : List ℕ) (at count : ℕ) (counting : Counting t at count) where
  pub count-done : records_left t at ≡ [] → (count ≡ length (records t)) × (count ≤ length t)
  count-done e = let few = counting.few in let within = counting.within in (sym (counting.is ∙ rw e (add-zero count)), omega arith)

  pub count-more : (next : ℕ) → record_at t at ≡ Ok (Some next) → Counting t next (count + 1)
  count-more next e =
      let f = was-found t at next e in
      let i = counting.is in
      record {
        within = omega (arith, f.size, f.within, counting.within);
        few = omega (arith, f.size, counting.few);
        is = i ∙ rw (left-more t at next e) (omega arith);
      }

-- how long a record's line is
pub length-rule : (held : List ℕ) → length (rule_text held) ≡ 2 * length held + 6
unfolding rule_text
length-rule held = rw (length-append (hex_of held) (quoted "\n"), length-hex_of held) (omega arith)

-- how many records a table has at most, and how long their lines are
abbrev Short : List ℕ → ℕ → Walk (List ℕ) Bool → Type 0
Short t at w =
    at ≤ length t → (least_record * length w.items ≤ length t - at) × (length (rules_text w.items) ≤ 2 * (length t - at) + 6 * length w.items)

records-short : (t : List ℕ) → Short t 0 (records_from t 0)
unfolding rules_text
records-short t = records-ind t (Short t) (λ at e h. (omega arith, omega arith)) (λ at e h. (omega arith, omega arith)) more 0
  where
    more : (at next : ℕ) (w : Walk (List ℕ) Bool) → record_at t at ≡ Ok (Some next) → Short t next w → Short t at (before (between t at next) w)
    more at next w e rest h =
        let f = was-found t at next e in
        let size = f.size in
        let within = f.within in
        let some = f.some in
        let k = rest (omega arith) in
        let there = length-there t at next e in
        let long = length-rule (between t at next) in
        (omega arith, rw (length-append (rule_text (between t at next)) (rules_text w.items)) (omega arith))

rules-short : (t : List ℕ) → (length (records t) ≤ length t) × (length (rules_text (records t)) ≤ 2 * length t + 6 * (length t / least_record))
unfolding records
rules-short t = let k = records-short t (omega arith) in (omega arith, omega arith)

-- some records are printed, and those from a place on are left
pub record Printing (t out : List ℕ) (at place : ℕ) (now : List ℕ) (end : ℕ) : Type 0 where
  pub within : place ≤ length t
  pub kept : length now ≡ length out
  pub leaves : laid out at (rules_text (records t)) ≡ laid now end (rules_text (records_left t place))
  pub counts : at + length (rules_text (records t)) ≡ end + length (rules_text (records_left t place))

pub print-starts : (t out : List ℕ) (at : ℕ) → Printing t out at 0 out at
unfolding records
print-starts t out at = record { within = omega arith; kept = refl; leaves = refl; counts = refl }

module _ (t out : List ℕ) (at place : ℕ) (now : List ℕ) (end : ℕ) (printing : Printing t out at place now end) where
  pub print-done : records_left t place ≡ [] → Printed out at (rules_text (records t)) now end
  unfolding rules_text
  print-done e =
      (sym (printing.leaves ∙ rw e (laid_none now end)), sym (printing.counts ∙ rw e (add-zero end)))

  -- what is printed of a list that fits is no longer than the longest
  pub print-within : length t ≤ most_octets → at ≤ most_answer → end ≤ most_text most_octets
  print-within h k = let counts = printing.counts in omega (arith, rules-short t)

  pub print-more : (next : ℕ) → record_at t place ≡ Ok (Some next) → (then : List ℕ) (stop : ℕ) → Printed now end (rule_text (between t place next)) then stop
      → Printing t out at next then stop
  unfolding rules_text
  print-more next e then stop p =
      let f = was-found t place next e in
      let size = f.size in
      let within = f.within in
      let more = left-more t place next e in
      let text : List ℕ = rule_text (between t place next) in
      let rest : List ℕ = rules_text (records_left t next) in
      record {
        within = omega (arith, printing.within);
        kept = rw p.0 (length-laid now end text ∙ printing.kept);
        leaves = printing.leaves ∙ rw (more, p.0, p.1) (laid-append now end text rest);
        counts = printing.counts ∙ rw (more, p.1, length-append text rest) (omega arith);
      }

-- a list: the line of its count, and those of the records
list-fits : (t : List ℕ) → length t ≤ most_octets → length (count_text (length (records t)) ++ rules_text (records t)) ≤ most_text (length t)
list-fits t h =
    let k = rules-short t in
    rw (length-append (count_text (length (records t))) (rules_text (records t))) (omega (arith, count-short (length (records t)) (omega arith)))

-- the table's text: a count and the records, or the answer for an unsound table
module _ (t : List ℕ) (family : Family) (four : family ≡ ipv4) (sound : Result ℕ Refusal) (told : sound ≡ soundness family t) where
  is : sound ≡ soundness ipv4 t
  is = rw four at told

  pub list-unsound : (refusal : Refusal) → sound ≡ Err refusal → list_text t ≡ answer_text (number_of refusal) (place_of refusal)
  unfolding list_text soundness
  list-unsound refusal e =
      let found : Err refusal ≡ soundness ipv4 t = sym e ∙ is in
      by-test (sound_table ipv4 t) (λ h. let z = rw h at found in apart (cc))
      (λ h. let z = rw h at found in let r : UnsoundTable ≡ refusal = cc in rw (h, ← r))

  pub list-sound : (used : ℕ) → sound ≡ Ok used → (count : ℕ) → count ≡ length (records t) → (out middle : List ℕ) (start : ℕ) → Printed out 0 (count_text count) middle start
      → (exit : List ℕ) (next : ℕ) → Printed middle start (rules_text (records t)) exit next → Printed out 0 (list_text t) exit next
  unfolding list_text
  list-sound used e count c out middle start p exit next q = rw ((was-sound ipv4 t sound is used e).0, ← c) (printed-then _ _ _ _ _ _ _ _ p q)

  pub list-short : (used : ℕ) → sound ≡ Ok used → length t ≤ most_octets
  unfolding sound_table
  list-short used e =
      let z = (was-sound ipv4 t sound is used e).0 in
      by-test (leb (length t) most_octets) (λ h. leb-true (length t) most_octets h) (λ h. let f : false ≡ true = rw h at z in apart (cc))

  pub list-within : (used : ℕ) → sound ≡ Ok used → length (list_text t) ≤ most_text (length t)
  unfolding list_text
  list-within used e = rw (was-sound ipv4 t sound is used e).0 (list-fits t (list-short used e))
