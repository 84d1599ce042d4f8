-- Serving a line: a route put behind the others, and what each form of a line leaves. Assumes nothing.
use mathlib.Core.Path.{◌≡◌, refl, ap, sym, subst, ◌∙◌}
use mathlib.Core.Bool.{Bool, true, false, not}
use mathlib.Core.List.{List, [], ◌∷◌}
use Prim.Native.Nat.{ℕ, suc, ◌+◌, ◌-◌, ◌*◌, ◌<◌, ◌≤◌, min}
use native.Mathlib.Omega.{arith}
use native.Mathlib.Decide.{dec_lt}
use lib.Dec.{leb}
use lib.ListN.{length, set, take, drop}
use lib.Seq.{sets-eq, take_at, take_all, length-take-le}
use borrow.Author.Tests.{le-leb, lt-leb, leb-true, not-true, not-false}
use Rattle.octets.proofs.Cases.{by-test, apart, both}
use Rattle.rule.specs.declared.Refusal.{Refusal}
use Rattle.rule.specs.Value.{between}
use Rattle.octets.specs.Store.{stored}
use Rattle.rule.specs.Family.{ipv4}
use Rattle.route.specs.declared.Origin.{Origin}
use Rattle.request.specs.Input.{origin_of, Policy, announcement_of, policy_of}
use Rattle.flowspec.specs.Announce.{announcing, withdrawing}
use Rattle.flowspec.specs.Told.{announced_told, withdrawn_told}
use Rattle.flowspec.specs.Promise.{Announces, Withdraws}
use Rattle.text.specs.Hex.{octets_in}
use Rattle.text.specs.Print.{laid}
use Rattle.text.proofs.HexLaws.{length-octets_in}
use Rattle.text.proofs.PrintLaws.{laid-stored, length-laid, laid_none}
use Rattle.answers.specs.Answer.{unknown_text, change_text, list_text, most_answer, most_text, Answered}
use Rattle.answers.proofs.PrintLaws.{answer-fits}
use Rattle.lines.specs.declared.Served.{Served}
use Rattle.std.proofs.Common.{Option, Some, None}
use Rattle.line.specs.declared.Form.{Form}
use Rattle.line.specs.declared.Form.TheVariants.{Route, Announce, Withdraw, Listing}
use Rattle.line.specs.Line.{Line, other, line_of, most_signs}
use Rattle.line.specs.Form.{form_says, FormIn, Says}
use Rattle.lines.specs.Serve.{Serving, most_words, route_fits, printing, changing, adding, setting_off, served_as, served, Changes, Adds, served_told}
use Rattle.lines.specs.Promise.{Serves}
use Rattle.line.proofs.CutLaws.{too_long}
use Rattle.std.proofs.Common.{Result}

-- how `route_fits` comes to its answers, and what room it finds
module _ (routes : List ℕ) (used : ℕ) where
  pub fits_not : most_words - 4 < used → false ≡ route_fits used routes
  fits_not h = rw (lt-leb (used + 4) most_words (omega arith))

  pub fits-by-length : used ≤ most_words - 4 → leb (used + 4) (length routes) ≡ route_fits used routes
  fits-by-length h = rw (le-leb (used + 4) most_words (omega arith))

pub route-room : (routes : List ℕ) (used : ℕ) (fits : Bool) → fits ≡ route_fits used routes → not fits ≡ false
    → (used + 4 ≤ most_words) × (used + 4 ≤ length routes)
route-room routes used fits is t =
    let h = both (leb (used + 4) most_words) (leb (used + 4) (length routes)) (sym is ∙ not-false fits t) in
    (leb-true (used + 4) most_words h.0, leb-true (used + 4) (length routes) h.1)

-- a route line that was served
module _ (routes : List ℕ) (used address size originator neighbour : ℕ) (out : List ℕ) (fits : Bool) (is : fits ≡ route_fits used routes) where
  pub route-not-added : not fits ≡ true → (printed : ℕ) (x : List ℕ) → Answered most_answer out unknown_text x printed
      → Adds (adding (address ∷ size ∷ originator ∷ neighbour ∷ []) used routes []) out (record { printed = printed; used = used }) routes x
  route-not-added t printed x p =
      rw (sym is ∙ not-true fits t)
      (record { is = λ i. record { printed = p.1 i; used = used }; leaves = refl; prints = p.0; short = p.2 })

  pub route-added : not fits ≡ false
      → Adds (adding (address ∷ size ∷ originator ∷ neighbour ∷ []) used routes []) out (record { printed = 0; used = used + 4 })
      (set (set (set (set routes used address) (used + 1) size) (used + 2) originator) (used + 3) neighbour) out
  unfolding stored
  route-added t =
      let second : used + 1 ≡ suc used = omega arith in
      let third : used + 2 ≡ suc (suc used) = omega arith in
      let fourth : used + 3 ≡ suc (suc (suc used)) = omega arith in
      rw (sym is ∙ not-false fits t)
      (record {
        is = refl;
        leaves = rw (second, third, fourth) (sets-eq (address ∷ size ∷ originator ∷ neighbour ∷ []) routes used (route-room routes used fits is t).1);
        prints = sym (laid_none out 0);
        short = omega arith;
      })

-- and the table that it leaves alone
abbrev with-table : Serving → List ℕ → Serving
with-table o table = record { text = o.text; used = o.used; routes = o.routes; table = table }

any-table : (words : List ℕ) (used : ℕ) (routes table : List ℕ) → adding words used routes table ≡ with-table (adding words used routes []) table
any-table words used routes table = by-test (route_fits used routes) (λ e. rw e) (λ e. rw e)

-- a text that was laid into the front of a room that is long enough
pub front-is : (room exit text : List ℕ) (count : ℕ) → exit ≡ laid room 0 text → count ≡ length text → length text ≤ length room → take count exit ≡ text
unfolding stored
front-is room exit text count e n h = rw (e, n, laid-stored room 0 text (omega arith)) (take_at text (drop (0 + length text) room) (length text) refl)

-- octets that were read into such a room
module _ (room exit text : List ℕ) (count : ℕ) (reads : (exit ≡ laid room 0 (octets_in text)) × (count ≡ length (octets_in text))) (long : length text ≤ 2 * length room) where
  fits : 0 + length (octets_in text) ≤ length room
  fits = omega (arith, length-octets_in text)

  pub read-within : count ≤ length exit
  read-within = let n = reads.1 in rw (reads.0, length-laid room 0 (octets_in text)) (omega (arith, fits))

  pub read-size : count ≡ length (take count exit)
  read-size = sym (length-take-le count exit read-within)

  pub read_is : take count exit ≡ octets_in text
  read_is = front-is room exit (octets_in text) count reads.0 reads.1 (omega (arith, fits))

-- octets that a line spells were read and announced as a rule with its communities, and the answer was printed
pub announce-printed : {policy : Policy} {octets rule actions communities table out t x : List ℕ} {origin : Origin} {printed : ℕ} {answer : Result ℕ Refusal}
    {kept : List (List ℕ)} (found : Result ℕ Refusal) → octets ≡ rule → actions ≡ communities
    → Announces ipv4 policy (announcement_of octets origin actions) table answer t kept → answer ≡ found
    → Answered most_answer out (change_text (announced_told found)) x printed
    → Changes announced_told (announcing ipv4 policy (announcement_of rule origin communities) table) out printed t x
announce-printed found a b p f w = let q = rw (a, b) at p in record { leaves = q.leaves; prints = rw (← q.is, f) w }

-- the same of a rule that was withdrawn
pub withdraw-printed : {octets rule table out t x : List ℕ} {printed : ℕ} {answer : Result Unit Refusal} {kept : List (List ℕ)} (found : Result Unit Refusal)
    → octets ≡ rule → Withdraws ipv4 octets table answer t kept → answer ≡ found → Answered most_answer out (change_text (withdrawn_told found)) x printed
    → Changes withdrawn_told (withdrawing ipv4 rule table) out printed t x
withdraw-printed found a p f w = let q = rw a at p in record { leaves = q.leaves; prints = rw (← q.is, f) w }

-- the routes in use, where `used` may pass the buffer's end
pub in_use : (used count : ℕ) (routes : List ℕ) → count ≡ min used (length routes) → take count routes ≡ take used routes
in_use used count routes e =
    elim (dec_lt used (length routes)) [
      | yes l ↦ let k : count ≡ used = omega arith in rw k
      | no g ↦ take_all count routes (omega arith) ∙ sym (take_all used routes (omega arith))
    ]

-- a line that says something is not too long
said-short : (line : List ℕ) (what : Line) → line_of line ≡ what → (what ≡ other → ⊥) → length line ≤ most_signs
said-short line what e n =
    elim (dec_lt most_signs (length line)) [ yes l ↦ absurd (n (sym e ∙ too_long line l)) | no g ↦ omega arith ]

-- which form a line was read as
pub read-as : {read : Option Form} {form shape : Form} → read ≡ Some form → form ≡ shape → read ≡ Some shape
read-as e h = e ∙ ap (λ (form : Form). Some form) h

-- a line that was read as a form: its places lie in it, and it is not too long
module _ (line : List ℕ) (form : Option Form) (read : Says line form (line_of line)) where
  pub announce-places : (rule rule_end originator communities : ℕ) → form ≡ Some (Announce rule rule_end originator communities)
      → (rule ≤ rule_end) × ((rule_end ≤ length line) × ((communities ≤ length line) × (length line ≤ most_signs)))
  announce-places rule rule_end originator communities is =
      let w = subst (FormIn line) is read.within in
      (w.0, (w.1.0, (w.1.1, said-short line _ (sym read.is ∙ ap (form_says line) is) (λ e. apart (cc)))))

  pub withdraw-places : (rule : ℕ) → form ≡ Some (Withdraw rule) → (rule ≤ length line) × (length line ≤ most_signs)
  withdraw-places rule is =
      (subst (FormIn line) is read.within, said-short line _ (sym read.is ∙ ap (form_says line) is) (λ e. apart (cc)))

-- what serving it leaves
module _ (line : List ℕ) (used : ℕ) (routes table out : List ℕ) (form : Option Form) (read : Says line form (line_of line)) where
  served-as : (f : Option Form) → form ≡ f → served line used routes table ≡ served_as (form_says line f) used routes table
  unfolding served
  served-as f e = rw (← read.is, e)

  -- a promise from the equation for what serving leaves
  serves : (o : Serving) → served line used routes table ≡ o → (answer : Served) (r t x : List ℕ) → answer ≡ served_told o → r ≡ o.routes → t ≡ o.table
      → x ≡ laid out 0 o.text → answer.printed ≤ most_text (length table) → Serves line used routes table out answer r t x (line ∷ [])
  serves o e answer r t x a b c d s = record { is = rw e a; leaves_routes = rw e b; leaves_table = rw e c; prints = rw e d; short = s; keeps = refl }

  pub serve-routed : (address size originator neighbour : ℕ) → form ≡ Some (Route address size originator neighbour) → (answer : Served) (r x : List ℕ)
      → Adds (adding (address ∷ size ∷ originator ∷ neighbour ∷ []) used routes []) out answer r x
      → Serves line used routes table out answer r table x (line ∷ [])
  serve-routed address size originator neighbour is answer r x a =
      serves (with-table (adding (address ∷ size ∷ originator ∷ neighbour ∷ []) used routes []) table)
      (served-as (Some (Route address size originator neighbour)) is ∙ any-table (address ∷ size ∷ originator ∷ neighbour ∷ []) used routes table) _ _ _ _
      a.is a.leaves refl a.prints (answer-fits _ _ a.short)

  module _ (rule rule_end originator communities : ℕ) (is : form ≡ Some (Announce rule rule_end originator communities)) where
    pub serve-announced : (count printed : ℕ) (t x : List ℕ) → count ≡ min used (length routes)
        → Changes announced_told (announcing ipv4 (policy_of (take count routes) setting_off) (announcement_of (octets_in (between line rule rule_end)) (origin_of originator) (octets_in (between line communities (length line)))) table) out printed t x
        → Serves line used routes table out (record { printed = printed; used = used }) routes t x (line ∷ [])
    serve-announced count printed t x e c =
        serves (changing announced_told (announcing ipv4 (policy_of (take count routes) setting_off) (announcement_of (octets_in (between line rule rule_end)) (origin_of originator) (octets_in (between line communities (length line)))) table) used routes)
        (served-as (Some (Announce rule rule_end originator communities)) is ∙ rw (in_use used count routes e)) _ _ _ _
        (λ i. record { printed = c.prints.1 i; used = used }) refl c.leaves c.prints.0 (answer-fits _ _ c.prints.2)

  module _ (rule : ℕ) (is : form ≡ Some (Withdraw rule)) where
    pub serve-withdrawn : (printed : ℕ) (t x : List ℕ) → Changes withdrawn_told (withdrawing ipv4 (octets_in (between line rule (length line))) table) out printed t x
        → Serves line used routes table out (record { printed = printed; used = used }) routes t x (line ∷ [])
    serve-withdrawn printed t x c =
        serves (changing withdrawn_told (withdrawing ipv4 (octets_in (between line rule (length line))) table) used routes) (served-as (Some (Withdraw rule)) is) _ _ _ _
        (λ i. record { printed = c.prints.1 i; used = used }) refl c.leaves c.prints.0 (answer-fits _ _ c.prints.2)

  -- a line that prints and changes nothing
  serve-printed : (text : List ℕ) → served line used routes table ≡ printing text used routes table → (printed : ℕ) (x : List ℕ)
      → Answered (most_text (length table)) out text x printed
      → Serves line used routes table out (record { printed = printed; used = used }) routes table x (line ∷ [])
  serve-printed text e printed x p = serves (printing text used routes table) e _ _ _ _ (λ i. record { printed = p.1 i; used = used }) refl refl p.0 p.2

  pub serve-listed : form ≡ Some Listing → (printed : ℕ) (x : List ℕ) → Answered (most_text (length table)) out (list_text table) x printed
      → Serves line used routes table out (record { printed = printed; used = used }) routes table x (line ∷ [])
  serve-listed is = serve-printed (list_text table) (served-as (Some Listing) is)

  pub serve-unknown : form ≡ None → (printed : ℕ) (x : List ℕ) → Answered most_answer out unknown_text x printed
      → Serves line used routes table out (record { printed = printed; used = used }) routes table x (line ∷ [])
  serve-unknown is printed x p = serve-printed unknown_text (served-as None is) printed x (p.0, p.1, answer-fits _ _ p.2)
