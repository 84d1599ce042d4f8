-- How a call comes to its word and to what it leaves in `out`, done or refused, and so to its promise. Assumes nothing.
use mathlib.Core.Path.{◌≡◌, refl, sym, ap, subst, ◌∙◌}
use mathlib.Core.Bool.{false}
use mathlib.Core.List.{List, [], ◌∷◌}
use Prim.Native.Nat.{ℕ}
use lib.ListN.{get_or}
use Rattle.rule.specs.declared.Refusal.{Refusal}
use Rattle.rule.specs.Refusal.{number_of, place_of}
use Rattle.action.specs.declared.Actions.{Actions}
use Rattle.action.specs.Actions.{values_of}
use Rattle.lookup.specs.declared.Matched.{Matched}
use Rattle.flowspec.specs.Told.{Told, done as done_told, actions_told, verdict_told, lookup_told}
use Rattle.calls.specs.Word.{word, word_of, out_after}
use Rattle.calls.specs.Buffers.{ReadBuffers, WriteBuffers, CompareBuffers, ActionsBuffers, AnnounceBuffers, WithdrawBuffers, ReachBuffers, UnreachBuffers, LookupBuffers}
use Rattle.calls.specs.Promise.{Returns}
use Rattle.std.proofs.Common.{Ok, Option, Some, None}

-- ---- word and buffers ----

-- the word that a call returns, and what `out` holds when it begins and when it ends
pub record Tells (answer : Told) (entry : List ℕ) (result : ℕ) (exit : List ℕ) : Type 0 where
  pub is : result ≡ word_of answer
  pub out : exit ≡ out_after answer entry

-- the same with the other buffers as they are to be
pub with_out : {Buffers : Type 0} (buffers : List ℕ → Buffers) {answer : Told} {entry : List ℕ} {result : ℕ} {exit : List ℕ} → Tells answer entry result exit
    → Returns answer (buffers (out_after answer entry)) result (buffers exit)
with_out buffers t = record { is = t.is; leaves = ap buffers t.out }

-- the buffers of a call, in the order of the header
abbrev pub reads : List ℕ → List ℕ → ReadBuffers
reads rule out = record { rule = rule; out = out }

abbrev pub writes : List ℕ → List ℕ → List ℕ → WriteBuffers
writes value buf out = record { value = value; buf = buf; out = out }

abbrev pub compares : List ℕ → List ℕ → List ℕ → CompareBuffers
compares a b out = record { a = a; b = b; out = out }

abbrev pub acts : List ℕ → List ℕ → ActionsBuffers
acts communities out = record { communities = communities; out = out }

abbrev pub announces : List ℕ → List ℕ → List ℕ → List ℕ → List ℕ → AnnounceBuffers
announces table routes rule communities out =
    record { table = table; routes = routes; rule = rule; communities = communities; out = out }

abbrev pub withdraws : List ℕ → List ℕ → WithdrawBuffers
withdraws table rule = record { table = table; rule = rule }

abbrev pub reaches : List ℕ → List ℕ → List ℕ → List ℕ → List ℕ → List ℕ → ReachBuffers
reaches table routes attribute communities answers out =
    record { table = table; routes = routes; attribute = attribute; communities = communities; answers = answers; out = out }

abbrev pub unreaches : List ℕ → List ℕ → List ℕ → List ℕ → UnreachBuffers
unreaches table attribute answers out = record { table = table; attribute = attribute; answers = answers; out = out }

abbrev pub looks : List ℕ → List ℕ → List ℕ → LookupBuffers
looks table packet out = record { table = table; packet = packet; out = out }

-- ---- what is told ----

-- refused: `out` stays as it was
pub refused : (refusal : Refusal) (values entry : List ℕ) (result : ℕ) → result ≡ word (number_of refusal) (place_of refusal)
    → Tells (record { grants = false; number = number_of refusal; place = place_of refusal; values = values }) entry result entry
refused refusal values entry result e = record { is = e; out = refl }

-- done: `out` has the values
pub done : (values entry : List ℕ) → Tells (done_told values) entry 0 values
done values entry = record { is = refl; out = refl }

-- the door's answer x is what its definition d says, and it was found to be y
module _ {X : Type 0} (answer_of : X → Told) (d x : X) (is : x ≡ d) (y : X) (e : x ≡ y) where
  pub answered : (entry : List ℕ) (result : ℕ) (exit : List ℕ) → Tells (answer_of y) entry result exit → Tells (answer_of d) entry result exit
  answered entry result exit h = subst (λ z. Tells (answer_of z) entry result exit) (sym e ∙ is) h

  pub word-is : (result : ℕ) → result ≡ word_of (answer_of y) → result ≡ word_of (answer_of d)
  word-is result h = subst (λ z. result ≡ word_of (answer_of z)) (sym e ∙ is) h

-- reading actions: unsound ones, and those that are read
pub actions-refused : (entry : List ℕ) (result : ℕ) → result ≡ word 13 0 → Tells (actions_told None) entry result entry
actions-refused entry result h = record { is = h; out = refl }

pub actions-done : (actions : Actions) (values entry : List ℕ) → values ≡ values_of actions → Tells (actions_told (Some actions)) entry 0 values
actions-done actions values entry h = rw h (done (values_of actions) entry)

-- looking up: a packet that is judged
pub lookup-done : (verdict : Option Matched) (values entry : List ℕ) → values ≡ (verdict_told verdict).values → Tells (lookup_told (Ok verdict)) entry 0 values
lookup-done None values entry h = rw h (done (verdict_told None).values entry)
lookup-done (Some rules) values entry h = rw h (done (verdict_told (Some rules)).values entry)

-- the words of a verdict
pub unmatched-words : (v : Option Matched) → v ≡ None → 0 ∷ 0 ∷ 0 ∷ 0 ∷ 0 ∷ 0 ∷ 0 ∷ [] ≡ (verdict_told v).values
unmatched-words v e = rw e

pub matched-words : (v : Option Matched) (rules : Matched) (values : List ℕ) → v ≡ Some rules → values ≡ values_of rules.actions
    → rules.count ∷ get_or values 0 0 ∷ get_or values 1 0 ∷ get_or values 2 0 ∷ get_or values 3 0 ∷ get_or values 4 0 ∷ get_or values 5 0 ∷ [] ≡ (verdict_told v).values
matched-words v rules values e h = rw (e, h)
