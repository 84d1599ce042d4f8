-- Going through a table: one record more and the rest, the end, or what is no table; and that records joined with zeros behind them are
-- read back. Assumes nothing.
use mathlib.Core.Path.{◌≡◌, refl, ap, subst, ◌∙◌}
use mathlib.Core.Bool.{Bool, true, false}
use mathlib.Core.List.{List, [], ◌∷◌}
use Prim.Native.Nat.{ℕ, ◌+◌, ◌-◌, ◌<◌, ◌≤◌}
use native.Mathlib.Omega.{arith}
use lib.Dec.{ltb, eqb}
use lib.ListN.{length, drop}
use borrow.Author.Tests.{eq-eqb, ne_eqb, lt-ltb, le-ltb, ltb-false, eqb-false}
use Rattle.octets.specs.Number.{number_at}
use Rattle.octets.specs.Test.{all_zero}
use Rattle.octets.specs.Walk.{more, last, stop, Walk, before}
use Rattle.octets.proofs.Cases.{by-test, apart}
use Rattle.octets.proofs.WalkLaws.{walk-stop, walk_more, walk-ind}
use Rattle.rule.specs.Value.{between}
use Rattle.entry.specs.Record.{length_width, head_cost}
use Rattle.table.specs.Walk.{record_at, record_step, records_from}
use Rattle.std.proofs.Common.{Result, Ok, Err, Option, Some, None}
use Rattle.rule.specs.declared.Refusal.{Refusal}
use Rattle.rule.specs.declared.Refusal.TheVariants.{UnsoundTable}

-- a record that was found: its length field, and that it lies in the table
pub record Found (t : List ℕ) (at next : ℕ) : Type 0 where
  pub size : next ≡ at + (head_cost + number_at length_width t at)
  pub some : number_at length_width t at ≡ 0 → ⊥
  pub within : head_cost + number_at length_width t at ≤ length t - at

abbrev pub Says : List ℕ → ℕ → Result (Option ℕ) Refusal → Type 0
Says t at (Ok None) = all_zero (drop at t) ≡ true
Says t at (Ok (Some next)) = Found t at next
Says t at (Err refusal) = refusal ≡ UnsoundTable

-- how `record_at` comes to each of its answers
module _ (t : List ℕ) (at size : ℕ) (is : size ≡ number_at length_width t at) where
  pub at-end : (zero_rest : Bool) → zero_rest ≡ all_zero (drop at t) → size ≡ 0 → zero_rest ≡ true → Ok None ≡ record_at t at
  unfolding record_at
  at-end z e h k = rw (← is, eq-eqb size 0 h, ← e, k)

  pub at-rubbish : (zero_rest : Bool) → zero_rest ≡ all_zero (drop at t) → size ≡ 0 → zero_rest ≡ false → Err UnsoundTable ≡ record_at t at
  unfolding record_at
  at-rubbish z e h k = rw (← is, eq-eqb size 0 h, ← e, k)

  pub at-short : (size ≡ 0 → ⊥) → length t - at < head_cost + size → Err UnsoundTable ≡ record_at t at
  unfolding record_at
  at-short h k = rw (← is, ne_eqb size 0 h, lt-ltb _ _ k)

  pub at-record : (size ≡ 0 → ⊥) → head_cost + size ≤ length t - at → Ok (Some (at + (head_cost + size))) ≡ record_at t at
  unfolding record_at
  at-record h k = rw (← is, ne_eqb size 0 h, le-ltb _ _ k)

module _ (t : List ℕ) where
  pub step-says : (at : ℕ) → Says t at (record_at t at)
  unfolding record_at
  step-says at =
      by-test (eqb (number_at length_width t at) 0)
      (λ s. by-test (all_zero (drop at t)) (λ z. rw (s, z) z) (λ z. rw (s, z) refl))
      (λ s. by-test (ltb (length t - at) (head_cost + number_at length_width t at)) (λ l. rw (s, l) refl)
      (λ l. rw (s, l) (record { size = refl; some = eqb-false _ _ s; within = ltb-false _ _ l })))

  pub was-found : (at next : ℕ) → record_at t at ≡ Ok (Some next) → Found t at next
  was-found at next e = subst (Says t at) e (step-says at)

  pub rest-zero : (at : ℕ) → record_at t at ≡ Ok None → all_zero (drop at t) ≡ true
  rest-zero at e = subst (Says t at) e (step-says at)

  -- octets that are neither a record nor all zero are refused in one way
  pub one-refusal : (at : ℕ) (refusal : Refusal) → record_at t at ≡ Err refusal → refusal ≡ UnsoundTable
  one-refusal at refusal e = subst (Says t at) e (step-says at)

  falls : (i j : ℕ) (r : List ℕ) → record_step t i (record_at t i) ≡ more r j → length t - j < length t - i
  falls i j r = go (record_at t i) refl
    where
      go : (x : Result (Option ℕ) Refusal) → record_at t i ≡ x → record_step t i x ≡ more r j → length t - j < length t - i
      go (Ok None) e q = apart (cc)
      go (Ok (Some next)) e q =
          let f = was-found i next e in
          let size = f.size in
          let within = f.within in
          let s : next ≡ j = cc in
          omega arith
      go (Err refusal) e q = apart (cc)

  -- the records from a place on
  pub records-more : (at next : ℕ) → record_at t at ≡ Ok (Some next) → records_from t at ≡ before (between t at next) (records_from t next)
  unfolding records_from
  records-more at next e =
      walk_more false (λ i. record_step t i (record_at t i)) (λ i. length t - i) falls (length t + 1) at next (between t at next) (omega arith) (ap (record_step t at) e)

  pub records-end : (at : ℕ) → record_at t at ≡ Ok None → records_from t at ≡ record { items = []; ending = true }
  unfolding records_from
  records-end at e = walk-stop false (λ i. record_step t i (record_at t i)) (length t + 1) at true (omega arith) (ap (record_step t at) e)

  pub records-unsound : (at : ℕ) (refusal : Refusal) → record_at t at ≡ Err refusal → records_from t at ≡ record { items = []; ending = false }
  unfolding records_from
  records-unsound at refusal e = walk-stop false (λ i. record_step t i (record_at t i)) (length t + 1) at false (omega arith) (ap (record_step t at) e)

  -- what holds at the end and at what is no table, and before a record where it holds behind it, holds of every walk over a table
  pub records-ind : (P : ℕ → Walk (List ℕ) Bool → Type 0) → ((at : ℕ) → record_at t at ≡ Ok None → P at (record { items = []; ending = true }))
      → ((at : ℕ) → record_at t at ≡ Err UnsoundTable → P at (record { items = []; ending = false }))
      → ((at next : ℕ) (w : Walk (List ℕ) Bool) → record_at t at ≡ Ok (Some next) → P next w → P at (before (between t at next) w)) → (at : ℕ) → P at (records_from t at)
  unfolding records_from
  records-ind P ends unsound goes at =
      walk-ind false (λ i. record_step t i (record_at t i)) (λ i. length t - i) falls P (λ i e q. stops i e (record_at t i) refl q)
      (λ i r e q. lasts i r e (record_at t i) q) (λ i j r w q h. mores i j r w (record_at t i) refl q h) (length t + 1) at (omega arith)
    where
      stops : (i : ℕ) (e : Bool) (x : Result (Option ℕ) Refusal) → record_at t i ≡ x → record_step t i x ≡ stop e
          → P i (record { items = []; ending = e })
      stops i e (Ok None) f q = let s : true ≡ e = cc in rw (← s) (ends i f)
      stops i e (Ok (Some next)) f q = apart (cc)
      stops i e (Err refusal) f q = let s : false ≡ e = cc in rw (← s) (unsound i (f ∙ ap (λ r. Err r) (one-refusal i refusal f)))

      lasts : (i : ℕ) (r : List ℕ) (e : Bool) (x : Result (Option ℕ) Refusal) → record_step t i x ≡ last r e
          → P i (record { items = r ∷ []; ending = e })
      lasts i r e (Ok None) q = apart (cc)
      lasts i r e (Ok (Some next)) q = apart (cc)
      lasts i r e (Err refusal) q = apart (cc)

      mores : (i j : ℕ) (r : List ℕ) (w : Walk (List ℕ) Bool) (x : Result (Option ℕ) Refusal) → record_at t i ≡ x
          → record_step t i x ≡ more r j → P j w → P i (before r w)
      mores i j r w (Ok None) f q h = apart (cc)
      mores i j r w (Ok (Some next)) f q h =
          let s : next ≡ j = cc in
          let u : between t i next ≡ r = cc in
          rw (← u) (goes i next w f (rw s h))
      mores i j r w (Err refusal) f q h = apart (cc)
