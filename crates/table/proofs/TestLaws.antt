-- Testing a table record by record: what is left to test decides, with the record before it. Assumes nothing.
use mathlib.Core.Path.{◌≡◌, refl, sym, ap, ap₂, ◌∙◌}
use mathlib.Core.Bool.{Bool, true, false, not, cond, ◌&&◌, and-false}
use mathlib.Core.List.{List}
use Prim.Native.Nat.{ℕ, ◌+◌, ◌<◌, ◌≤◌, Ordering}
use native.Mathlib.Omega.{arith}
use native.Mathlib.Nat.{zero-add, add-zero}
use lib.Dec.{eqb}
use lib.ListN.{length}
use borrow.Author.Tests.{eq-eqb, ne_eqb, le-leb, lt-leb, eqb-false, not-true, not-false}
use Rattle.octets.specs.Test.{every}
use Rattle.octets.specs.Order.{ordered}
use Rattle.octets.proofs.Cases.{by-test, apart}
use Rattle.octets.proofs.Facts.{Octets}
use Rattle.sorted.specs.Table.{by_order, below, sorted}
use Rattle.sorted.specs.History.{costs}
use Rattle.sorted.proofs.Cases.{by-order}
use Rattle.rule.specs.declared.Family.{Family}
use Rattle.rule.specs.Family.{Fits}
use Rattle.rule.specs.Value.{between}
use Rattle.rule.proofs.ComponentsLaws.{octets-between}
use Rattle.order.specs.Precedence.{plain_order}
use Rattle.order.specs.Key.{key_order}
use Rattle.entry.specs.Entry.{Entry, entry_key}
use Rattle.entry.specs.Record.{head_cost, entry_of, good_record}
use Rattle.table.specs.Walk.{record_at, records_from, records, entries}
use Rattle.table.specs.Sound.{most_octets, cost, sound_table, soundness}
use Rattle.table.specs.Follow.{Adjacent, follows_at}
use Rattle.table.proofs.WalkLaws.{was-found, one-refusal, records-more, records-end, records-unsound}
use Rattle.table.proofs.EntryLaws.{entries_from, value_there, cost-there, plain-order, good-value}
use Rattle.std.proofs.Common.{Result, Ok, Err, Option, Some, None}
use Rattle.rule.specs.declared.Refusal.{Refusal}
use Rattle.rule.specs.declared.Refusal.TheVariants.{UnsoundTable}
use Rattle.std.specs.declared.cmp.Ordering.{Ordering as Order}
use Rattle.std.specs.declared.cmp.Ordering.TheVariants.{Less}

module _ (family : Family) where
  -- how `follows` comes to its answers
  module _ (t : List ℕ) (previous at next : ℕ) where
    pub follows-none : at ≡ 0 → true ≡ follows_at family t previous at next
    unfolding follows_at
    follows-none h = rw (eq-eqb at 0 h)

    module _ (later : at ≡ 0 → ⊥) (order : Order)
        (is : order ≡ ordered (plain_order family (between t (previous + head_cost) at) (between t (at + head_cost) next))) where
      answer : (x : Ordering) → plain_order family (between t (previous + head_cost) at) (between t (at + head_cost) next) ≡ x
          → order ≡ ordered x
      answer x e = is ∙ ap ordered e

      pub follows-yes : order ≡ Less → true ≡ follows_at family t previous at next
      unfolding follows_at
      follows-yes e =
          by-order (plain_order family (between t (previous + head_cost) at) (between t (at + head_cost) next))
          (λ f. rw (ne_eqb at 0 later, f)) (λ f. let d = answer Ordering.eq f in apart (cc)) (λ f. let d = answer Ordering.gt f in apart (cc))

      pub follows-not : (order ≡ Less → ⊥) → false ≡ follows_at family t previous at next
      unfolding follows_at
      follows-not n =
          by-order (plain_order family (between t (previous + head_cost) at) (between t (at + head_cost) next))
          (λ f. absurd (n (answer Ordering.lt f))) (λ f. rw (ne_eqb at 0 later, f)) (λ f. rw (ne_eqb at 0 later, f))

  -- the entries left come after the record before them
  abbrev linked : List ℕ → ℕ → ℕ → List Entry → Bool
  linked t previous at es = cond (eqb at 0) true (below key_order (entry_key family) (entry_key family (entry_of (between t previous at))) es)

  -- what is left to test, and the answer then
  abbrev tested : List ℕ → ℕ → ℕ → Bool
  tested t previous at =
      (records_from t at).ending
      && (every (good_record family) (records_from t at).items && (linked t previous at (entries_from t at) && sorted key_order (entry_key family) (entries_from t at)))

  abbrev answer_at : List ℕ → ℕ → ℕ → Result ℕ Refusal
  answer_at t previous at = cond (tested t previous at) (Ok (at + costs cost (entries_from t at))) (Err UnsoundTable)

  -- the test has come to a place
  pub record Testing (t : List ℕ) (previous at : ℕ) : Type 0 where
    pub within : at ≤ length t
    pub found : (at ≡ 0 → ⊥) → record_at t previous ≡ Ok (Some at)
    pub good : (at ≡ 0 → ⊥) → good_record family (between t previous at) ≡ true
    pub so_far : soundness family t ≡ answer_at t previous at

  pub test-starts : (t : List ℕ) → length t ≤ most_octets → Testing t 0 0
  unfolding soundness sound_table entries records
  test-starts t h =
      record {
        within = omega arith;
        found = λ n. absurd (n refl);
        good = λ n. absurd (n refl);
        so_far = rw (le-leb (length t) most_octets h, zero-add (costs cost (entries_from t 0)));
      }

  pub test-long : (t : List ℕ) → most_octets < length t → Err UnsoundTable ≡ soundness family t
  unfolding soundness sound_table
  test-long t h = rw (lt-leb (length t) most_octets h)

  module _ (t : List ℕ) (previous at : ℕ) (s : Testing t previous at) where
    pub test-end : (next : Result (Option ℕ) Refusal) → next ≡ record_at t at → next ≡ Ok None → Ok at ≡ soundness family t
    unfolding every
    test-end next is e =
        let w = records-end t at (sym is ∙ e) in
        sym (s.so_far ∙ rw w (go (eqb at 0)))
      where
        go : (b : Bool) → cond (cond b true true && true) (Ok (at + 0)) (Err UnsoundTable) ≡ Ok at
        go true = ap (λ n. Ok n) (add-zero at)
        go false = ap (λ n. Ok n) (add-zero at)

    pub test-unsound : (next : Result (Option ℕ) Refusal) → next ≡ record_at t at → (refusal : Refusal) → next ≡ Err refusal
        → Err refusal ≡ soundness family t
    test-unsound next is refusal e =
        ap (λ r. Err r) (one-refusal t at refusal (sym is ∙ e)) ∙ sym (s.so_far ∙ rw (records-unsound t at refusal (sym is ∙ e)))

    module _ (next : ℕ) (here : record_at t at ≡ Ok (Some next)) where
      bounds : (at + head_cost ≤ next) × (next ≤ length t)
      bounds =
          let f = was-found t at next here in
          let size = f.size in
          let within = f.within in
          (omega arith, omega arith)

      pub adjacent : Adjacent t previous at next
      adjacent = record { before = earlier; here = bounds.0; within = bounds.1 }
        where
          earlier : (at ≡ 0 → ⊥) → previous + head_cost ≤ at
          earlier n =
              let f = was-found t previous at (s.found n) in
              let size = f.size in
              omega arith

      -- the answer once a record is taken off
      taken : (good : Bool) (link : Bool) → good_record family (between t at next) ≡ good
          → cond (eqb at 0) true (by_order (key_order (entry_key family (entry_of (between t previous at))) (entry_key family (entry_of (between t at next)))) true false false) ≡ link
          → soundness family t ≡ cond ((records_from t next).ending
          && ((good && every (good_record family) (records_from t next).items)
          && (link && (below key_order (entry_key family) (entry_key family (entry_of (between t at next))) (entries_from t next) && sorted key_order (entry_key family) (entries_from t next)))))
          (Ok (next + costs cost (entries_from t next))) (Err UnsoundTable)
      unfolding every
      taken good link g l =
          let n : at + (cost (entry_of (between t at next)) + costs cost (entries_from t next)) ≡ next + costs cost (entries_from t next)
          = omega (arith, cost-there t at next here) in
          s.so_far ∙ rw (records-more t at next here, g, l, n)

      pub test-bad : (says : Bool) → says ≡ good_record family (between t at next) → not says ≡ true → Err UnsoundTable ≡ soundness family t
      test-bad says is e =
          sym (taken false _ (sym is ∙ not-true says e) refl ∙ rw (and-false (records_from t next).ending))

      module _ (fits : Fits family) (o : Octets t) (ok : good_record family (between t at next) ≡ true) where
        -- the code's test of neighbours is the order of their keys
        link-is : follows_at family t previous at next
            ≡ cond (eqb at 0) true (by_order (key_order (entry_key family (entry_of (between t previous at))) (entry_key family (entry_of (between t at next)))) true false false)
        unfolding follows_at
        link-is = by-test (eqb at 0) (λ z. rw z) (λ z. rw z (order (eqb-false at 0 z)))
          where
            order : (at ≡ 0 → ⊥)
                → by_order (plain_order family (between t (previous + head_cost) at) (between t (at + head_cost) next)) true false false
                ≡ by_order (key_order (entry_key family (entry_of (between t previous at))) (entry_key family (entry_of (between t at next)))) true false false
            order n =
                let a = value_there t previous at (s.found n) in
                let b = value_there t at next here in
                let v = (entry_of (between t previous at)).value in
                let w = (entry_of (between t at next)).value in
                ap (λ x. by_order x true false false)
                (ap₂ (plain_order family) (sym a) (sym b)
                ∙ plain-order family fits (entry_of (between t previous at)).value (entry_of (between t at next)).value (rw a (octets-between t (previous + head_cost) at o))
                (rw b (octets-between t (at + head_cost) next o)) (good-value family (between t previous at) (s.good n)) (good-value family (between t at next) ok))

        pub test-disorder : (says : Bool) → says ≡ follows_at family t previous at next → not says ≡ true → Err UnsoundTable ≡ soundness family t
        test-disorder says is e =
            sym (taken true false ok (sym link-is ∙ sym is ∙ not-true says e)
            ∙ rw (and-false (every (good_record family) (records_from t next).items), and-false (records_from t next).ending))

        pub test_on : (says : Bool) → says ≡ follows_at family t previous at next → not says ≡ false → Testing t at next
        test_on says is e =
            let far = bounds.0 in
            record {
              within = bounds.1;
              found = λ n. here;
              good = λ n. ok;
              so_far = taken true true ok (sym link-is ∙ sym is ∙ not-false says e) ∙ rw (ne_eqb next 0 (omega arith));
            }
