-- A sound table is the encoding of a list of entries, and the encoding of a list of entries is sound: encode and decode are inverse both
-- ways. Assumes nothing.
use mathlib.Core.Path.{◌≡◌, refl, sym, ap, ap₂, ◌∙◌}
use mathlib.Core.Bool.{Bool, true}
use mathlib.Core.List.{List, [], ◌∷◌, ◌++◌, map, append_assoc}
use Prim.Native.Nat.{ℕ, zero, suc, ◌+◌, ◌-◌, ◌*◌, ◌≤◌}
use native.Mathlib.Omega.{arith}
use native.Mathlib.Nat.{sub-zero, add-zero, zero-add}
use lib.Dec.{leb}
use lib.ListN.{length, get_or, take, drop, replicate, length-append, length-drop, take-append-drop}
use lib.Seq.{drop-drop, drop_at, take_at}
use borrow.Author.Tests.{leb-true, le-leb}
use Rattle.octets.specs.Test.{every, all_zero}
use Rattle.octets.specs.Number.{number_at}
use Rattle.octets.specs.Walk.{Walk, before}
use Rattle.octets.proofs.Cases.{apart, both}
use Rattle.octets.proofs.NumberLaws.{number_behind}
use Rattle.octets.proofs.TestLaws.{every-both, all-zero, zeros-zero}
use Rattle.sorted.specs.History.{costs}
use Rattle.sorted.proofs.TableLaws.{sorted-test, test-sorted}
use Rattle.rule.specs.declared.Family.{Family}
use Rattle.rule.specs.Value.{between}
use Rattle.order.specs.Key.{key_order}
use Rattle.entry.specs.Entry.{Entry, entry_key, possible}
use Rattle.entry.specs.Record.{length_width, head_cost, record_of, entry_of, good_record}
use Rattle.entry.proofs.ValueLaws.{is-possible}
use Rattle.entry.proofs.CodecLaws.{length-record, size_back, read-written, good-written, written_read, good-possible}
use Rattle.table.specs.Walk.{record_at, records_from, records, entries}
use Rattle.table.specs.Sound.{most_octets, cost, records_of, table_of, Encodes, sound_table}
use Rattle.table.proofs.WalkLaws.{was-found, rest-zero, records-more, records-end, records-ind, at-end, at-record}
use Rattle.table.proofs.EntryLaws.{length-there, cost-there}
use Rattle.std.proofs.Common.{Ok, Some, None}

number-zeros : (n m : ℕ) → number_at n (replicate m 0) 0 ≡ 0
unfolding number_at
number-zeros zero m = refl
number-zeros (suc n) m = rw (number-zeros n m, zero-add n) (nought m n)
  where
    nought : (m n : ℕ) → 0 * 256 + get_or (replicate m 0) n 0 ≡ 0
    nought zero n = refl
    nought (suc m) zero = refl
    nought (suc m) (suc n) = nought m n

-- ---- from a sound table to its entries ----

module _ (family : Family) (t : List ℕ) where
  -- what stands from a place on is the records of the entries there, and zeros
  Laid : ℕ → Walk (List ℕ) Bool → Type 0
  Laid at w = at ≤ length t → w.ending ≡ true → every (good_record family) w.items ≡ true
      → (drop at t ≡ records_of (map entry_of w.items) ++ replicate (length t - at - costs cost (map entry_of w.items)) 0)
      × (costs cost (map entry_of w.items) ≤ length t - at)

  laid : (at : ℕ) → Laid at (records_from t at)
  unfolding Laid records_of
  laid = records-ind t Laid ends (λ at e h z g. apart (cc)) more
    where
      ends : (at : ℕ) → record_at t at ≡ Ok None → Laid at (record { items = []; ending = true })
      ends at e h z g = (all-zero (drop at t) (rest-zero t at e) ∙ rw (length-drop at t, sub-zero (length t - at)), omega arith)

      more : (at next : ℕ) (w : Walk (List ℕ) Bool) → record_at t at ≡ Ok (Some next) → Laid next w → Laid at (before (between t at next) w)
      more at next w e rest h z g =
          let f = was-found t at next e in
          let size = f.size in
          let within = f.within in
          let r = between t at next in
          let gs = every-both (good_record family) (between t at next) w.items g in
          let long = length-there t at next e in
          let paid = cost-there t at next e in
          let written = written_read family (between t at next) gs.0 in
          let k = rest (omega arith) z gs.1 in
          let room = k.1 in
          let left : length t - next - costs cost (map entry_of w.items) ≡ length t - at - (cost (entry_of (between t at next)) + costs cost (map entry_of w.items))
          = omega arith in
          let behind : at + (next - at) ≡ next = omega arith in
          let split : drop at t ≡ between t at next ++ drop next t
          = sym (take-append-drop (next - at) (drop at t)) ∙ ap (λ (l : List ℕ). between t at next ++ l) (drop-drop (next - at) at t ∙ ap (λ n. drop n t) behind) in (
            split ∙ ap₂ (λ (a b : List ℕ). a ++ b) (sym written) (k.0 ∙ rw left) ∙ sym (append_assoc (record_of (entry_of (between t at next))) (records_of (map entry_of w.items)) _),
            omega arith,
          )

  -- **a sound table is the encoding of its entries**
  pub sound-encodes : sound_table family t ≡ true → Encodes family t (entries t)
  unfolding sound_table Laid entries records table_of every
  sound-encodes e =
      let a = both (leb (length t) most_octets) _ e in
      let b = both (records_from t 0).ending _ a.1 in
      let c = both (every (good_record family) (records t)) _ b.1 in
      let l = laid 0 (omega arith) b.0 c.0 in
      let room = l.1 in
      record {
        short = leb-true (length t) most_octets a.0;
        room = omega arith;
        each = all-possible (records t) c.0;
        rising = sorted-test key_order (entry_key family) (entries t) c.1;
        is = l.0 ∙ rw (sub-zero (length t));
      }
    where
      all-possible : (rs : List (List ℕ)) → every (good_record family) rs ≡ true → every (possible family) (map entry_of rs) ≡ true
      all-possible [] g = refl
      all-possible (r ∷ rs) g =
          let gs = every-both (good_record family) r rs g in
          rw (good-possible family r gs.0) (all-possible rs gs.1)

-- ---- from entries to a sound table ----

module _ (family : Family) where
  records-back : (es : List Entry) (p : List ℕ) (m : ℕ) → every (possible family) es ≡ true
      → records_from (p ++ (records_of es ++ replicate m 0)) (length p) ≡ record { items = map record_of es; ending = true }
  unfolding records_of
  records-back [] p m g =
      let t = p ++ replicate m 0 in
      let number : 0 ≡ number_at length_width (p ++ replicate m 0) (length p)
      = sym (ap (number_at length_width (p ++ replicate m 0)) (sym (add-zero (length p))) ∙ number_behind length_width p (replicate m 0) 0 ∙ number-zeros length_width m) in
      let rest : true ≡ all_zero (drop (length p) (p ++ replicate m 0)) = sym (rw (drop_at p (replicate m 0) (length p) refl) (zeros-zero m)) in
      records-end (p ++ replicate m 0) (length p) (sym (at-end (p ++ replicate m 0) (length p) 0 number true rest refl refl))
  records-back (e ∷ es) p m g =
      let gs = every-both (possible family) e es g in
      let here = (is-possible family e gs.0).value in
      let some = here.some in
      let back = records_of es ++ replicate m 0 in
      let t = p ++ (record_of e ++ records_of es ++ replicate m 0) in
      let shape : p ++ (record_of e ++ records_of es ++ replicate m 0) ≡ p ++ (record_of e ++ (records_of es ++ replicate m 0))
      = ap (λ (l : List ℕ). p ++ l) (append_assoc (record_of e) (records_of es) (replicate m 0)) in
      let regroup : p ++ (record_of e ++ (records_of es ++ replicate m 0)) ≡ (p ++ record_of e) ++ (records_of es ++ replicate m 0)
      = sym (append_assoc p (record_of e) (records_of es ++ replicate m 0)) in
      let ih = records-back es (p ++ record_of e) m gs.1 in
      rw shape (one-record e p (records_of es ++ replicate m 0) gs.0
      ∙ ap (before (record_of e)) (ap₂ records_from regroup (sym (length-append p (record_of e))) ∙ ih))
    where
      one-record : (e : Entry) (p rest : List ℕ) → possible family e ≡ true
          → records_from (p ++ (record_of e ++ rest)) (length p) ≡ before (record_of e) (records_from (p ++ (record_of e ++ rest)) (length p + length (record_of e)))
      one-record e p rest ok =
          let here = (is-possible family e ok).value in
          let some = here.some in
          let size = length-record e in
          let number : length e.value ≡ number_at length_width (p ++ (record_of e ++ rest)) (length p)
          = sym (ap (number_at length_width (p ++ (record_of e ++ rest))) (sym (add-zero (length p))) ∙ number_behind length_width p (record_of e ++ rest) 0 ∙ size_back family e ok rest) in
          let long : length (p ++ (record_of e ++ rest)) ≡ length p + (length (record_of e) + length rest) = simp length-append in
          let found = at-record (p ++ (record_of e ++ rest)) (length p) (length e.value) number (omega arith) (omega arith) in
          let next : length p + (head_cost + length e.value) ≡ length p + length (record_of e) = omega arith in
          let count : length p + (head_cost + length e.value) - length p ≡ length (record_of e) = omega arith in
          let part : between (p ++ (record_of e ++ rest)) (length p) (length p + (head_cost + length e.value)) ≡ record_of e
          = ap₂ take count (drop_at p (record_of e ++ rest) (length p) refl) ∙ take_at (record_of e) rest (length (record_of e)) refl in
          records-more (p ++ (record_of e ++ rest)) (length p) (length p + (head_cost + length e.value)) (sym found)
          ∙ ap₂ before part (ap (records_from (p ++ (record_of e ++ rest))) next)

  -- the entries that a table was made of are read again
  module _ (t : List ℕ) (es : List Entry) (c : Encodes family t es) where
    walked : records_from t 0 ≡ record { items = map record_of es; ending = true }
    unfolding table_of
    walked = ap (λ (l : List ℕ). records_from l 0) c.is ∙ records-back es [] (length t - costs cost es) c.each

    read_back : (xs : List Entry) → every (possible family) xs ≡ true → map entry_of (map record_of xs) ≡ xs
    read_back [] g = refl
    read_back (x ∷ xs) g =
        let gs = every-both (possible family) x xs g in
        ap₂ (λ (a : Entry) (l : List Entry). a ∷ l) (read-written family x gs.0) (read_back xs gs.1)

    all-good : (xs : List Entry) → every (possible family) xs ≡ true → every (good_record family) (map record_of xs) ≡ true
    unfolding every
    all-good [] g = refl
    all-good (x ∷ xs) g =
        let gs = every-both (possible family) x xs g in
        rw (good-written family x gs.0) (all-good xs gs.1)

    pub encodes-records : records t ≡ map record_of es
    unfolding records
    encodes-records = ap (λ (w : Walk (List ℕ) Bool). w.items) walked

    pub encodes-entries : entries t ≡ es
    unfolding entries
    encodes-entries = ap (map entry_of) encodes-records ∙ read_back es c.each

    -- **the encoding of entries is a sound table**
    pub encodes-sound : sound_table family t ≡ true
    unfolding sound_table
    encodes-sound =
        rw (le-leb (length t) most_octets c.short, walked, encodes-records, all-good es c.each, encodes-entries)
        (test-sorted key_order (entry_key family) es c.rising)
