-- Finding a rule's place: what is left of the table decides as the whole table does; and the place found is where the sorted table has
-- the rule. Assumes nothing.
use mathlib.Core.Path.{◌≡◌, refl, sym, ap, ◌∙◌}
use mathlib.Core.Bool.{Bool, true}
use mathlib.Core.List.{List, [], ◌∷◌, map}
use mathlib.Core.Option.{none, some}
use Prim.Native.Nat.{ℕ, ◌+◌, ◌≤◌, Ordering}
use native.Mathlib.Omega.{arith}
use native.Mathlib.Nat.{add-zero}
use lib.Dec.{leb}
use lib.ListN.{length}
use Rattle.octets.specs.Test.{every}
use Rattle.octets.specs.Order.{ordered}
use Rattle.octets.specs.Walk.{Walk}
use Rattle.octets.proofs.Cases.{apart, both}
use Rattle.octets.proofs.Facts.{Octets}
use Rattle.octets.proofs.TestLaws.{every-both}
use Rattle.sorted.specs.Table.{by_order, lookup}
use Rattle.sorted.specs.History.{costs}
use Rattle.sorted.proofs.Cases.{by-order}
use Rattle.sorted.proofs.SplitLaws.{front}
use Rattle.rule.specs.declared.Family.{Family}
use Rattle.rule.specs.Family.{Fits}
use Rattle.rule.specs.Value.{between}
use Rattle.rule.proofs.ComponentsLaws.{octets-between}
use Rattle.order.specs.Precedence.{plain_order}
use Rattle.order.specs.Key.{RuleKey, keys_of, key_order}
use Rattle.entry.specs.Entry.{Entry, entry_key, plain_value}
use Rattle.entry.specs.Record.{head_cost, entry_of, good_record}
use Rattle.table.specs.Walk.{record_at, records_from, records, entries}
use Rattle.table.specs.Sound.{most_octets, cost, sound_table}
use Rattle.table.specs.Place.{place_in}
use Rattle.table.proofs.WalkLaws.{was-found, records-more, records-end, records-unsound}
use Rattle.table.proofs.EntryLaws.{entries_from, value_there, cost-there, plain-order, good-value}
use Rattle.std.proofs.Common.{Result, Ok, Err, Option, Some, None}
use Rattle.rule.specs.declared.Refusal.{Refusal}
use Rattle.std.specs.declared.cmp.Ordering.{Ordering as Order}
use Rattle.std.specs.declared.cmp.Ordering.TheVariants.{Less, Equal, Greater}

items : Walk (List ℕ) Bool → List (List ℕ)
items w = w.items

-- what is left of a table from a place on
module _ (t : List ℕ) (at : ℕ) where
  pub left-more : (next : ℕ) → record_at t at ≡ Ok (Some next) → entries_from t at ≡ entry_of (between t at next) ∷ entries_from t next
  unfolding items
  left-more next e = ap (map entry_of) (ap items (records-more t at next e))

  pub left_end : record_at t at ≡ Ok None → entries_from t at ≡ []
  unfolding items
  left_end e = ap (map entry_of) (ap items (records-end t at e))

  pub left-unsound : (refusal : Refusal) → record_at t at ≡ Err refusal → entries_from t at ≡ []
  unfolding items
  left-unsound refusal e = ap (map entry_of) (ap items (records-unsound t at refusal e))

module _ (family : Family) where
  module _ (t : List ℕ) (at : ℕ) where
    -- every record left could be
    pub Good : Type 0
    Good = every (good_record family) (records_from t at).items ≡ true

    pub good_more : (next : ℕ) → record_at t at ≡ Ok (Some next) → Good
        → (good_record family (between t at next) ≡ true) × (every (good_record family) (records_from t next).items ≡ true)
    unfolding Good items
    good_more next e g =
        every-both (good_record family) (between t at next) (records_from t next).items (rw (ap items (records-more t at next e)) at g)

  -- a sound table's records could be
  pub sound-good : (t : List ℕ) → sound_table family t ≡ true → Good t 0
  unfolding sound_table Good records
  sound-good t e =
      let a = (both (leb (length t) most_octets) _ e).1 in
      let b = (both (records_from t 0).ending _ a).1 in
      (both (every (good_record family) (records t)) _ b).0

  -- the search has come to a place
  pub record Searching (t value : List ℕ) (at : ℕ) : Type 0 where
    pub within : at ≤ length t
    pub good : Good t at
    pub so_far : place_in family (keys_of family value) 0 (entries t) ≡ place_in family (keys_of family value) at (entries_from t at)

  pub search-starts : (t value : List ℕ) → sound_table family t ≡ true → Searching t value 0
  unfolding entries records
  search-starts t value e = record { within = omega arith; good = sound-good t e; so_far = refl }

  module _ (t value : List ℕ) (at : ℕ) (s : Searching t value at) where
    nothing_left : entries_from t at ≡ [] → record { start = at; end = at } ≡ place_in family (keys_of family value) 0 (entries t)
    unfolding place_in
    nothing_left e = sym (s.so_far ∙ rw e)

    pub search-end : (next : Result (Option ℕ) Refusal) → next ≡ record_at t at → next ≡ Ok None
        → record { start = at; end = at } ≡ place_in family (keys_of family value) 0 (entries t)
    search-end next is e = nothing_left (left_end t at (sym is ∙ e))

    pub search-unsound : (next : Result (Option ℕ) Refusal) → next ≡ record_at t at → (refusal : Refusal) → next ≡ Err refusal
        → record { start = at; end = at } ≡ place_in family (keys_of family value) 0 (entries t)
    search-unsound next is refusal e = nothing_left (left-unsound t at refusal (sym is ∙ e))

    module _ (fits : Fits family) (next : ℕ) (found : record_at t at ≡ Ok (Some next)) (o : Octets t) (p : Octets value) (plain : plain_value family value ≡ true) (order : Order)
        (is : order ≡ ordered (plain_order family value (between t (at + head_cost) next))) where
      -- the code's order of the values is that of the keys
      by-keys : order ≡ ordered (key_order (keys_of family value) (entry_key family (entry_of (between t at next))))
      by-keys =
          let r = between t at next in
          let g = good-value family (between t at next) (good_more t at next found s.good).0 in
          let v = value_there t at next found in
          is ∙ ap ordered (ap (plain_order family value) (sym v)
          ∙ plain-order family fits value (entry_of (between t at next)).value p (rw v (octets-between t (at + head_cost) next o)) plain g)

      here : place_in family (keys_of family value) 0 (entries t)
          ≡ by_order (key_order (keys_of family value) (entry_key family (entry_of (between t at next)))) (record { start = at; end = at }) (record { start = at; end = next })
          (place_in family (keys_of family value) next (entries_from t next))
      unfolding place_in
      here = s.so_far ∙ rw (left-more t at next found, cost-there t at next found)

      decide : (x : Ordering) → key_order (keys_of family value) (entry_key family (entry_of (between t at next))) ≡ x → order ≡ ordered x
      decide x e = by-keys ∙ ap ordered e

      pub search-first : order ≡ Less → record { start = at; end = at } ≡ place_in family (keys_of family value) 0 (entries t)
      search-first e =
          by-order (key_order (keys_of family value) (entry_key family (entry_of (between t at next)))) (λ f. sym (here ∙ rw f))
          (λ f. let d = decide Ordering.eq f in apart (cc)) (λ f. let d = decide Ordering.gt f in apart (cc))

      pub search-same : order ≡ Equal → record { start = at; end = next } ≡ place_in family (keys_of family value) 0 (entries t)
      search-same e =
          by-order (key_order (keys_of family value) (entry_key family (entry_of (between t at next)))) (λ f. let d = decide Ordering.lt f in apart (cc))
          (λ f. sym (here ∙ rw f)) (λ f. let d = decide Ordering.gt f in apart (cc))

      pub search-on : order ≡ Greater → Searching t value next
      unfolding Good
      search-on e =
          by-order (key_order (keys_of family value) (entry_key family (entry_of (between t at next)))) (λ f. let d = decide Ordering.lt f in apart (cc))
          (λ f. let d = decide Ordering.eq f in apart (cc))
          (λ f.
          let w = was-found t at next found in
          let size = w.size in
          let inside = w.within in
          let some = w.some in
          record { within = omega arith; good = good-next; so_far = here ∙ rw f })
        where
          good-next : Good t next
          good-next = (good_more t at next found s.good).1

  -- where a sorted table has a key: behind the records that come before it
  module _ (k : RuleKey) where
    pub place-start : (at : ℕ) (es : List Entry) → (place_in family k at es).start ≡ at + costs cost (front key_order (entry_key family) k es)
    unfolding place_in
    place-start at [] = sym (add-zero at)
    place-start at (e ∷ es) =
        by-order (key_order k (entry_key family e)) (λ f. rw f (sym (add-zero at))) (λ f. rw f (sym (add-zero at)))
        (λ f. rw f (place-start (at + cost e) es ∙ omega arith))

    pub place-held : (at : ℕ) (es : List Entry) (x : Entry) → lookup key_order (entry_key family) k es ≡ some x
        → (place_in family k at es).end ≡ (place_in family k at es).start + cost x
    unfolding place_in
    place-held at [] x h = cc
    place-held at (e ∷ es) x h =
        by-order (key_order k (entry_key family e)) (λ f. cc) (λ f. let s : e ≡ x = cc in rw (f, ← s)) (λ f. rw f (place-held (at + cost e) es x (rw f at h)))

    pub place-absent : (at : ℕ) (es : List Entry) → lookup key_order (entry_key family) k es ≡ none → (place_in family k at es).end ≡ (place_in family k at es).start
    unfolding place_in
    place-absent at [] h = refl
    place-absent at (e ∷ es) h =
        by-order (key_order k (entry_key family e)) (λ f. rw f) (λ f. cc) (λ f. rw f (place-absent (at + cost e) es (rw f at h)))
