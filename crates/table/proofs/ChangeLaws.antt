-- Cutting a rule's record out of a table, putting one in and writing one over that of the same rule are the changes of its list of
-- entries; and which of these have room. Assumes nothing.
use mathlib.Core.Path.{◌≡◌, refl, sym, ap, ap₂, subst, ◌∙◌}
use mathlib.Core.Bool.{Bool, true, false}
use mathlib.Core.List.{List, ◌∷◌, ◌++◌, append-nil}
use mathlib.Core.Logic.{◌⊎◌, ⊎_elim}
use mathlib.Core.Option.{Option, none, some}
use Prim.Native.Nat.{ℕ, ◌+◌, ◌-◌, ◌^◌, ◌<◌, ◌≤◌}
use native.Mathlib.Omega.{arith}
use native.Mathlib.Nat.{add-zero, zero-add, add-sub_cancel_left}
use lib.ListN.{length, take, drop, replicate, length-append, take-append-drop}
use lib.Seq.{get_or-drop}
use borrow.Author.Tests.{le-leb, lt-leb}
use Rattle.octets.specs.Store.{stored, cut_out, gap_opened}
use Rattle.octets.proofs.Cases.{apart}
use Rattle.octets.proofs.Facts.{Octets}
use Rattle.sorted.specs.Table.{lookup, insert}
use Rattle.sorted.specs.History.{announce, withdraw, costs, is_held}
use Rattle.sorted.proofs.SplitLaws.{front, rear, skip, front-rear, insert-split, remove-split, held-split, absent-split}
use Rattle.sorted.proofs.HistoryLaws.{costs-append, not-held as none-held}
use Rattle.sorted.proofs.MemberLaws.{every_in, found_in}
use Rattle.sorted.proofs.TableLaws.{remove_absent}
use Rattle.rule.specs.declared.Family.{Family}
use Rattle.rule.specs.Family.{Fits}
use Rattle.rule.proofs.ComponentsLaws.{octets-between}
use Rattle.order.specs.Key.{RuleKey, key_order}
use Rattle.order.proofs.KeyLaws.{key-order, keys-only}
use Rattle.entry.specs.Entry.{Entry, entry_key, plain_value, possible}
use Rattle.entry.proofs.ValueLaws.{held as value-held, is-possible}
use Rattle.entry.specs.Record.{head_cost, record_of}
use Rattle.entry.proofs.CodecLaws.{value-record}
use Rattle.table.specs.declared.Place.{Place}
use Rattle.table.specs.Walk.{entries}
use Rattle.table.specs.Sound.{cost, table_of, Encodes, sound_table}
use Rattle.table.specs.Place.{place_in}
use Rattle.table.specs.Change.{holds, has_room, changed, Leaves}
use Rattle.table.proofs.SpliceLaws.{cut-front, gap-front, table-rest, table-record, table-cut, table-over, table-put}
use Rattle.table.proofs.FindLaws.{place-start, place-held, place-absent}
use Rattle.table.proofs.SoundLaws.{sound-encodes}
use Rattle.table.proofs.CaseLaws.{entries_without, inserted, removed, changed-room, changed-no-room, changed-held, changed-not-held}
use Rattle.std.proofs.Common.{Ok, Err}
use Rattle.rule.specs.declared.Refusal.TheVariants.{NotHeld, NoRoom}

-- cutting out nothing changes nothing
cut-nothing : (b : List ℕ) (at : ℕ) → cut_out b at 0 ≡ b
unfolding cut_out
cut-nothing b at = rw (add-zero at, append-nil (drop at b)) (take-append-drop at b)

-- a front that keeps its length leaves the whole as long as it was
pub front_kept : (b last : List ℕ) (n : ℕ) → length last ≡ length (take n b) → length (last ++ drop n b) ≡ length b
front_kept b last n h =
    length-append last (drop n b) ∙ ap (λ m. m + length (drop n b)) h ∙ sym (length-append (take n b) (drop n b)) ∙ ap length (take-append-drop n b)

module _ (family : Family) where
  -- the entries before the place of a key, and those behind it
  abbrev before : List Entry → RuleKey → List Entry
  before es k = front key_order (entry_key family) k es

  abbrev behind : List Entry → RuleKey → List Entry
  behind es k = skip key_order (entry_key family) k (rear key_order (entry_key family) k es)

  module _ (t : List ℕ) (es : List Entry) (c : Encodes family t es) (k : RuleKey) where
    -- a held rule's record
    module _ (y : Entry) (e : lookup key_order (entry_key family) k es ≡ some y) where
      whole : before es k ++ y ∷ behind es k ≡ es
      whole = rw (← held-split key_order (entry_key family) k es y e) (front-rear key_order (entry_key family) k es)

      made : t ≡ table_of (length t) (before es k ++ y ∷ behind es k)
      made = c.is ∙ ap (table_of (length t)) (sym whole)

      pub value-octets : Octets t → Octets y.value
      value-octets o =
          let at = costs cost (before es k) in
          let part = rw (add-sub_cancel_left at (cost y)) at (octets-between t at (at + cost y) o) in
          let here = ap (λ (b : List ℕ). take (cost y) (drop at b)) made ∙ table-record (length t) (before es k) y (behind es k) in
          let octets : Octets (record_of y) = subst Octets here part in
          subst Octets (value-record y) (λ i. rw (get_or-drop head_cost (record_of y) i 0) (octets (head_cost + i)))

      -- the same rule has the same plain spelling, and so a record of the same length
      pub same-cost : Fits family → Octets t → (x : Entry) → Octets x.value → plain_value family x.value ≡ true → entry_key family x ≡ k → cost x ≡ cost y
      same-cost fits o x octets plain key =
          let new = value-held family x.value plain in
          let found = found_in key_order (entry_key family) key-order k y es e in
          let old = (is-possible family y (every_in (possible family) es c.each y found.0)).value in
          let keys = key ∙ sym found.1 in
          let spelled = keys-only family fits x.value y.value octets (value-octets o) new.accepted old.accepted keys in
          ap (λ (v : List ℕ). head_cost + length v) (sym new.spelled ∙ spelled ∙ old.spelled)

      -- a record that costs as much, put in its place
      module _ (x : Entry) (same : cost x ≡ cost y) where
        costs-over : costs cost (before es k ++ x ∷ behind es k) ≤ length t
        costs-over =
            let all = ap (costs cost) whole in
            let old = costs-append cost (before es k) (y ∷ behind es k) in
            let new = costs-append cost (before es k) (x ∷ behind es k) in
            let room = c.room in
            omega arith

        stored-over : stored t (costs cost (before es k)) (record_of x) ≡ table_of (length t) (before es k ++ x ∷ behind es k)
        stored-over =
            ap (λ (b : List ℕ). stored b (costs cost (before es k)) (record_of x)) made ∙ table-over (length t) (before es k) y (behind es k) x same

    -- what a place says of the table: where it is, what its record costs, and what is left without it
    pub record Placed (p : Place) : Type 0 where
      pub start : p.start ≡ costs cost (before es k)
      pub held : costs cost es ≡ costs cost (before es k) + (p.end - p.start) + costs cost (behind es k)
      pub order : p.start ≤ p.end
      pub inside : p.end ≤ length t
      pub cut : cut_out t p.start (p.end - p.start) ≡ table_of (length t) (before es k ++ behind es k)
      pub says : is_held (lookup key_order (entry_key family) k es) ≡ true → p.start < p.end
      pub not : is_held (lookup key_order (entry_key family) k es) ≡ false → p.end ≡ p.start

    at-start : (place_in family k 0 es).start ≡ costs cost (before es k)
    at-start = place-start family k 0 es ∙ zero-add (costs cost (before es k))

    placed : (o : Option Entry) → lookup key_order (entry_key family) k es ≡ o → Placed (place_in family k 0 es)
    placed none e =
        let same = place-absent family k 0 es e in
        let none_left : before es k ++ behind es k ≡ es = rw (absent-split key_order (entry_key family) k es e) (front-rear key_order (entry_key family) k es) in
        let sum = costs-append cost (before es k) (behind es k) in
        let all = ap (costs cost) none_left in
        let room = c.room in
        let at = at-start in
        let none-cut : (place_in family k 0 es).end - (place_in family k 0 es).start ≡ 0 = omega arith in
        record {
          start = at-start;
          held = omega arith;
          order = omega arith;
          inside = omega arith;
          cut = rw none-cut (cut-nothing t (place_in family k 0 es).start) ∙ c.is ∙ ap (table_of (length t)) (sym none_left);
          says = λ h. let z : false ≡ true = rw e at h in apart (cc);
          not = λ h. same;
        }
    placed (some x) e =
        let far = place-held family k 0 es x e in
        let sum = costs-append cost (before es k) (x ∷ behind es k) in
        let all = ap (costs cost) (whole x e) in
        let room = c.room in
        let at = at-start in
        let size : (place_in family k 0 es).end - (place_in family k 0 es).start ≡ cost x = omega arith in
        record {
          start = at-start;
          held = omega arith;
          order = omega arith;
          inside = omega arith;
          cut =
              ap₂ (cut_out t) at-start size ∙ ap (λ (b : List ℕ). cut_out b (costs cost (before es k)) (cost x)) (made x e)
              ∙ table-cut (length t) (before es k) x (behind es k) (omega arith);
          says = λ h. omega arith;
          not = λ h. let z : true ≡ false = rw e at h in apart (cc);
        }

    pub is-placed : Placed (place_in family k 0 es)
    is-placed = placed (lookup key_order (entry_key family) k es) refl

  -- ---- withdrawing ----

  module _ (t : List ℕ) (o : Octets t) (sound : sound_table family t ≡ true) where
    pub encoded : Encodes family t (entries t)
    encoded = sound-encodes family t sound

    zeros-behind : (used : ℕ) → used ≡ costs cost (entries t) → drop used t ≡ replicate (length t - used) 0
    zeros-behind used all = rw all (ap (drop (costs cost (entries t))) encoded.is ∙ table-rest (length t) (entries t))

    module _ (k : RuleKey) (p : Place) (is : p ≡ place_in family k 0 (entries t)) where
      pub place_is : Placed t (entries t) encoded k p
      place_is = rw is (is-placed t (entries t) encoded k)

      -- only records move: what lies behind them is zeros, which stay where they are
      module _ (used : ℕ) (all : used ≡ costs cost (entries t)) where
        pub ends-inside : (p.start + (p.end - p.start) ≤ used) × (used ≤ length t)
        ends-inside = (omega (arith, place_is), omega (arith, encoded.room))

        pub cut-records : (last : List ℕ) → last ≡ cut_out (take used t) p.start (p.end - p.start)
            → last ++ drop used t ≡ cut_out t p.start (p.end - p.start)
        cut-records last e =
            ap (λ (l : List ℕ). l ++ drop used t) e
            ∙ cut-front t used (zeros-behind used all) p.start (p.end - p.start) ends-inside.0 ends-inside.1

        pub gap-records : (size after : ℕ) (last : List ℕ) → p.end - p.start ≡ 0 → after ≡ used - (p.end - p.start) + size → after ≤ length t
            → last ≡ gap_opened (take after t) p.start size → last ++ drop after t ≡ gap_opened t p.start size
        gap-records size after last new is h e =
            let all_moved : after ≡ used + size = omega arith in
            ap (λ (l : List ℕ). l ++ drop after t) e
            ∙ rw all_moved (gap-front t used (zeros-behind used all) p.start size (omega (arith, ends-inside)) (omega arith))

      not-held : p.end - p.start ≡ 0 → holds family t k ≡ false
      unfolding holds
      not-held h = go (lookup key_order (entry_key family) k (entries t)) refl
        where
          go : (x : Option Entry) → lookup key_order (entry_key family) k (entries t) ≡ x → is_held (lookup key_order (entry_key family) k (entries t)) ≡ false
          go none e = rw e
          go (some x) e = let l = place_is.says (rw e) in absurd (omega arith)

      was-held : (exit : List ℕ) → (p.end - p.start ≡ 0 → ⊥) → exit ≡ cut_out t p.start (p.end - p.start) → (holds family t k ≡ true) × (exit ≡ removed family t k)
      unfolding holds
      was-held exit h e = (
        go (is_held (lookup key_order (entry_key family) k (entries t))) refl,
        e ∙ place_is.cut ∙ ap (table_of (length t)) (sym (remove-split key_order (entry_key family) k (entries t))),
      )
        where
          go : (b : Bool) → is_held (lookup key_order (entry_key family) k (entries t)) ≡ b → is_held (lookup key_order (entry_key family) k (entries t)) ≡ true
          go true f = f
          go false f = let n = place_is.not f in absurd (h (omega arith))

      -- how `remove_rule` comes to its answers
      module _ (used : ℕ) (all : used ≡ costs cost (entries t)) where
        pub removes-none : p.end - p.start ≡ 0 → Leaves (changed family t (withdraw k)) (record { outcome = Err NotHeld; used = used }) t
        removes-none h = rw (changed-not-held family t k (not-held h)) (record { outcome = refl; used = all; table = encoded.is })

        costs-without : used - (p.end - p.start) ≡ costs cost (entries_without family t k)
        costs-without =
            let sums = ap (costs cost) (remove-split key_order (entry_key family) k (entries t)) in
            let sum = costs-append cost (before (entries t) k) (behind (entries t) k) in
            let held = place_is.held in
            omega arith

        pub removes-held : (exit : List ℕ) → (p.end - p.start ≡ 0 → ⊥) → exit ≡ cut_out t p.start (p.end - p.start)
            → Leaves (changed family t (withdraw k)) (record { outcome = Ok tt; used = used - (p.end - p.start) }) exit
        removes-held exit h e =
            let w = was-held exit h e in
            rw (changed-held family t k w.0) (record { outcome = refl; used = costs-without; table = w.1 })

    -- a rule that is not held leaves the table as it was
    pub removed-none : (k : RuleKey) → holds family t k ≡ false → removed family t k ≡ t
    unfolding holds
    removed-none k h = rw (remove_absent key_order (entry_key family) k (entries t) (none-held (lookup key_order (entry_key family) k (entries t)) h)) (sym encoded.is)

    -- ---- announcing ----

    pub sum_fits : (used : ℕ) (v : List ℕ) → used ≡ costs cost (entries t) → plain_value family v ≡ true → used + (head_cost + length v) < 2 ^ 64
    sum_fits used v e h =
        let room = encoded.room in
        let short = encoded.short in
        let small = (value-held family v h).small in
        omega arith

    -- what the table is when the record is written: a new rule has a gap opened for it, and a held one nothing moved
    abbrev pub Readied : Place → Entry → List ℕ → Type 0
    Readied p x ready =
        ((p.end - p.start ≡ 0) × (ready ≡ gap_opened t p.start (cost x))) ⊎ ((p.end - p.start ≡ 0 → ⊥) × (ready ≡ t))

    module _ (x : Entry) where
      split : insert key_order (entry_key family) x (entries t) ≡ before (entries t) (entry_key family x) ++ x ∷ behind (entries t) (entry_key family x)
      split = insert-split key_order (entry_key family) x (entries t)

      -- **A held rule never meets 11.** 01: "No room means exactly that the costs after the call would pass the buffer's length." The same
      -- rule has a record of the same length, so that the costs after the call are those before it.
      module _ (fits : Fits family) (octets : Octets x.value) (plain : plain_value family x.value ≡ true) (held : holds family t (entry_key family x) ≡ true) where
        as_long : (y : Entry) × ((lookup key_order (entry_key family) (entry_key family x) (entries t) ≡ some y) × (cost x ≡ cost y))
        unfolding holds
        as_long = go (lookup key_order (entry_key family) (entry_key family x) (entries t)) refl
          where
            go : (l : Option Entry) → lookup key_order (entry_key family) (entry_key family x) (entries t) ≡ l
                → (y : Entry) × ((lookup key_order (entry_key family) (entry_key family x) (entries t) ≡ some y) × (cost x ≡ cost y))
            go none e = let z : false ≡ true = rw e at held in apart (cc)
            go (some y) e = (y, (e, same-cost t (entries t) encoded (entry_key family x) y e fits o x octets plain refl))

        pub held-has-room : has_room family t x ≡ true
        unfolding has_room
        held-has-room =
            rw split (le-leb _ (length t) (costs-over t (entries t) encoded (entry_key family x) as_long.0 as_long.1.0 x as_long.1.1))

        pub held-is-done : (changed family t (announce x true)).number ≡ 0
        held-is-done = rw (changed-room family t x held-has-room)

      module _ (p : Place) (is : p ≡ place_in family (entry_key family x) 0 (entries t)) where
        entry_place : Placed t (entries t) encoded (entry_key family x) p
        entry_place = place_is (entry_key family x) p is

        -- a held rule's record is written over
        replaced : Fits family → Octets x.value → plain_value family x.value ≡ true → (p.end - p.start ≡ 0 → ⊥)
            → (has_room family t x ≡ true) × (stored t p.start (record_of x) ≡ inserted family t x)
        replaced fits octets plain h =
            let held = (was-held (entry_key family x) p is (cut_out t p.start (p.end - p.start)) h refl).0 in
            let old = as_long fits octets plain held in (
              held-has-room fits octets plain held,
              rw (entry_place.start, split) (stored-over t (entries t) encoded (entry_key family x) old.0 old.1.0 x old.1.1),
            )

        module _ (used : ℕ) (all : used ≡ costs cost (entries t)) where
          -- the costs with the entry: those of the table without the record it replaces, and its own
          costs-with : costs cost (insert key_order (entry_key family) x (entries t)) ≡ used - (p.end - p.start) + cost x
          costs-with =
              let sums = ap (costs cost) split in
              let sum = costs-append cost (before (entries t) (entry_key family x)) (x ∷ behind (entries t) (entry_key family x)) in
              let held = entry_place.held in
              omega arith

          pub no_room : length t < used - (p.end - p.start) + cost x
              → Leaves (changed family t (announce x true)) (record { outcome = Err NoRoom; used = used }) t
          unfolding has_room
          no_room h =
              let r = lt-leb (costs cost (insert key_order (entry_key family) x (entries t))) (length t) (rw costs-with h) in
              rw (changed-no-room family t x r) (record { outcome = refl; used = all; table = encoded.is })

          -- a new rule's record is put into a gap
          added : p.end - p.start ≡ 0 → used - (p.end - p.start) + cost x ≤ length t
              → (has_room family t x ≡ true) × (stored (gap_opened t p.start (cost x)) p.start (record_of x) ≡ inserted family t x)
          unfolding has_room
          added new h =
              let f = before (entries t) (entry_key family x) in
              let r = behind (entries t) (entry_key family x) in
              let fits : costs cost (f ++ x ∷ r) ≤ length t = rw (← split, costs-with) h in
              let whole : t ≡ table_of (length t) (f ++ r) = sym (cut-nothing t p.start) ∙ rw new at entry_place.cut in (
                le-leb _ (length t) (rw costs-with h),
                rw (entry_place.start, split)
                    (ap (λ (l : List ℕ). stored (gap_opened l (costs cost f) (cost x)) (costs cost f) (record_of x)) whole ∙ table-put (length t) f x r fits),
              )

          pub room_kept : (ready exit : List ℕ) → Fits family → Octets x.value → plain_value family x.value ≡ true → used - (p.end - p.start) + cost x ≤ length t
              → Readied p x ready → exit ≡ stored ready p.start (record_of x)
              → Leaves (changed family t (announce x true)) (record { outcome = Ok tt; used = used - (p.end - p.start) + cost x }) exit
          room_kept ready exit fits octets plain h way e =
              ⊎_elim
              (λ new. let a = added new.0 h in rw (changed-room family t x a.0) (record { outcome = refl; used = sym costs-with; table = e ∙ rw new.1 a.1 }))
              (λ old. let a = replaced fits octets plain old.0 in rw (changed-room family t x a.0) (record { outcome = refl; used = sym costs-with; table = e ∙ rw old.1 a.1 }))
              way
