-- **A record that is not hit may be left out of a table, or put in.** What a lookup answers of entries is settled by those that are hit, in
-- their order: its verdict by them all, the first match by the first of them. So two tables with the same hits give one verdict, and first
-- records of the same octets, though their places may differ. Assumes nothing.
use mathlib.Core.Path.{◌≡◌, refl, sym, ap, ◌∙◌}
use mathlib.Core.Bool.{Bool, true, false, cond}
use mathlib.Core.List.{List, [], ◌∷◌, ◌++◌, head?}
use mathlib.Core.Option.{Option, none, some}
use Prim.Native.Nat.{ℕ, ◌+◌, ◌-◌, Ordering}
use native.Mathlib.Omega.{arith}
use lib.Dec.{leb}
use lib.ListN.{length, take, drop}
use Rattle.octets.proofs.Cases.{by-test, apart}
use Rattle.octets.proofs.Facts.{Octets}
use Rattle.sorted.specs.Table.{lookup, insert, remove}
use Rattle.sorted.specs.History.{announce, withdraw, costs, apply}
use Rattle.sorted.proofs.Cases.{by-order}
use Rattle.sorted.proofs.MemberLaws.{every_in, found_in}
use Rattle.sorted.proofs.HistoryLaws.{withdraw-removes}
use Rattle.rule.specs.declared.Family.{Family}
use Rattle.rule.specs.Family.{Fits}
use Rattle.rule.specs.Value.{between, check_value}
use Rattle.order.specs.Key.{RuleKey, key_order}
use Rattle.order.proofs.KeyLaws.{key-order, keys-only}
use Rattle.action.specs.Actions.{no_actions}
use Rattle.packet.specs.declared.Packet.{Packet}
use Rattle.entry.specs.Entry.{Entry, entry_key, possible}
use Rattle.entry.specs.Record.{record_of}
use Rattle.entry.proofs.ValueLaws.{is-possible}
use Rattle.table.specs.Sound.{cost, table_of, Encodes}
use Rattle.table.specs.Change.{changed}
use Rattle.table.proofs.SpliceLaws.{table-record}
use Rattle.table.proofs.SoundLaws.{encodes-entries}
use Rattle.table.proofs.ChangeLaws.{value-octets}
use Rattle.table.proofs.LeaveLaws.{changed-encodes}
use Rattle.lookup.specs.Leaving.{hits, up_to, first_hit, first_record, Alike}
use Rattle.lookup.specs.Lookup.{hit, collected, merged_onto, verdict_of, verdict_for, first_place}
use Rattle.lookup.proofs.LookupLaws.{hit-plain}
use Rattle.std.proofs.Common.{Ok}

module _ (test : Entry → Bool) where
  -- a lookup collects the hits down to the first without T
  pub collected-hits : (es : List Entry) → collected test es ≡ up_to (hits test es)
  unfolding collected
  collected-hits [] = refl
  collected-hits (e ∷ es) =
      by-test (test e) (λ t. rw t (ap (λ (l : List Entry). e ∷ cond e.actions.onward l []) (collected-hits es))) (λ t. rw t (collected-hits es))

  -- so that entries with the same hits are collected alike
  pub collected-same : (es gs : List Entry) → hits test es ≡ hits test gs → collected test es ≡ collected test gs
  collected-same es gs same = collected-hits es ∙ ap up_to same ∙ sym (collected-hits gs)

  -- the hits of entries behind others
  pub hits-append : (es gs : List Entry) → hits test (es ++ gs) ≡ hits test es ++ hits test gs
  hits-append [] gs = refl
  hits-append (e ∷ es) gs =
      by-test (test e) (λ t. rw t (ap (λ (l : List Entry). e ∷ l) (hits-append es gs))) (λ t. rw t (hits-append es gs))

  -- an entry that is not hit may be left out
  pub hits-without : (front : List Entry) (e : Entry) (rest : List Entry) → test e ≡ false → hits test (front ++ e ∷ rest) ≡ hits test (front ++ rest)
  hits-without front e rest missed = hits-append front (e ∷ rest) ∙ rw missed (sym (hits-append front rest))

  -- and put in by its key, where the one that it replaces is not hit either, or taken out by it
  module _ {K : Type 0} (cmp : K → K → Ordering) (key : Entry → K) where
    pub hits-insert : (r : Entry) (es : List Entry) → test r ≡ false → ((x : Entry) → lookup cmp key (key r) es ≡ some x → test x ≡ false)
        → hits test (insert cmp key r es) ≡ hits test es
    hits-insert r [] missed held = rw missed
    hits-insert r (x ∷ es) missed held =
        by-order (cmp (key r) (key x)) (λ e. rw (e, missed)) (λ e. rw (e, missed, held x (rw e)))
        (λ e. rw e (ap (λ (l : List Entry). cond (test x) (x ∷ l) l) (hits-insert r es missed (λ y f. held y (rw e f)))))

    pub hits-remove : (k : K) (es : List Entry) → ((x : Entry) → lookup cmp key k es ≡ some x → test x ≡ false) → hits test (remove cmp key k es) ≡ hits test es
    hits-remove k [] held = refl
    hits-remove k (x ∷ es) held =
        by-order (cmp k (key x)) (λ e. rw e) (λ e. rw (e, held x (rw e)))
        (λ e. rw e (ap (λ (l : List Entry). cond (test x) (x ∷ l) l) (hits-remove k es (λ y f. held y (rw e f)))))

  -- ---- the first match ----

  -- where the first entry that is hit stands among entries whose records begin at a place
  record FirstAt (es : List Entry) (e : Entry) (at : ℕ) : Type 0 where
    pub front : List Entry
    pub rest : List Entry
    pub split : es ≡ front ++ e ∷ rest
    pub start : (first_place test at es).start ≡ at + costs cost front
    pub end : (first_place test at es).end ≡ at + costs cost front + cost e

  first-at : (es : List Entry) (e : Entry) (at : ℕ) → first_hit test es ≡ some e → FirstAt es e at
  unfolding first_place
  first-at [] e at found = apart (cc)
  first-at (x ∷ es) e at found =
      by-test (test x)
      (λ t.
      let own : some x ≡ some e = rw t at found in
      let same : x ≡ e = cc in
      record { front = []; rest = es; split = ap (λ (y : Entry). y ∷ es) same; start = rw t (omega arith); end = rw (t, same) (omega arith) })
      (λ t.
      let later = first-at es e (at + cost x) (rw t at found) in
      record {
        front = x ∷ later.front;
        rest = later.rest;
        split = ap (λ (l : List Entry). x ∷ l) later.split;
        start = rw t (later.start ∙ omega arith);
        end = rw t (later.end ∙ omega arith);
      })

  -- where no entry is hit, its place is 0 and 0
  pub none-placed : (at : ℕ) (es : List Entry) → first_hit test es ≡ none → first_place test at es ≡ record { start = 0; end = 0 }
  unfolding first_place
  none-placed at [] missed = refl
  none-placed at (x ∷ es) missed =
      by-test (test x) (λ t. let z : some x ≡ none = rw t at missed in apart (cc)) (λ t. rw t (none-placed (at + cost x) es (rw t at missed)))

  -- and else there stands its record
  pub first-placed : (n : ℕ) (es : List Entry) (e : Entry) → first_hit test es ≡ some e
      → between (table_of n es) (first_place test 0 es).start (first_place test 0 es).end ≡ record_of e
  first-placed n es e found =
      let first = first-at es e 0 found in
      let start = first.start in
      let end = first.end in
      let size : (first_place test 0 es).end - (first_place test 0 es).start ≡ cost e = omega arith in
      let from : (first_place test 0 es).start ≡ costs cost first.front = omega arith in
      rw (size, from)
      (ap (λ (l : List Entry). take (cost e) (drop (costs cost first.front) (table_of n l))) first.split ∙ table-record n first.front e first.rest)

-- the octets of the record of an entry, if there is one
abbrev record_if : Option Entry → List ℕ
record_if none = []
record_if (some e) = record_of e

-- the first record of a table is that of the first entry that is hit
first-record : (test : Entry → Bool) (family : Family) (t : List ℕ) (es : List Entry) → Encodes family t es → first_record test t ≡ record_if (first_hit test es)
first-record test family t es c =
    rw (encodes-entries family t es c)
    (ap (λ (b : List ℕ). between b (first_place test 0 es).start (first_place test 0 es).end) c.is ∙ go (first_hit test es) refl)
  where
    go : (o : Option Entry) → first_hit test es ≡ o
        → between (table_of (length t) es) (first_place test 0 es).start (first_place test 0 es).end ≡ record_if o
    go none missed = rw (none-placed test 0 es missed)
    go (some e) found = first-placed test (length t) es e found

module _ (family : Family) (head : List ℕ) (packet : Packet) where
  -- entries with the same hits give one verdict
  pub verdict-hits : (es gs : List Entry) → hits (hit family head packet) es ≡ hits (hit family head packet) gs
      → verdict_for family head packet es ≡ verdict_for family head packet gs
  unfolding verdict_for
  verdict-hits es gs same =
      ap (λ (l : List Entry). verdict_of (merged_onto no_actions l) (length l)) (collected-same (hit family head packet) es gs same)

  -- **tables with the same hits say the same**
  pub same-hits : (t u : List ℕ) (es gs : List Entry) → Encodes family t es → Encodes family u gs
      → hits (hit family head packet) es ≡ hits (hit family head packet) gs → Alike family head packet t u
  same-hits t u es gs c d same =
      record {
        verdict = rw (encodes-entries family t es c, encodes-entries family u gs d) (verdict-hits es gs same);
        octets =
            first-record (hit family head packet) family t es c ∙ ap (λ (l : List Entry). record_if (head? l)) same
            ∙ sym (first-record (hit family head packet) family u gs d);
      }

  module _ (t : List ℕ) (es : List Entry) (c : Encodes family t es) where
    -- **so does a table from which a rule that is not hit was withdrawn**
    pub withdrawn-alike : (k : RuleKey) → ((x : Entry) → lookup key_order (entry_key family) k es ≡ some x → hit family head packet x ≡ false)
        → Alike family head packet t (changed family t (withdraw k)).table
    withdrawn-alike k held =
        same-hits t _ es (apply key_order (entry_key family) cost (length t) (withdraw k) es).table c (changed-encodes family t es c (withdraw k) tt)
        (rw (withdraw-removes key_order (entry_key family) cost (length t) k es) (sym (hits-remove (hit family head packet) key_order (entry_key family) k es held)))

    module _ (fits : Fits family) (octets : Octets t) (e : Entry) (own : Octets e.value) where
      -- the entry that a table holds under a rule's key is hit as the rule is: they have one plain spelling
      pub held-hit : check_value family e.value ≡ Ok tt → (x : Entry) → lookup key_order (entry_key family) (entry_key family e) es ≡ some x
          → hit family head packet x ≡ hit family head packet e
      held-hit ok x found =
          let k = entry_key family e in
          let there = found_in key_order (entry_key family) key-order k x es found in
          let old = (is-possible family x (every_in (possible family) es c.each x there.0)).value in
          let value = value-octets family t es c k x found octets in
          hit-plain family fits head packet x e value own (keys-only family fits x.value e.value value own old.accepted ok there.1)

      -- **and a table to which a rule that is not hit was announced**: the one that it replaces is then not hit either
      pub announced-alike : possible family e ≡ true → hit family head packet e ≡ false → Alike family head packet t (changed family t (announce e true)).table
      announced-alike ok missed =
          let accepted = (is-possible family e ok).value.accepted in
          let same = hits-insert (hit family head packet) key_order (entry_key family) e es missed (λ x found. held-hit accepted x found ∙ missed) in
          same-hits t _ es (apply key_order (entry_key family) cost (length t) (announce e true) es).table c (changed-encodes family t es c (announce e true) ok)
          (by-test (leb (costs cost (insert key_order (entry_key family) e es)) (length t)) (λ h. rw h (sym same)) (λ h. rw h))
