-- A record stands for one entry, and an entry has one record: reading and writing undo one another, both ways. Assumes nothing.
use mathlib.Core.Path.{◌≡◌, refl, sym, ap, ◌∙◌}
use mathlib.Core.Bool.{Bool, true, false, not, ◌&&◌, and-true}
use mathlib.Core.List.{List, [], ◌∷◌, ◌++◌, append_assoc, append-nil}
use Prim.Native.Nat.{ℕ, zero, suc, ◌+◌, ◌*◌, ◌-◌, ◌/◌, ◌%◌, ◌^◌, ◌<◌, ◌≤◌}
use native.Mathlib.Omega.{arith}
use lib.Bits.{bit_and}
use lib.Dec.{ltb, eqb, lit<}
use lib.ListN.{length, get_or, take, drop, length-append, length-drop, take-append-drop}
use lib.Seq.{drop_at, take_all}
use borrow.Author.Tests.{ltb-true, lt-ltb, eqb-true, ne_eqb, not-true, not-false}
use Rattle.octets.specs.Number.{number_at}
use Rattle.octets.specs.Test.{same_list}
use Rattle.octets.proofs.TestLaws.{same-list, list_same}
use Rattle.octets.proofs.Cases.{by-test, apart, both}
use Rattle.octets.proofs.Facts.{Octets, below}
use Rattle.octets.proofs.NumberLaws.{number_small, one-octet}
use Rattle.rule.specs.declared.Family.{Family}
use Rattle.action.specs.declared.Actions.{Actions}
use Rattle.octets.specs.Bit.{bit_if}
use Rattle.action.specs.Given.{allowed}
use Rattle.action.specs.declared.Limit.{Limit}
use Rattle.action.specs.Limit.{could_be_limit}
use Rattle.action.specs.Actions.{flags_of, notes_of}
use Rattle.rate.proofs.RatesGiven.{at_most, note-at-most}
use Rattle.action.proofs.GivenLaws.{by-allowed}
use Rattle.action.proofs.LimitLaws.{by-limit}
use Rattle.action.proofs.PossibleLaws.{could, six_bits, redirect_type}
use Rattle.action.specs.Possible.{could_be}
use Rattle.entry.specs.Entry.{Entry, plain_value, possible}
use Rattle.entry.specs.Record.{length_width, head_widths, width_of, head_cost, written_fields, read_fields, head_numbers, record_of, actions_in, entry_of, Measured, good_record, tidy_head}
use Rattle.entry.proofs.ValueLaws.{Possible, is-possible}
use Rattle.entry.proofs.RecordLaws.{Fit, length-written, fields_back, back_fields}

-- the six flags

flag_small : (set : Bool) (value : ℕ) → bit_if set value ≤ value
flag_small true value = omega arith
flag_small false value = omega arith

pub flags-small : (a : Actions) → flags_of a < 64
unfolding flags_of
flags-small a =
    omega (
      arith,
      flag_small a.bytes.present 1,
      flag_small a.packets.present 2,
      flag_small a.sample 4,
      flag_small a.onward 8,
      flag_small a.marking.present 16,
      flag_small a.redirect.present 32,
    )

-- flags that are read are written as they stood, by computing all 64
pub flags-back : (flags dscp bytes packets redirect notes : ℕ) → flags < 64 → flags_of (actions_in flags dscp bytes packets redirect notes) ≡ flags
unfolding flags_of actions_in
flags-back flags dscp bytes packets redirect notes h =
    eqb-true _ _ (below 64 (λ f. eqb (flags_of (actions_in f 0 0 0 0 0)) f) refl flags h)

-- so are notes
notes-back : (flags dscp bytes packets redirect notes : ℕ) → notes < 64 → notes_of (actions_in flags dscp bytes packets redirect notes) ≡ notes
unfolding notes_of actions_in
notes-back flags dscp bytes packets redirect notes h = omega arith

-- the test passes at both outcomes, and at all lists of n outcomes
abbrev either : (Bool → Bool) → Bool
either f = f true && f false

abbrev all_lists : ℕ → (List Bool → Bool) → Bool
all_lists zero f = f []
all_lists (suc n) f = either (λ b. all_lists n (λ l. f (b ∷ l)))

at-either : (f : Bool → Bool) → either f ≡ true → (b : Bool) → f b ≡ true
at-either f h true = (both (f true) (f false) h).0
at-either f h false = (both (f true) (f false) h).1

at-list : (f : List Bool → Bool) (l : List Bool) → all_lists (length l) f ≡ true → f l ≡ true
at-list f [] h = h
at-list f (b ∷ l) h = at-list (λ m. f (b ∷ m)) l (at-either (λ c. all_lists (length l) (λ m. f (c ∷ m))) h b)

flag-set : (set : Bool) (value : ℕ) → 0 < value → not (eqb (bit_if set value) 0) ≡ set
flag-set true value h = rw (ne_eqb value 0 (λ e. omega arith))
flag-set false value h = refl

-- the sum of six flags, and whether it has the flag at a place as its bit
abbrev flag_sum : List Bool → ℕ
flag_sum l =
    bit_if (get_or l 0 false) 1 + bit_if (get_or l 1 false) 2 + bit_if (get_or l 2 false) 4 + bit_if (get_or l 3 false) 8 + bit_if (get_or l 4 false) 16
    + bit_if (get_or l 5 false) 32

abbrev has_flag : ℕ → ℕ → List Bool → Bool
has_flag bit place l = eqb (bit_and (flag_sum l) bit) (bit_if (get_or l place false) bit)

-- actions whose notes have three bits are read again once written, by computing all 64 flags
pub actions-back : (a : Actions) → a.bytes.note < 8 → a.packets.note < 8
    → actions_in (flags_of a) a.marking.number a.bytes.number a.packets.number a.redirect.number (notes_of a) ≡ a
unfolding actions_in flags_of notes_of
actions-back a bytes packets =
    let low : (a.bytes.note + a.packets.note * 8) % 8 ≡ a.bytes.note = omega arith in
    let high : (a.bytes.note + a.packets.note * 8) / 8 ≡ a.packets.note = omega arith in
    let next : (a.bytes.note + a.packets.note * 8) / 8 % 8 ≡ a.packets.note = rw high (omega arith) in
    λ i. record {
      bytes = record { present = says 1 0 (lit< tt) refl i; number = a.bytes.number; note = low i };
      packets = record { present = says 2 1 (lit< tt) refl i; number = a.packets.number; note = next i };
      sample = says 4 2 (lit< tt) refl i;
      onward = says 8 3 (lit< tt) refl i;
      marking = record { present = says 16 4 (lit< tt) refl i; number = a.marking.number };
      redirect = record { present = says 32 5 (lit< tt) refl i; number = a.redirect.number };
    }
  where
    flags : List Bool
    flags = a.bytes.present ∷ a.packets.present ∷ a.sample ∷ a.onward ∷ a.marking.present ∷ a.redirect.present ∷ []

    says : (bit place : ℕ) → 0 < bit → all_lists 6 (has_flag bit place) ≡ true → not (eqb (bit_and (flag_sum flags) bit) 0) ≡ get_or flags place false
    says bit place some h =
        let e = eqb-true (bit_and (flag_sum flags) bit) (bit_if (get_or flags place false) bit) (at-list (has_flag bit place) flags h) in
        rw e (flag-set (get_or flags place false) bit some)

-- where a field of a head begins: behind those before it
abbrev place : ℕ → ℕ
place field = width_of (take field head_widths)

-- every number fits the width of its field
allowed-small : (test : ℕ → Bool) (most : ℕ) → ((n : ℕ) → test n ≡ true → n < most) → 0 < most → (p : Bool) (n : ℕ)
    → allowed p n (test n) ≡ true → n < most
allowed-small test most small some = by-allowed test (λ p n. n < most) small some

limit-small : (l : Limit) → could_be_limit l ≡ true → (l.number < 256 ^ 8) × (l.note < 8)
limit-small =
    by-limit (λ l. (l.number < 256 ^ 8) × (l.note < 8))
    (λ number note h. (omega (arith, at_most number note h), omega (arith, note-at-most number note h)))
    (omega arith, omega arith)

redirect-small : (n : ℕ) → redirect_type n ≡ true → n < 256 ^ 8
redirect-small n h =
    let type = n / 2 ^ 48 in
    by-test (eqb type 0x8008) (λ t. omega (arith, eqb-true type 0x8008 t))
    (λ t. by-test (eqb type 0x8108) (λ u. omega (arith, eqb-true type 0x8108 u))
    (λ u. by-test (eqb type 0x8208) (λ w. omega (arith, eqb-true type 0x8208 w)) (λ w. let z : false ≡ true = rw (t, u, w) at h in apart (cc))))

head-fits : (family : Family) (e : Entry) → Possible family e → Fit head_widths (head_numbers e)
unfolding head_numbers notes_of
head-fits family e p =
    let v = p.value in
    let o = p.originates in
    let c = could e.actions p.acts in
    let f = flags-small e.actions in
    let marks = allowed-small six_bits 256 (λ n h. let t = ltb-true n (2 ^ 6) h in omega arith) (omega arith) _ e.actions.marking.number c.marks in
    let bytes = limit-small e.actions.bytes c.bytes in
    let packets = limit-small e.actions.packets c.packets in
    let redirects = allowed-small redirect_type (256 ^ 8) redirect-small (omega arith) _ e.actions.redirect.number c.redirects in
    let notes : e.actions.bytes.note + e.actions.packets.note * 8 < 256 = omega arith in
    (omega arith, (omega arith, (omega arith, (marks, (bytes.0, (packets.0, (redirects, (notes, (omega arith, (omega arith, (omega arith, tt)))))))))))

-- how `record_actions` comes to its answer
pub head-actions : (s : List ℕ) (a : Actions) (flags dscp bytes packets redirect notes : ℕ) → flags ≡ get_or s (place 2) 0 → dscp ≡ get_or s (place 3) 0
    → bytes ≡ number_at 8 s (place 4) → packets ≡ number_at 8 s (place 5) → redirect ≡ number_at 8 s (place 6) → notes ≡ get_or s (place 7) 0
    → a ≡ actions_in flags dscp bytes packets redirect notes → a ≡ (entry_of s).actions
unfolding entry_of read_fields
head-actions s a flags dscp bytes packets redirect notes f d b p r n h =
    h ∙ rw (f, d, b, p, r, n, one-octet s (place 2), one-octet s (place 3), one-octet s (place 7))

-- how `is_tidy_head` comes to its answer
pub head-tidy : (s : List ℕ) (flags notes first second third : ℕ) → flags ≡ get_or s (place 2) 0 → notes ≡ get_or s (place 7) 0
    → first ≡ get_or s (place 8) 0 → second ≡ get_or s (place 9) 0 → third ≡ get_or s (place 10) 0
    → (ltb flags 64 && ltb notes 64 && eqb first 0 && eqb second 0 && eqb third 0) ≡ tidy_head s
unfolding tidy_head read_fields
head-tidy s flags notes first second third f n a b c =
    rw (f, n, a, b, c, one-octet s (place 2), one-octet s (place 7), one-octet s (place 8), one-octet s (place 9), one-octet s (place 10))

-- the record of an entry

pub length-record : (e : Entry) → length (record_of e) ≡ head_cost + length e.value
unfolding record_of head_numbers
length-record e = simp length-append (omega (arith, length-written head_widths (head_numbers e) refl))

pub value-record : (e : Entry) → drop head_cost (record_of e) ≡ e.value
unfolding record_of head_numbers
value-record e = drop_at (written_fields head_widths (head_numbers e)) e.value head_cost (length-written head_widths (head_numbers e) refl)

module _ (family : Family) (e : Entry) (ok : possible family e ≡ true) where
  -- whatever follows a record, its head is read again
  pub head-back : (rest : List ℕ) → read_fields head_widths (record_of e ++ rest) 0 ≡ head_numbers e
  unfolding record_of
  head-back rest =
      let w : List ℕ = written_fields head_widths (head_numbers e) in
      rw (append_assoc w e.value rest) (fields_back [] head_widths (head_numbers e) (e.value ++ rest) (head-fits family e (is-possible family e ok)))

  fields-alone : read_fields head_widths (record_of e) 0 ≡ head_numbers e
  fields-alone = rw append-nil at (head-back [])

  -- so is its length field
  pub size_back : (rest : List ℕ) → number_at 2 (record_of e ++ rest) 0 ≡ length e.value
  unfolding read_fields head_numbers
  size_back rest = ap (λ (l : List ℕ). get_or l 0 0) (head-back rest)

  notes-small : (e.actions.bytes.note < 8) × (e.actions.packets.note < 8)
  notes-small =
      let c = could e.actions (is-possible family e ok).acts in
      ((limit-small e.actions.bytes c.bytes).1, (limit-small e.actions.packets c.packets).1)

  -- an entry that is written is read again
  pub read-written : entry_of (record_of e) ≡ e
  unfolding entry_of head_numbers
  read-written =
      let fields = fields-alone in
      let value = value-record e in
      let notes = notes-small in
      let actions
      = ap (λ (l : List ℕ). actions_in (get_or l 2 0) (get_or l 3 0) (get_or l 4 0) (get_or l 5 0) (get_or l 6 0) (get_or l 7 0)) fields
      ∙ actions-back e.actions notes.0 notes.1 in
      λ i. record { origin = record { originator = get_or (fields i) 1 0 }; actions = actions i; value = value i }

  -- its head is tidy
  pub tidy-written : tidy_head (record_of e) ≡ true
  unfolding tidy_head head_numbers notes_of
  tidy-written =
      let notes = notes-small in
      rw (fields-alone, lt-ltb (flags_of e.actions) 64 (flags-small e.actions), lt-ltb (e.actions.bytes.note + e.actions.packets.note * 8) 64 (omega arith))

  -- and its record could be
  pub good-written : good_record family (record_of e) ≡ true
  unfolding good_record
  good-written = rw (read-written, ok) (list_same (record_of e))

-- two entries that could be have different records
pub record-only : (family : Family) (a b : Entry) → possible family a ≡ true → possible family b ≡ true → record_of a ≡ record_of b → a ≡ b
record-only family a b p q h = sym (read-written family a p) ∙ ap entry_of h ∙ read-written family b q

-- what a record that could be is
module _ (family : Family) (r : List ℕ) (good : good_record family r ≡ true) where
  pub good-possible : possible family (entry_of r) ≡ true
  unfolding good_record
  good-possible = (both (possible family (entry_of r)) (same_list (record_of (entry_of r)) r) good).0

  pub written_read : record_of (entry_of r) ≡ r
  unfolding good_record
  written_read = same-list (record_of (entry_of r)) r (both (possible family (entry_of r)) (same_list (record_of (entry_of r)) r) good).1

  pub good-tidy : tidy_head r ≡ true
  good-tidy = rw written_read at (tidy-written family (entry_of r) good-possible)

-- what a tidy head has
record Tidy (r : List ℕ) : Type 0 where
  flags : number_at 1 r (place 2) < 64
  notes : number_at 1 r (place 7) < 64
  first : number_at 1 r (place 8) ≡ 0
  second : number_at 1 r (place 9) ≡ 0
  third : number_at 1 r (place 10) ≡ 0

tidy : (r : List ℕ) → tidy_head r ≡ true → Tidy r
unfolding tidy_head read_fields
tidy r h =
    let third = both _ (eqb (number_at 1 r (place 10)) 0) h in
    let second = both _ (eqb (number_at 1 r (place 9)) 0) third.0 in
    let first = both _ (eqb (number_at 1 r (place 8)) 0) second.0 in
    let low = both (ltb (number_at 1 r (place 2)) 64) (ltb (number_at 1 r (place 7)) 64) first.0 in
    record {
      flags = ltb-true (number_at 1 r (place 2)) 64 low.0;
      notes = ltb-true (number_at 1 r (place 7)) 64 low.1;
      first = eqb-true (number_at 1 r (place 8)) 0 first.1;
      second = eqb-true (number_at 1 r (place 9)) 0 second.1;
      third = eqb-true (number_at 1 r (place 10)) 0 third.1;
    }

-- octets that are read are written as they stood, where they are as many as their length field says and their head is tidy
written_back : (r : List ℕ) → Octets r → Measured r → tidy_head r ≡ true → record_of (entry_of r) ≡ r
unfolding record_of entry_of head_numbers read_fields actions_in
written_back r o long h =
    let t = tidy r h in
    let n : length (drop head_cost r) ≡ number_at length_width r 0 = length-drop head_cost r ∙ omega arith in
    let at : ℕ → ℕ = λ field. number_at 8 r (place field) in
    let f = flags-back (number_at 1 r (place 2)) (number_at 1 r (place 3)) (at 4) (at 5) (at 6) (number_at 1 r (place 7)) t.flags in
    let m = notes-back (number_at 1 r (place 2)) (number_at 1 r (place 3)) (at 4) (at 5) (at 6) (number_at 1 r (place 7)) t.notes in
    let fields : head_numbers (entry_of r) ≡ read_fields head_widths r 0
    = λ i. n i ∷ number_at 4 r (place 1) ∷ f i ∷ number_at 1 r (place 3) ∷ at 4 ∷ at 5 ∷ at 6 ∷ m i ∷ sym t.first i ∷ sym t.second i ∷ sym t.third i ∷ [] in
    ap (λ (l : List ℕ). written_fields head_widths l ++ drop head_cost r) fields
    ∙ ap (λ (l : List ℕ). l ++ drop head_cost r) (back_fields head_widths r 0 o (omega arith)) ∙ take-append-drop head_cost r

-- how `is_good_record` comes to each of its answers
module _ (family : Family) (r : List ℕ) where
  never : (good_record family r ≡ true → ⊥) → false ≡ good_record family r
  never h = by-test (good_record family r) (λ t. absurd (h t)) (λ t. sym t)

  pub good-untidy : (tidily : Bool) → tidily ≡ tidy_head r → not tidily ≡ true → false ≡ good_record family r
  good-untidy tidily is h =
      never (λ t. let z : false ≡ true = sym (not-true tidily h) ∙ is ∙ good-tidy family r t in apart (cc))

  module _ (actions : Actions) (acts : actions ≡ (entry_of r).actions) (could : Bool) (tells : could ≡ could_be actions) where
    pub good-no-actions : not could ≡ true → false ≡ good_record family r
    good-no-actions h =
        never (λ t.
        let c = (is-possible family (entry_of r) (good-possible family r t)).acts in
        let z : false ≡ true = sym (not-true could h) ∙ tells ∙ ap could_be acts ∙ c in
        apart (cc))

    pub good-value : (plain : Bool) → Octets r → Measured r → (tidily : Bool) → tidily ≡ tidy_head r → not tidily ≡ false → not could ≡ false
        → plain ≡ plain_value family (take (length r - head_cost) (drop head_cost r)) → plain ≡ good_record family r
    unfolding good_record possible entry_of read_fields
    good-value plain o long tidily is none h p =
        let c : could_be (entry_of r).actions ≡ true = sym (ap could_be acts) ∙ sym tells ∙ not-false could h in
        let value = take_all (length r - head_cost) (drop head_cost r) (simp length-drop (omega arith)) in
        let same : same_list (record_of (entry_of r)) r ≡ true = rw (written_back r o long (sym is ∙ not-false tidily none)) (list_same r) in
        rw (lt-ltb (number_at 4 r (place 1)) (2 ^ 32) (number_small 4 r (place 1) o), c, same) (p ∙ ap (plain_value family) value ∙ sym (and-true _))
