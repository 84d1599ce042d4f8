-- Reading and writing undo one another (RFC 8955 section 4.1): what is read of a written rule is the plain value, what is written of
-- a rule that was read is its plain form, and two values are written alike just where their plain spellings are equal. A value is
-- accepted or refused as its plain spelling is, so that nothing but the length field has to be read back. Assumes nothing.
use mathlib.Core.Path.{◌≡◌, refl, sym, ap, ◌∙◌}
use mathlib.Core.List.{List, ◌∷◌, ◌++◌}
use Prim.Native.Nat.{ℕ, ◌+◌, ◌-◌, ◌/◌, ◌%◌, ◌<◌, ◌≤◌}
use native.Mathlib.Omega.{arith}
use native.Mathlib.Decide.{dec_lt}
use native.Mathlib.Nat.{add-sub_cancel_left}
use lib.Bits.{bit_and}
use lib.Dec.{eqb}
use lib.ListN.{length, take, drop}
use lib.Seq.{take_all, drop_at}
use borrow.Author.Tests.{le-ltb, eqb-true}
use Rattle.std.proofs.Common.{Result, Ok, Err}
use Rattle.octets.proofs.Cases.{by-test, apart}
use Rattle.octets.proofs.Facts.{Octets, below}
use Rattle.rule.specs.declared.Family.{Family}
use Rattle.rule.specs.declared.Refusal.{Refusal}
use Rattle.rule.specs.declared.Refusal.TheVariants.{OctetsBehind}
use Rattle.rule.specs.declared.Span.{Span}
use Rattle.rule.specs.Value.{most_value, check_value}
use Rattle.spelling.specs.Plain.{plain}
use Rattle.rule.specs.Reading.{field_size, field_length, alone, first_rule, one_rule, span}
use Rattle.spelling.specs.Writing.{length_field, rule_for, writing, after_writing}
use Rattle.rule.proofs.ValueLaws.{accepted-small}
use Rattle.spelling.proofs.PlainLaws.{length-plain}
use Rattle.spelling.proofs.ClearedLaws.{plain-again}
use Rattle.spelling.proofs.SpellingLaws.{check-plain}
use Rattle.rule.proofs.ReadingLaws.{short-size, long-size, short-length, long-length, read-accepted, alone-whole, one-read}
use Rattle.spelling.proofs.WritingLaws.{one-octet-field, two-octet-field, length-rule}

-- the low four bits of the longer field's first octet
low-four : (x : ℕ) → x < 16 → bit_and (240 + x) 15 ≡ x
low-four x h = eqb-true _ _ (below 16 (λ y. eqb (bit_and (240 + y) 15) y) refl x h)

-- the length field, read back
module _ (size : ℕ) (rest : List ℕ) where
  pub field-size-back : field_size (length_field size ++ rest) ≡ length (length_field size)
  field-size-back =
      elim (dec_lt size 240) [
        | yes h ↦ rw (one-octet-field size h) (sym (short-size (size ∷ rest) size refl h))
        | no h ↦ rw (two-octet-field size (omega arith)) (sym (long-size ((240 + size / 256) ∷ size % 256 ∷ rest) (240 + size / 256) refl (omega arith)))
      ]

  pub field-length-back : size ≤ most_value → field_length (length_field size ++ rest) ≡ size
  field-length-back small =
      elim (dec_lt size 240) [
        | yes h ↦ rw (one-octet-field size h) (sym (short-length (size ∷ rest) size refl h))
        | no h ↦
            rw (two-octet-field size (omega arith))
            (sym (long-length ((240 + size / 256) ∷ size % 256 ∷ rest) (240 + size / 256) refl (size % 256) (omega arith) refl)
            ∙ rw (low-four (size / 256) (omega arith)) (omega arith))
      ]

-- the rule of the plain spelling is the rule
pub rule-for-plain : (family : Family) (v : List ℕ) → Octets v → rule_for family (plain family v) ≡ rule_for family v
unfolding rule_for
rule-for-plain family v o = rw (length-plain family v, plain-again family v o)

-- behind the length field stands the plain value
pub value-back : (family : Family) (v : List ℕ) → take (length v) (drop (length (length_field (length v))) (rule_for family v)) ≡ plain family v
unfolding rule_for
value-back family v =
    let l = length-plain family v in
    rw (drop_at (length_field (length v)) (plain family v) (length (length_field (length v))) refl) (take_all (length v) (plain family v) (omega arith))

-- Reading what was written gives the plain value back.
pub read-written : (family : Family) (v : List ℕ) → check_value family v ≡ Ok tt → Octets v
    → (one_rule family (rule_for family v) ≡ Ok (span (length (length_field (length v))) (length v)))
    × (take (length v) (drop (length (length_field (length v))) (rule_for family v)) ≡ plain family v)
unfolding rule_for
read-written family v ok o =
    let s = rule_for family v in
    let start = length (length_field (length v)) in
    let size = length v in
    let whole = length-rule family v in
    let value : check_value family (take (start + size - start) (drop start s)) ≡ Ok tt
    = rw (add-sub_cancel_left start size, value-back family v, check-plain family v o) ok in
    let read : Ok (span start size) ≡ first_rule family s
    = read-accepted family s start size (sym (field-size-back size (plain family v))) (sym (field-length-back size (plain family v) (accepted-small family v ok)))
    (check_value family (take (start + size - start) (drop start s))) refl (omega arith) value in
    (sym (alone-whole family s (first_rule family s) refl start size (sym read) (sym whole)), value-back family v)

-- the one rule that octets are is all of them
pub one-whole : (family : Family) (s : List ℕ) (start size : ℕ) → one_rule family s ≡ Ok (span start size) → start + size ≡ length s
unfolding one_rule
one-whole family s start size e = go (first_rule family s) e
  where
    go : (r : Result Span Refusal) → alone (length s) r ≡ Ok (span start size) → start + size ≡ length s
    go (Ok read) q =
        by-test (eqb (read.start + read.size) (length s))
        (λ t.
        let same : Ok (span read.start read.size) ≡ Ok (span start size) = rw t at q in
        let p : read.start ≡ start = cc in
        let r : read.size ≡ size = cc in
        rw (← p, ← r) (eqb-true (read.start + read.size) (length s) t))
        (λ t. let other : Err OctetsBehind ≡ Ok (span start size) = rw t at q in apart (cc))
    go (Err refusal) q = apart (cc)

-- an accepted value is written wherever there is room
pub accepted-written : (family : Family) (v b : List ℕ) → check_value family v ≡ Ok tt → length (rule_for family v) ≤ length b
    → (writing family v (length b) ≡ Ok (length (rule_for family v))) × (after_writing family v b ≡ rule_for family v ++ drop (length (rule_for family v)) b)
unfolding writing after_writing
accepted-written family v b ok room =
    let fits = le-ltb (length b) (length (rule_for family v)) room in
    (rw (ok, fits), rw (ok, fits))

module _ (family : Family) (s : List ℕ) (start size : ℕ) (read : one_rule family s ≡ Ok (span start size)) where
  -- Writing what was read gives the plain rule, in every buffer that has room.
  pub write_read : (b : List ℕ) → length (rule_for family (take size (drop start s))) ≤ length b
      → (writing family (take size (drop start s)) (length b) ≡ Ok (length (rule_for family (take size (drop start s)))))
      × (after_writing family (take size (drop start s)) b
      ≡ rule_for family (take size (drop start s)) ++ drop (length (rule_for family (take size (drop start s)))) b)
  write_read b room = accepted-written family (take size (drop start s)) b (one-read family s start size read).accepted room

  -- What was written is written again as it was.
  pub write_again : (v : List ℕ) → check_value family v ≡ Ok tt → Octets v → s ≡ rule_for family v → rule_for family (take size (drop start s)) ≡ s
  write_again v ok o e =
      let back = read-written family v ok o in
      let same : Ok (span (length (length_field (length v))) (length v)) ≡ Ok (span start size) = sym back.0 ∙ rw e at read in
      let found : span start size ≡ span (length (length_field (length v))) (length v) = cc in
      let p : start ≡ length (length_field (length v)) = ap (λ (r : Span). r.start) found in
      let q : size ≡ length v = ap (λ (r : Span). r.size) found in
      rw (p, q, e) (ap (rule_for family) back.1 ∙ rule-for-plain family v o)

-- Two accepted values that are written alike have one plain spelling.
pub rule-only : (family : Family) (v w : List ℕ) → check_value family v ≡ Ok tt → check_value family w ≡ Ok tt → rule_for family v ≡ rule_for family w
    → plain family v ≡ plain family w
unfolding rule_for
rule-only family v w ok also e =
    let size : length v ≡ length w
    = sym (field-length-back (length v) (plain family v) (accepted-small family v ok)) ∙ ap field_length e
    ∙ field-length-back (length w) (plain family w) (accepted-small family w also) in
    sym (value-back family v) ∙ (λ i. take (size i) (drop (length (length_field (size i))) (e i))) ∙ value-back family w

-- Two values of one plain spelling are written alike.
pub rule-same : (family : Family) (v w : List ℕ) → plain family v ≡ plain family w → rule_for family v ≡ rule_for family w
unfolding rule_for
rule-same family v w e =
    let size : length v ≡ length w = sym (length-plain family v) ∙ ap length e ∙ length-plain family w in
    λ i. length_field (size i) ++ e i
