-- Reading one rule: one law for each way in which the code comes to an answer. Assumes nothing.
use mathlib.Core.Path.{◌≡◌, refl, sym, subst, ◌∙◌}
use mathlib.Core.List.{List}
use Prim.Native.Nat.{ℕ, ◌+◌, ◌-◌, ◌*◌, ◌<◌, ◌≤◌}
use native.Mathlib.Omega.{arith}
use native.Mathlib.Decide.{dec_lt}
use native.Mathlib.Nat.{add-sub_cancel_left}
use lib.Bits.{bit_and, and_le_r}
use lib.Dec.{ltb, eqb}
use lib.ListN.{length, get_or, take, drop}
use lib.Seq.{get_or-take}
use borrow.Author.Tests.{lt-ltb, le-ltb, ltb-false, eq-eqb, ne_eqb}
use Rattle.octets.proofs.Cases.{by-test}
use Rattle.rule.specs.declared.Family.{Family}
use Rattle.rule.specs.Value.{check_value}
use Rattle.rule.specs.Reading.{field_size, field_length, read_as, first_rule, alone, one_rule}
use Rattle.rule.specs.declared.Refusal.{Refusal}
use Rattle.rule.proofs.Near.{Near, placeless}
use Rattle.rule.proofs.ValueLaws.{Checks, value-checks}
use Rattle.std.proofs.Common.{Result, Ok, Err}
use Rattle.rule.specs.declared.Refusal.TheVariants.{Overlong, OctetsBehind}
use Rattle.rule.specs.declared.Span.{Span}
use Rattle.rule.specs.Reading.{span}

-- the length field in both forms
module _ (s : List ℕ) (first : ℕ) (is : first ≡ get_or s 0 0) where
  pub short-size : first < 0xf0 → 1 ≡ field_size s
  unfolding field_size
  short-size h = rw (← is, lt-ltb _ _ h)

  pub long-size : 0xf0 ≤ first → 2 ≡ field_size s
  unfolding field_size
  long-size h = rw (← is, le-ltb _ _ h)

  pub short-length : first < 0xf0 → first ≡ field_length s
  unfolding field_length
  short-length h = rw (← is, lt-ltb _ _ h)

  pub long-length : (second : ℕ) → 0xf0 ≤ first → second ≡ get_or s 1 0 → bit_and first 0x0f * 256 + second ≡ field_length s
  unfolding field_length
  long-length second h e = rw (← is, le-ltb _ _ h, e)

-- a length field has an octet, and is that of every front that has all of it
module _ (s : List ℕ) where
  pub some-field : 1 ≤ field_size s
  some-field =
      elim (dec_lt (get_or s 0 0) 0xf0) [
        | yes h ↦ let e = short-size s (get_or s 0 0) refl h in omega arith
        | no h ↦ let e = long-size s (get_or s 0 0) refl (omega arith) in omega arith
      ]

  module _ (n : ℕ) (inside : field_size s ≤ n) where
    first-octet : get_or s 0 0 ≡ get_or (take n s) 0 0
    first-octet = sym (get_or-take n s 0 0 (omega (arith, some-field)))

    pub front-size : field_size (take n s) ≡ field_size s
    front-size =
        elim (dec_lt (get_or s 0 0) 0xf0) [
          | yes h ↦ sym (short-size (take n s) (get_or s 0 0) first-octet h) ∙ short-size s (get_or s 0 0) refl h
          | no h ↦ sym (long-size (take n s) (get_or s 0 0) first-octet (omega arith)) ∙ long-size s (get_or s 0 0) refl (omega arith)
        ]

    pub front_length : field_length (take n s) ≡ field_length s
    front_length =
        elim (dec_lt (get_or s 0 0) 0xf0) [
          | yes h ↦ sym (short-length (take n s) (get_or s 0 0) first-octet h) ∙ short-length s (get_or s 0 0) refl h
          | no h ↦
              let two = long-size s (get_or s 0 0) refl (omega arith) in
              sym (long-length (take n s) (get_or s 0 0) first-octet (get_or s 1 0) (omega arith) (sym (get_or-take n s 1 0 (omega arith))))
              ∙ long-length s (get_or s 0 0) refl (get_or s 1 0) (omega arith) refl
        ]

pub high_small : (x : ℕ) → bit_and x 0x0f ≤ 15
high_small x = and_le_r x 15

module _ (family : Family) (s : List ℕ) (start size : ℕ) (is : start ≡ field_size s) (tells : size ≡ field_length s) where
  pub read_short : length s < start + size → Err Overlong ≡ first_rule family s
  unfolding first_rule
  read_short h = rw (← is, ← tells, lt-ltb _ _ h)

  module _ (checked : (Result Unit Refusal)) (says : checked ≡ check_value family (take (start + size - start) (drop start s))) (inside : start + size ≤ length s) where
    pub read-accepted : checked ≡ Ok tt → Ok (span start size) ≡ first_rule family s
    unfolding first_rule
    read-accepted e = let c = sym says ∙ e in rw (← is, ← tells, le-ltb _ _ inside, rw (add-sub_cancel_left start size) at c)

    pub read-refused : (refusal : Refusal) → checked ≡ Err refusal → Err refusal ≡ first_rule family s
    unfolding first_rule
    read-refused refusal e =
        let c = sym says ∙ e in
        rw (← is, ← tells, le-ltb _ _ inside, rw (add-sub_cancel_left start size) at c)

-- a rule that was read: where its value stands, that it lies in the octets, and that it is accepted
pub record ReadRule (family : Family) (s : List ℕ) (start size : ℕ) : Type 0 where
  pub field : start ≡ field_size s
  pub tells : size ≡ field_length s
  pub inside : start + size ≤ length s
  pub accepted : check_value family (take size (drop start s)) ≡ Ok tt

-- what an answer says: such a rule, or a refusal of 01's table
abbrev pub SaysRule : Family → List ℕ → Result Span Refusal → Type 0
SaysRule family s (Ok read) = ReadRule family s read.start read.size
SaysRule family s (Err refusal) = Near refusal

module _ (family : Family) (s : List ℕ) where
  pub reading-says : SaysRule family s (first_rule family s)
  unfolding first_rule
  reading-says =
      by-test (ltb (length s) (field_size s + field_length s)) (λ t. rw t (placeless Overlong refl))
      (λ t. rw t (go (ltb-false _ _ t) (check_value family (take (field_length s) (drop (field_size s) s))) refl))
    where
      go : field_size s + field_length s ≤ length s → (c : (Result Unit Refusal)) → check_value family (take (field_length s) (drop (field_size s) s)) ≡ c
          → SaysRule family s (read_as (field_size s) (field_length s) c)
      go h (Ok _) e = record { field = refl; tells = refl; inside = h; accepted = e }
      go h (Err refusal) e = subst Checks e (value-checks family (take (field_length s) (drop (field_size s) s)))

  pub rule-read : (start size : ℕ) → first_rule family s ≡ Ok (span start size) → ReadRule family s start size
  rule-read start size e = subst (SaysRule family s) e reading-says

  module _ (reading : (Result Span Refusal)) (is : reading ≡ first_rule family s) where
    pub alone-whole : (start size : ℕ) → reading ≡ Ok (span start size) → start + size ≡ length s → Ok (span start size) ≡ one_rule family s
    unfolding one_rule
    alone-whole start size e h = rw (← is, e, eq-eqb _ _ h)

    pub alone-more : (start size : ℕ) → reading ≡ Ok (span start size) → (start + size ≡ length s → ⊥) → Err OctetsBehind ≡ one_rule family s
    unfolding one_rule
    alone-more start size e h = rw (← is, e, ne_eqb _ _ h)

    pub alone-refused : (refusal : Refusal) → reading ≡ Err refusal → Err refusal ≡ one_rule family s
    unfolding one_rule
    alone-refused refusal e = rw (← is, e)

  -- the one rule that octets are is the rule they begin with
  pub one-says : SaysRule family s (one_rule family s)
  unfolding one_rule
  one-says = go (first_rule family s) reading-says
    where
      go : (r : (Result Span Refusal)) → SaysRule family s r → SaysRule family s (alone (length s) r)
      go (Ok read) h = by-test (eqb (read.start + read.size) (length s)) (λ t. rw t h) (λ t. rw t (placeless OctetsBehind refl))
      go (Err refusal) h = h

  pub one-read : (start size : ℕ) → one_rule family s ≡ Ok (span start size) → ReadRule family s start size
  one-read start size e = subst (SaysRule family s) e one-says

  pub one-refused : (refusal : Refusal) → one_rule family s ≡ Err refusal → Near refusal
  one-refused refusal e = subst (SaysRule family s) e one-says
