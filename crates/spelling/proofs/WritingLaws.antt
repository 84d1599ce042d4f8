-- Writing one rule: the length field in both forms, the stores in a row, and the writer's answers. Assumes nothing.
use mathlib.Core.Path.{◌≡◌, refl, sym, ap, subst, ◌∙◌}
use mathlib.Core.List.{List, [], ◌∷◌, ◌++◌}
use Prim.Native.Nat.{ℕ, ◌+◌, ◌/◌, ◌%◌, ◌<◌, ◌≤◌}
use native.Mathlib.Omega.{arith}
use native.Mathlib.Nat.{zero-add}
use lib.Dec.{ltb}
use lib.ListN.{length, take, drop, set, length-append}
use lib.Seq.{take_at, drop-drop, drop-append-add}
use borrow.Author.Tests.{lt-ltb, le-ltb}
use Rattle.std.proofs.Common.{Result, Ok, Err}
use Rattle.octets.specs.Store.{stored}
use Rattle.octets.proofs.Cases.{by-test}
use Rattle.rule.specs.declared.Family.{Family}
use Rattle.rule.specs.declared.Refusal.{Refusal}
use Rattle.rule.specs.declared.Refusal.TheVariants.{ShortBuffer}
use Rattle.rule.specs.Value.{check_value}
use Rattle.spelling.specs.Plain.{plain}
use Rattle.spelling.specs.Writing.{length_field, rule_for, into_room, filled, writing, after_writing}
use Rattle.rule.proofs.ValueLaws.{Checks, value-checks}
use Rattle.rule.proofs.Near.{Near, placeless}
use Rattle.spelling.proofs.PlainLaws.{length-plain}

-- the length field
module _ (size : ℕ) where
  pub one-octet-field : size < 240 → length_field size ≡ size ∷ []
  unfolding length_field
  one-octet-field h = rw (lt-ltb _ _ h)

  pub two-octet-field : 240 ≤ size → length_field size ≡ (240 + size / 256) ∷ size % 256 ∷ []
  unfolding length_field
  two-octet-field h = rw (le-ltb _ _ h)

store-one : (b : List ℕ) (x : ℕ) → 0 < length b → set b 0 x ≡ stored b 0 (x ∷ [])
unfolding stored
store-one [] x h = absurd (omega arith)
store-one (y ∷ ys) x h = refl

store_two : (b : List ℕ) (x y : ℕ) → 1 < length b → set (set b 0 x) 1 y ≡ stored b 0 (x ∷ y ∷ [])
unfolding stored
store_two [] x y h = absurd (omega arith)
store_two (z ∷ []) x y h = absurd (omega arith)
store_two (z ∷ w ∷ zs) x y h = refl

module _ (b : List ℕ) (size : ℕ) (room : length (length_field size) ≤ length b) where
  pub room-short : size < 240 → 0 < length b
  room-short h = let e = ap length (one-octet-field size h) in omega arith

  pub room-long : 240 ≤ size → 1 < length b
  room-long h = let e = ap length (two-octet-field size h) in omega arith

  pub write-short : size < 240 → set b 0 size ≡ stored b 0 (length_field size)
  write-short h = store-one b size (room-short h) ∙ ap (stored b 0) (sym (one-octet-field size h))

  pub write-long : 240 ≤ size → set (set b 0 (240 + size / 256)) 1 (size % 256) ≡ stored b 0 (length_field size)
  write-long h = store_two b (240 + size / 256) (size % 256) (room-long h) ∙ ap (stored b 0) (sym (two-octet-field size h))

pub length-rule : (family : Family) (v : List ℕ) → length (rule_for family v) ≡ length (length_field (length v)) + length v
unfolding rule_for
length-rule family v = rw (length-append, length-plain)

-- two stores in a row at the front of a buffer
stored-twice : (b s t : List ℕ) (n : ℕ) → n ≡ length s → n + length t ≤ length b → stored (stored b 0 s) n t ≡ (s ++ t) ++ drop (n + length t) b
unfolding stored
stored-twice b s t n e h =
    let first = take_at s (drop (0 + length s) b) n (sym e) in
    let behind : drop (n + length t) (s ++ drop (0 + length s) b) ≡ drop (n + length t) b
    = rw (e, drop-append-add s (drop (0 + length s) b) (length t), drop-drop (length t) (0 + length s) b, zero-add (length s)) in
    rw (first, behind)

-- the front of the working array is the plain spelling
pub front-plain : (family : Family) (v zeros work : List ℕ) → work ≡ plain family v ++ drop (length v) zeros → take (length v) work ≡ plain family v
front-plain family v zeros work w = rw w (take_at (plain family v) (drop (length v) zeros) (length v) (length-plain family v))

pub front_length : (family : Family) (v zeros work : List ℕ) → work ≡ plain family v ++ drop (length v) zeros → length v ≡ length (take (length v) work)
front_length family v zeros work w = sym (ap length (front-plain family v zeros work w) ∙ length-plain family v)

module _ (family : Family) (v b : List ℕ) where
  pub no_room : (field : ℕ) → field ≡ length (length_field (length v)) → length b < field + length v → Err ShortBuffer ≡ into_room family v (length b) (Ok tt)
  no_room field is h =
      let e = length-rule family v in
      rw (lt-ltb (length b) (length (rule_for family v)) (omega arith))

  module _ (field : ℕ) (is : field ≡ length (length_field (length v))) (room : field + length v ≤ length b) where
    pub room-left : Ok (field + length v) ≡ into_room family v (length b) (Ok tt)
    room-left =
        let e = length-rule family v in
        let n : length (rule_for family v) ≡ field + length v = omega arith in
        rw (le-ltb (length b) (length (rule_for family v)) (omega arith), n)

    pub write-in-a-row : (zeros work first last : List ℕ) → work ≡ plain family v ++ drop (length v) zeros → first ≡ stored b 0 (length_field (length v))
        → last ≡ stored first field (take (length v) work) → last ≡ filled family v b (Ok (field + length v))
    unfolding rule_for
    write-in-a-row zeros work first last w f l =
        l ∙ rw (front-plain family v zeros work w, f, stored-twice b (length_field (length v)) (plain family v) field is (rw (length-plain family v) room), length-plain family v)

-- the writer's answers
module _ (family : Family) (v b : List ℕ) (checked : Result Unit Refusal) (is : checked ≡ check_value family v) where
  pub write-accepted : (answer : Result ℕ Refusal) (after : List ℕ) → checked ≡ Ok tt → answer ≡ into_room family v (length b) (Ok tt) → after ≡ filled family v b answer
      → (answer ≡ writing family v (length b)) × (after ≡ after_writing family v b)
  unfolding writing after_writing
  write-accepted answer after e f g = (rw (← is, e) f, rw (← is, e, ← f) g)

  pub write-refused : (refusal : Refusal) → checked ≡ Err refusal
      → (Err refusal ≡ writing family v (length b)) × (b ≡ after_writing family v b)
  unfolding writing after_writing
  write-refused refusal e = (rw (← is, e), rw (← is, e))

-- a writer that refuses has a refusal of 01's table
abbrev Writes : Result ℕ Refusal → Type 0
Writes (Ok octets) = Unit {0}
Writes (Err refusal) = Near refusal

module _ (family : Family) (v : List ℕ) (room : ℕ) where
  pub not_written : (refusal : Refusal) → writing family v room ≡ Err refusal → Near refusal
  unfolding writing
  not_written refusal e = subst Writes e (go (check_value family v) (value-checks family v))
    where
      go : (c : Result Unit Refusal) → Checks c → Writes (into_room family v room c)
      go (Ok tt) h = by-test (ltb room (length (rule_for family v))) (λ t. rw t (placeless ShortBuffer refl)) (λ t. rw t tt)
      go (Err refusal) h = h
