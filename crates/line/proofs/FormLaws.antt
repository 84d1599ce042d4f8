-- Reading a line: the fields behind a place, one after the other, and whether they are of the kinds that they are to be. Assumes nothing.
use mathlib.Core.Path.{◌≡◌, refl, sym, ◌∙◌}
use mathlib.Core.Bool.{Bool, true, false}
use mathlib.Core.List.{List, [], ◌∷◌}
use Prim.Native.Nat.{ℕ, ◌+◌, ◌<◌, ◌≤◌}
use native.Mathlib.Omega.{arith}
use lib.ListN.{length}
use borrow.Author.Tests.{lt-ltb, le-ltb}
use Rattle.octets.proofs.Cases.{apart}
use Rattle.rule.specs.Value.{between}
use Rattle.text.specs.Decimal.{is_number, read_number}
use Rattle.text.specs.Field.{field_end}
use Rattle.text.proofs.DecimalLaws.{was-none, was_read}
use Rattle.text.proofs.FieldLaws.{fields-from}
use Rattle.std.proofs.Common.{Some, None}
use Rattle.line.specs.Line.{are_of}
use Rattle.line.specs.Form.{behind, first_is, Fielded, FieldSays, NumberSays}

-- behind the line's end is no field, and before it is one, with the others behind it
pub at-end : (line : List ℕ) (end : ℕ) → length line ≤ end → behind line end ≡ []
unfolding behind
at-end line end h = rw (le-ltb end (length line) h)

next_field : (line : List ℕ) (end stop : ℕ) → end < length line → stop ≡ field_end line (end + 1) → behind line end ≡ between line (end + 1) stop ∷ behind line stop
unfolding behind
next_field line end stop h e = rw (lt-ltb end (length line) h) (fields-from line (end + 1) stop (omega arith) e)

-- whether the fields behind a place are of their kinds: the first field decides, or leaves it to those behind it
module _ (test : List ℕ → Bool) (kinds : List (List ℕ → Bool)) where
  pub fails : (fs : List (List ℕ)) → first_is test fs ≡ false → are_of (test ∷ kinds) fs ≡ false
  unfolding are_of
  fails [] e = refl
  fails (text ∷ fs) e = rw e

  pub passes : (line : List ℕ) (end start stop : ℕ) → Fielded test line end start stop → are_of (test ∷ kinds) (behind line end) ≡ are_of kinds (behind line stop)
  unfolding are_of
  passes line end start stop f = rw (f.is, f.good)

-- and a line that goes on where no kind is left decides too
pub goes_on : (line : List ℕ) (end : ℕ) → end < length line → are_of [] (behind line end) ≡ false
unfolding are_of
goes_on line end h = rw (next_field line end (field_end line (end + 1)) h refl)

-- how `field_behind` comes to its answers
module _ (test : List ℕ → Bool) (line : List ℕ) (end : ℕ) where
  pub field-none : length line ≤ end → FieldSays test line end None
  field-none h = rw (at-end line end h)

  module _ (inside : end < length line) (stop : ℕ) (ends : (stop ≡ field_end line (end + 1)) × (end + 1 ≤ stop) × (stop ≤ length line))
      (found : Bool) (is : found ≡ test (between line (end + 1) stop)) where
    pub field-not : found ≡ false → FieldSays test line end None
    field-not f = rw (next_field line end stop inside ends.0) (sym is ∙ f)

    pub field-some : found ≡ true → FieldSays test line end (Some (record { start = end + 1; end = stop }))
    field-some f = record { is = next_field line end stop inside ends.0; good = sym is ∙ f; rising = ends.1; within = ends.2 }

-- any field
abbrev pub any : List ℕ → Bool
any text = true

-- how `number_behind` comes to its answers
pub none_at_all : (line : List ℕ) (end : ℕ) → FieldSays any line end None → NumberSays line end None
none_at_all line end says = none (behind line end) says
  where
    none : (fs : List (List ℕ)) → first_is any fs ≡ false → first_is is_number fs ≡ false
    none [] e = refl
    none (text ∷ fs) e = apart (cc)

module _ (line : List ℕ) (end start stop : ℕ) (f : Fielded any line end start stop) where
  pub not-numbered : None ≡ read_number (between line start stop) → NumberSays line end None
  not-numbered e = rw f.is (was-none (between line start stop) e)

  pub numbered : (number : ℕ) → Some number ≡ read_number (between line start stop) → NumberSays line end (Some (number, stop))
  numbered number e =
      let n = was_read (between line start stop) number e in
      record { start = start; there = record { is = f.is; good = n.0; rising = f.rising; within = f.within }; says = sym n.1 }
