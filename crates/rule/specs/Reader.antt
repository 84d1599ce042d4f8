-- A reader of a value: its family, the value, the place where the next component begins, and the type of the component before it.
use Rattle.std.specs.Prelude.{ℕ, ◌+◌, ◌≡◌, List}
use Rattle.std.specs.Borrow.{Bor}
use Rattle.rule.specs.declared.Family.{Family}
use Rattle.rule.specs.declared.Reader.{Reader}
use Rattle.rule.specs.Component.{component_at}
use Rattle.rule.specs.Value.{between}
use Rattle.std.specs.Prelude.{Result, Option}
use Rattle.rule.specs.declared.Refusal.{Refusal}
use Rattle.rule.specs.declared.Located.{Located}

-- The reader at a place of a lent value.
abbrev pub reader_at : Family → Bor (List ℕ) → ℕ → ℕ → Reader
reader_at family value at previous = record { family = family; value = value; at = at; previous = previous }

-- What a reader finds at its place.
abbrev pub next_of : Reader → Result (Option Located) Refusal
next_of r = component_at r.family r.value.now r.at r.previous

-- The reader moved behind a component of the type `kind`, or behind the head where `kind` is 0, which ends at `next`.
abbrev pub behind_of : Reader → ℕ → ℕ → Reader
behind_of r kind next = reader_at r.family r.value next kind

-- 01: "hands each body on as a part of the caller's bytes". The body of the component at a place of a lent value, which ends at `next`: the
-- octets behind its type octet, and it begins in the value, at their place there (`ptr` is a block of memory and a place in it).
pub record HandsOn (value : Bor (List ℕ)) (at next : ℕ) (body : Bor (List ℕ)) : Type 0 where
  pub is : body.now ≡ between value.now (at + 1) next
  pub begins : body.ref_ptr ≡ (value.ref_ptr.0, at + 1 + value.ref_ptr.1)
