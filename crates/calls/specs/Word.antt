-- The one word that a call returns, and what it leaves in `out`, by what the door's answer says in 01's terms (flowspec/specs/Told.antt);
-- what the numbers that a call is handed beside its buffers say at the door; and the number of the interface itself.
use Rattle.std.specs.Prelude.{ℕ, ◌+◌, ◌*◌, ◌^◌, ◌≡◌, cond, not, List, eqb}
use Rattle.route.specs.declared.Settings.{Settings}
use Rattle.request.specs.Input.{settings_of}
use Rattle.flowspec.specs.Told.{Told}

-- The number stands in the low 32 bits and the place in the high 32: a number is at most 19 (rule/proofs/Near.antt) and a place at most
-- 4,095 (proofs/Places.antt), so the halves are told apart (proofs/Halves.antt).
abbrev pub word : ℕ → ℕ → ℕ
word number place = number + place * 2 ^ 32

-- The word of an answer.
abbrev pub word_of : Told → ℕ
word_of a = word a.number a.place

-- What `out` holds at exit: the values where the call grants what it was asked, and what it held at entry where it is refused, since a
-- refusal changes nothing (docs/DECISIONS.md, Refused and done in one word).
abbrev pub out_after : Told → List ℕ → List ℕ
out_after a out = cond a.grants a.values out

-- A caller in C sees the number alone, and that tells whether `out` was set: it is 0 exactly where the call grants what it was asked. That this
-- holds of every call with an `out` is shown in proofs/NumberLaws.antt.
abbrev pub NumberTells : Told → Type 0
NumberTells a = a.grants ≡ eqb a.number 0

-- The header's `allow_no_destination`: 0 is off and any other number on. 01: "A setting may allow rules with no destination".
abbrev pub settings_in : ℕ → Settings
settings_in allow = settings_of (not (eqb allow 0))

-- The number of the interface for C: 5 of 2026-05, the request that last changed a parameter of a call or the words of an `out`. A request that
-- changes them again raises it.
abbrev pub interface_number : ℕ
interface_number = 5
