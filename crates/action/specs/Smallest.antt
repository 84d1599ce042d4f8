-- Which of several rates of a kind is answered, said a second time and with no word of how it is found. 2026-05: "For several rates of a
-- kind, the note is that of the first community, or first matching rule, giving the smallest number." Here `all` are the limits that
-- communities, or matching rules, give in their order, and `l` is the one that is answered.
use Rattle.std.specs.Prelude.{ℕ, ◌<◌, ◌≤◌, ◌≡◌, true, false, List, ◌∷◌, ◌++◌, ◌⊎◌, Option, Some, None}
use Rattle.octets.specs.Test.{Each}
use Rattle.rate.specs.declared.Rate.{Rate}
use Rattle.rate.specs.Rate.{note_number}
use Rattle.action.specs.declared.Limit.{Limit}
use Rattle.action.specs.Limit.{no_limit, limit}

-- The limit that a community's rate gives: its number with its note, and none where it is not a number.
abbrev pub limit_given : Option Rate → Limit
limit_given (Some rate) = limit rate.number (note_number rate.note)
limit_given None = no_limit

-- A limit that is missing gives no number.
abbrev pub Missing : Limit → Type 0
Missing l = l.present ≡ false

-- A limit gives a higher number than this one, or none.
abbrev pub Above : ℕ → Limit → Type 0
Above number l = l.present ≡ true → number < l.number

-- A limit gives a number no lower than this one, or none.
abbrev pub NotBelow : ℕ → Limit → Type 0
NotBelow number l = l.present ≡ true → number ≤ l.number

-- "The first .. giving the smallest number": it is there and is one of them all, those before it are higher, and those behind it no lower.
pub record FirstSmallest (all : List Limit) (l : Limit) : Type 0 where
  pub there : l.present ≡ true
  pub before : List Limit
  pub behind : List Limit
  pub stands : all ≡ before ++ l ∷ behind
  pub higher : Each (Above l.number) before
  pub lowest : Each (NotBelow l.number) behind

-- Of several limits the one answered is the first that gives the smallest number, and is missing where none of them is there.
abbrev pub SmallestOf : List Limit → Limit → Type 0
SmallestOf all l = (Each Missing all × Missing l) ⊎ FirstSmallest all l
