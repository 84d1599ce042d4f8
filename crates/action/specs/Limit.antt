-- Rates that actions limit to (RFC 8955 sections 7.1 and 7.2), each with its note (rate/specs/Rate.antt). A rate may be missing, as a rule need
-- not limit; it then stands as 0 with note 0, and a present 0, which drops, is another thing.
use Rattle.std.specs.Prelude.{ℕ, Bool, true, false, cond, not, ◌&&◌, ◌||◌, leb, eqb}
use Rattle.rate.specs.Rate.{rate_given}
use Rattle.action.specs.declared.Limit.{Limit}

-- No limit.
abbrev pub no_limit : Limit
no_limit = record { present = false; number = 0; note = 0 }

-- A limit that is there, with its note.
abbrev pub limit : ℕ → ℕ → Limit
limit number note = record { present = true; number = number; note = note }

-- 01: "smallest rate of each kind": the first of two where it is there and the second is missing or no smaller, else the second. 2026-05:
-- "the note is that of the first community, or first matching rule, giving the smallest number".
unfoldable pub smaller_of : Limit → Limit → Limit
smaller_of a b = cond (a.present && (not b.present || leb a.number b.number)) a b

-- 01: "a rate no single gives is unsound": a limit that is there is a number that some single gives with this note, and one that is missing
-- is 0 and has no note.
unfoldable pub could_be_limit : Limit → Bool
could_be_limit l = cond l.present (rate_given l.number l.note) (eqb l.number 0 && eqb l.note 0)
