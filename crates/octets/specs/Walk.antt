-- One walk for all that is read step by step and whose steps differ in length: the pairs of a list, the components of a value, the rules of
-- an attribute, the records of a table, the headers of a packet. A step finds an item and says where to go on, or finds the last item, or stops. The walk gives the items in
-- the order found and how it ended. A number of steps bounds it; that enough steps are enough is shown once, beside its laws.
use Rattle.std.specs.Prelude.{ℕ, zero, suc, ◌+◌, List, [], ◌∷◌, length}

-- What one step finds: an item and where to go on; the last item and how the walk ends; no item, and how the walk ends.
pub data Step (S A E : Type 0) : Type 0 where
  more : A → S → Step S A E
  last : A → E → Step S A E
  stop : E → Step S A E

-- What a walk gives.
pub record Walk (A E : Type 0) : Type 0 where
  pub items : List A
  pub ending : E

-- One item before those of a walk.
abbrev pub before : {A E : Type 0} → A → Walk A E → Walk A E
before a w = record { items = a ∷ w.items; ending = w.ending }

-- The walk from a state on, in at most so many steps; the ending `out` stands for too few.
unfoldable pub walk : {S A E : Type 0} → ℕ → E → (S → Step S A E) → S → Walk A E
walk zero out step s = record { items = []; ending = out }
walk (suc n) out step s =
    elim (step s) [
      | more a t ↦ before a (walk n out step t)
      | last a e ↦ record { items = a ∷ []; ending = e }
      | stop e ↦ record { items = []; ending = e }
    ]

-- A walk through octets: a step for each of them and one more, which are enough, since every step moves on, so that the ending `out` never
-- shows: `pairs-any` and `components-any` in `rule`, `walk_any` in `extension`.
abbrev pub through : {S A E : Type 0} → List ℕ → E → (S → Step S A E) → S → Walk A E
through v out step s = walk (length v + 1) out step s
