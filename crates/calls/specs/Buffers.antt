-- The buffers that each call is lent, by the header's names (include/flowspec.h) and in its order: octets, and 32-bit or, in `out`, 64-bit
-- words. One record says what they hold when the call begins and, again, what they hold when it ends.
use Rattle.std.specs.Prelude.{ℕ, List}

-- Those of `read`.
pub record ReadBuffers : Type 0 where
  pub rule : List ℕ
  pub out : List ℕ

-- Those of `write`: the rule is written to the front of `buf`.
pub record WriteBuffers : Type 0 where
  pub value : List ℕ
  pub buf : List ℕ
  pub out : List ℕ

-- Those of `compare`: two rules, `a` and `b`.
pub record CompareBuffers : Type 0 where
  pub a : List ℕ
  pub b : List ℕ
  pub out : List ℕ

-- Those of `feasible`, none of which is written.
pub record FeasibleBuffers : Type 0 where
  pub routes : List ℕ
  pub rule : List ℕ

-- Those of `actions`.
pub record ActionsBuffers : Type 0 where
  pub communities : List ℕ
  pub out : List ℕ

-- Those of `announce`: `out` has the notes.
pub record AnnounceBuffers : Type 0 where
  pub table : List ℕ
  pub routes : List ℕ
  pub rule : List ℕ
  pub communities : List ℕ
  pub out : List ℕ

-- Those of `withdraw`, of which `table` alone is written.
pub record WithdrawBuffers : Type 0 where
  pub table : List ℕ
  pub rule : List ℕ

-- Those of `reach`: `answers` lists a number for each rule, and `out` has their count and the notes.
pub record ReachBuffers : Type 0 where
  pub table : List ℕ
  pub routes : List ℕ
  pub attribute : List ℕ
  pub communities : List ℕ
  pub answers : List ℕ
  pub out : List ℕ

-- Those of `unreach`: `out` has the count alone.
pub record UnreachBuffers : Type 0 where
  pub table : List ℕ
  pub attribute : List ℕ
  pub answers : List ℕ
  pub out : List ℕ

-- Those of `lookup` and of `first_match`.
pub record LookupBuffers : Type 0 where
  pub table : List ℕ
  pub packet : List ℕ
  pub out : List ℕ
