use Prim.Native.Nat.{◌-◌}
use lib.ListN.{length}
use Rattle.answers.proofs.ListLaws.{Printing}
use Rattle.answers.proofs.put_records.Given as goal

abbrev pub invariant-loop-next : goal.invariant-loop-next
invariant-loop-next l = Printing l.table l.initial.out l.at l.place l.out l.end

abbrev pub decreases-loop-next : goal.decreases-loop-next
decreases-loop-next l = length l.table - l.place
