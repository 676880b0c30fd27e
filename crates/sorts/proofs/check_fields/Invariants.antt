-- `check_fields`: the fields left give what all of them give.
use Prim.Native.Nat.{◌-◌}
use lib.ListN.{length}
use Rattle.sorts.proofs.StepLaws as laws
use Rattle.sorts.proofs.check_fields.Given as goal

abbrev pub invariant-loop-at : goal.invariant-loop-at
invariant-loop-at l = laws.Sorting l.table l.initial.heads l.initial.sorts l.initial.stack l.heads l.sorts l.stack l.at l.known

abbrev pub decreases-loop-at : goal.decreases-loop-at
decreases-loop-at l = length l.table - l.at
