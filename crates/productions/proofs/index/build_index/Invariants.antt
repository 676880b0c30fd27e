-- `build_index`: the fields that are left give what all of them give.
use Prim.Native.Nat.{◌-◌}
use lib.ListN.{length}
use Rattle.productions.proofs.IndexLaws as laws
use Rattle.productions.proofs.index.build_index.Given as goal

abbrev pub invariant-loop-at : goal.invariant-loop-at
invariant-loop-at l = laws.Building l.table l.initial.owners l.initial.starts l.at l.n l.k l.owners l.starts

abbrev pub decreases-loop-at : goal.decreases-loop-at
decreases-loop-at l = length l.table - l.at
