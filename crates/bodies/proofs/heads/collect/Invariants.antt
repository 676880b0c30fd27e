-- `collect`: the fields left give what all of them give.
use Prim.Native.Nat.{◌-◌}
use lib.ListN.{length}
use Rattle.bodies.proofs.CollectLaws as laws
use Rattle.bodies.proofs.heads.collect.Given as goal

abbrev pub invariant-loop-at : goal.invariant-loop-at
invariant-loop-at l = laws.Collecting l.table l.block l.from l.initial.heads l.at l.heads

abbrev pub decreases-loop-at : goal.decreases-loop-at
decreases-loop-at l = length l.table - l.at
