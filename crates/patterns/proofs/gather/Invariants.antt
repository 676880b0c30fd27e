-- `gather`: what is found, and the items that are left.
use Prim.Native.Nat.{◌-◌}
use lib.ListN.{length}
use Rattle.patterns.proofs.PatternLaws as laws
use Rattle.patterns.proofs.gather.Given as goal

abbrev pub invariant-loop-s : goal.invariant-loop-s
invariant-loop-s l = laws.Walking l.table l.nulls l.sets l.start l.found l.at

abbrev pub decreases-loop-s : goal.decreases-loop-s
decreases-loop-s l = length l.table - l.at
