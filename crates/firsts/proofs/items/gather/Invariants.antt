-- `gather`: what is found, and the items that are left.
use Prim.Native.Nat.{◌-◌}
use lib.ListN.{length}
use Rattle.firsts.proofs.ItemsLaws as laws
use Rattle.firsts.proofs.items.gather.Given as goal

abbrev pub invariant-loop-s : goal.invariant-loop-s
invariant-loop-s l = laws.Walking l.table l.nulls l.kinds l.calls l.start l.found l.at

abbrev pub decreases-loop-s : goal.decreases-loop-s
decreases-loop-s l = length l.table - l.at
