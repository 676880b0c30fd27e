-- `tally_cases`: what is left gives what the whole file gives.
use Prim.Native.Nat.{◌-◌}
use lib.ListN.{length}
use Rattle.cases.proofs.TallyLaws.{Tallying}
use Rattle.comparison.specs.Comparing.{counts}
use Rattle.comparison.proofs.tally_cases.Given as goal

abbrev pub invariant-loop-case : goal.invariant-loop-case
invariant-loop-case g l = Tallying (counts l.compares l.file) l.file l.at l.cases l.differ

abbrev pub decreases-loop-case : goal.decreases-loop-case
decreases-loop-case g l = length l.file - l.at
