-- `check_layout`: the fields that are left give what all of them give.
use Prim.Native.Nat.{◌-◌}
use lib.ListN.{length}
use Rattle.layout.specs.Index.{Remembered}
use Rattle.layout.proofs.LawsFields as laws
use Rattle.layout.proofs.check_layout.Given as goal

abbrev pub invariant-loop-tag : goal.invariant-loop-tag
invariant-loop-tag l = laws.Turn l.table l.at l.s × Remembered l.table l.at l.s l.keywords l.outsides

abbrev pub decreases-loop-tag : goal.decreases-loop-tag
decreases-loop-tag l = length l.table - l.at
