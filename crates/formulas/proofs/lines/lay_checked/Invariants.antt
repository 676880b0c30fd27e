-- `lay_checked`: the lines told and those that are left are the lines of the input.
use Prim.Native.Nat.{◌-◌}
use lib.ListN.{length}
use Rattle.formulas.proofs.LineLaws as laws
use Rattle.formulas.proofs.lines.lay_checked.Given as goal

abbrev pub invariant-loop-at : goal.invariant-loop-at
invariant-loop-at l = laws.Telling l.table l.input l.from l.initial.out l.out l.at l.n

abbrev pub decreases-loop-at : goal.decreases-loop-at
decreases-loop-at l = length l.input - l.at
