-- `differing`: field by field, until a label stood earlier.
use Rattle.labels.proofs.StampLaws as laws
use Rattle.labels.proofs.differing.Given as goal

abbrev pub invariant-loop-count : goal.invariant-loop-count
invariant-loop-count l = laws.Counting l.cells l.bound l.row l.stamp l.initial.stamps l.count l.part l.stamps
