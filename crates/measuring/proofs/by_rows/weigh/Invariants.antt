-- `weigh`: the rows before the present one have their own bytes.
use Rattle.measuring.proofs.OwnLaws as laws
use Rattle.measuring.proofs.by_rows.weigh.Given as goal

abbrev pub invariant-loop-row : goal.invariant-loop-row
invariant-loop-row l = laws.Weighing l.pool l.cells l.initial.weights l.weights l.row
