-- `sum_rows`: the rows before the present one have their sums.
use Rattle.rows.proofs.SumLaws as laws
use Rattle.rows.proofs.sums.sum_rows.Given as goal

abbrev pub invariant-loop-row : goal.invariant-loop-row
invariant-loop-row l = laws.Passed l.cells l.cap l.initial.sums l.sums l.row
