-- `sum_rows`: the rows before the present one have their sums.
use Rattle.rows.proofs.SumLaws as laws
use Rattle.rows.proofs.sums.sum_rows.Goals as goal

pub loop-row-init : goal.loop-row-init
loop-row-init c = laws.passed_start

pub returns-then-not-ordered : goal.returns-then-not-ordered
returns-then-not-ordered c = search laws.passed_stop

pub loop-row-preserved : goal.loop-row-preserved
loop-row-preserved c = search laws.passed_next
