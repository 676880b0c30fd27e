-- `same_cells`: the cells are as expected in the numbers passed.
use Rattle.cases.proofs.CaseLaws.{left_longer, left_start, left_next, left_stop, left_end, numbers_fit, numbers_exceed}
use Rattle.cases.proofs.contents.same_cells.Goals as goal

pub returns-then-cells-rows : goal.returns-then-cells-rows
returns-then-cells-rows c = search (left_longer, numbers_exceed)

pub loop-i-init : goal.loop-i-init
loop-i-init c = search (left_start, numbers_fit)

pub returns-then-cell-expected_cell : goal.returns-then-cell-expected_cell
returns-then-cell-expected_cell c =
    left_stop c.loop-i.invariant c.loop-i-test.true c.expected_cell.ensures c.if-cell-expected_cell.true

pub loop-i-preserved : goal.loop-i-preserved
loop-i-preserved c =
    left_next c.loop-i.invariant c.loop-i-test.true c.expected_cell.ensures c.if-cell-expected_cell.false

pub returns : goal.returns
returns c = left_end c.loop-i.invariant c.loop-i-test.false
