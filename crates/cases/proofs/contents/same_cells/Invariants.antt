-- `same_cells`: the cells are as expected in the numbers passed.
use Rattle.cases.specs.Cases.{numbers_in, untouched_cell}
use Rattle.cases.proofs.CaseLaws.{Left}
use Rattle.cases.proofs.contents.same_cells.Given as goal

abbrev pub invariant-loop-i : goal.invariant-loop-i
invariant-loop-i l = Left (numbers_in l.rows) untouched_cell l.cells l.i
