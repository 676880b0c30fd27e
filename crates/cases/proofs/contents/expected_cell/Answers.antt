-- `expected_cell`: the number that stands there, or as it was.
use Rattle.cases.specs.Cases.{four_at}
use Rattle.cases.proofs.CaseLaws.{behind_written, numbers_fit, numbers_at}
use Rattle.cases.proofs.contents.expected_cell.Goals as goal

pub returns-then-rows-i : goal.returns-then-rows-i
returns-then-rows-i c = search (behind_written, numbers_fit)

pub returns : goal.returns
unfolding four_at
returns c = cc (numbers_at _ _ _ c.if-rows-i.false)
