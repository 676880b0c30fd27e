-- `lay_case`: a case that is as expected has no line.
use Rattle.comparison.proofs.ComparingLaws.{unlaid}
use Rattle.comparison.proofs.lay_case.Goals as goal

pub returns-in_err-found-clause-lays : goal.returns-in_err-found-clause-lays
returns-in_err-found-clause-lays c = unlaid _ _ _ _ c.compare.ensures c.in_err-found.was c.from_residual.ensures
