-- `expected_at`: the number and the values, one by one.
use Rattle.cases.proofs.case.expected_at.Goals as goal

pub returns : goal.returns
returns c = cc
