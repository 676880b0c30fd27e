-- `is_whole`: its numbers, one by one.
use Rattle.cases.specs.Cases.{is_whole}
use Rattle.cases.proofs.case.is_whole.Goals as goal

pub returns : goal.returns
unfolding is_whole
returns c = cc
