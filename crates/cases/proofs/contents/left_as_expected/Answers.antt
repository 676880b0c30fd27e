-- `left_as_expected`: the cells, and the text.
use Rattle.cases.specs.Cases.{left_as_expected}
use Rattle.cases.proofs.contents.left_as_expected.Goals as goal

pub returns : goal.returns
unfolding left_as_expected
returns c = cc
