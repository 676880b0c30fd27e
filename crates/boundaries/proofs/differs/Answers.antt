-- `differs`: the comparison of their numbers and values.
use Rattle.boundaries.proofs.differs.Goals as goal

pub returns : goal.returns
returns c = cc
