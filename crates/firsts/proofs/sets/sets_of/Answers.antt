-- `sets_of`: one round, then the closure.
use Rattle.firsts.proofs.StepLaws as laws
use Rattle.firsts.proofs.ClosedSets as closed
use Rattle.firsts.proofs.sets.sets_of.Goals as goal

pub close-requires : goal.close-requires
close-requires c = search laws.round_closable

pub returns : goal.returns
returns c = search closed.closed_sets
