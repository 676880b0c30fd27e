-- `first_round`: the productions that are left lead to the same sets.
use Rattle.firsts.proofs.StepLaws as laws
use Rattle.firsts.proofs.sets.first_round.Goals as goal

pub loop-j-init : goal.loop-j-init
loop-j-init c = laws.joining_start _ _ _ _ _ _ _

pub loop-j-preserved : goal.loop-j-preserved
loop-j-preserved c = search laws.joining_next

pub shape_of-kinds : goal.shape_of-kinds
shape_of-kinds c = c.loop-j.invariant.kinds_many

pub shape_of-calls : goal.shape_of-calls
shape_of-calls c = c.loop-j.invariant.calls_many

pub returns : goal.returns
returns c = search laws.joining_end
