-- `round`: the productions that are left lead to the same sets.
use Rattle.patterns.proofs.PatternLaws as laws
use Rattle.patterns.proofs.round.Goals as goal

pub loop-j-init : goal.loop-j-init
loop-j-init c = laws.joining_start _ _ _ _ _ _

pub loop-j-preserved : goal.loop-j-preserved
loop-j-preserved c = search laws.joining_next

pub shape_of-sets : goal.shape_of-sets
shape_of-sets c = c.loop-j.invariant.as_many

pub returns : goal.returns
returns c = search laws.joining_end
