-- `null_pass`: j of the k steps are done.
use Rattle.firsts.proofs.NeedsLaws as laws
use Rattle.firsts.proofs.nullable.null_pass.Goals as goal

pub loop-j-init : goal.loop-j-init
loop-j-init c = laws.passing_start _ _ _ _ _

pub loop-j-preserved : goal.loop-j-preserved
loop-j-preserved c = search laws.passing_next

pub returns : goal.returns
returns c = search laws.passing_end
