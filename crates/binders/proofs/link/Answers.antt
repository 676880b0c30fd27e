-- `link`: rows before the present one are linked.
use Rattle.binders.proofs.LinkLaws as laws
use Rattle.binders.proofs.link.Goals as goal

pub loop-row-preserved : goal.loop-row-preserved
loop-row-preserved c = search laws.add_row
