-- `size_by_rows`: the size that a pass tells, or a walk.
use Rattle.rows.proofs.SizeLaws as laws
use Rattle.rows.proofs.sizes.size_by_rows.Goals as goal

pub returns-in-Some : goal.returns-in-Some
returns-in-Some c = search laws.size_told
