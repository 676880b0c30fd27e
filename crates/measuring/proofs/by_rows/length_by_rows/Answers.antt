-- `length_by_rows`: the length that a pass tells, or a walk.
use Rattle.measuring.proofs.OwnLaws as laws
use Rattle.measuring.proofs.by_rows.length_by_rows.Goals as goal

pub returns-in-Some : goal.returns-in-Some
returns-in-Some c = search laws.length_told
