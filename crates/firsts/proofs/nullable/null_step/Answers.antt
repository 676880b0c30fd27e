-- `null_step`: by the test.
use Rattle.firsts.proofs.NeedsLaws as laws
use Rattle.firsts.proofs.nullable.null_step.Goals as goal

pub returns-then-with-nulls : goal.returns-then-with-nulls
returns-then-with-nulls c = search laws.need_taken

pub returns-else-with-nulls : goal.returns-else-with-nulls
returns-else-with-nulls c = search laws.need_left
