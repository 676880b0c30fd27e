-- `differing`: field by field, until a label stood earlier.
use Rattle.labels.proofs.StampLaws as laws
use Rattle.labels.proofs.differing.Goals as goal

pub loop-count-init : goal.loop-count-init
loop-count-init c = search laws.counting_start

pub returns-then-code-ne-FIELD_CONS : goal.returns-then-code-ne-FIELD_CONS
returns-then-code-ne-FIELD_CONS c = search laws.counting_nil

pub put_stamp-again-requires : goal.put_stamp-again-requires
put_stamp-again-requires c = search laws.counting_inside

pub returns-then-again : goal.returns-then-again
returns-then-again c = search laws.counting_again

pub loop-count-preserved : goal.loop-count-preserved
loop-count-preserved c = search laws.counting_next

pub returns : goal.returns
returns c = search laws.counting_end
