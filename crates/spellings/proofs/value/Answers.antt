-- `value`: the bytes passed are worth n, which is not too large.
use Rattle.spellings.proofs.Loops as loops
use Rattle.spellings.proofs.value.Goals as goal

pub loop-d-init : goal.loop-d-init
loop-d-init c = loops.valued_start _

pub returns-then-n-gt-LARGEST : goal.returns-then-n-gt-LARGEST
returns-then-n-gt-LARGEST c = search loops.valued_stop

pub loop-d-preserved : goal.loop-d-preserved
loop-d-preserved c = search loops.valued_next

pub returns : goal.returns
returns c = search loops.valued_end
