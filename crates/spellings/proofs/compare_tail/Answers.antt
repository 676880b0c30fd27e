-- `compare_tail`: the bytes passed agree.
use Rattle.spellings.proofs.Comparing as laws
use Rattle.spellings.proofs.compare_tail.Goals as goal

pub loop-i-init : goal.loop-i-init
loop-i-init c = search laws.tailing_start

pub returns-then-a-i : goal.returns-then-a-i
returns-then-a-i c = search laws.tailing_stop

pub loop-i-preserved : goal.loop-i-preserved
loop-i-preserved c = search laws.tailing_next

pub returns : goal.returns
returns c = search laws.tailing_end
