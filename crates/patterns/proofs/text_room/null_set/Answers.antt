-- `null_set`: the nonterminals of the nullable productions so far.
use Rattle.patterns.proofs.TextRoomLaws as laws
use Rattle.patterns.proofs.text_room.null_set.Goals as goal

pub loop-j-init : goal.loop-j-init
loop-j-init c = laws.nulling_start _ _ _

pub loop-j-preserved : goal.loop-j-preserved
loop-j-preserved c = search laws.nulling_next

pub returns : goal.returns
returns c = search laws.nulling_end
