-- `second`: the bytes left give what all give.
use Rattle.lexicon.proofs.PathLaws as laws
use Rattle.lexicon.proofs.trees.second.Goals as goal

pub loop-b-preserved : goal.loop-b-preserved
loop-b-preserved c = search laws.mixing_next

pub returns : goal.returns
returns c = search laws.mixing_end
