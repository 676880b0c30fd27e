-- `mix_front`: what is left gives what the whole gives.
use Rattle.lexicon.proofs.HashLaws as laws
use Rattle.lexicon.proofs.trees.mix_front.Goals as goal

pub loop-i-preserved : goal.loop-i-preserved
loop-i-preserved c = search laws.chunking_next

pub returns : goal.returns
returns c = laws.chunking_end c.loop-i.invariant c.loop-i-test.false
