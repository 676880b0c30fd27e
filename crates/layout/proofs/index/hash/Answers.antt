-- `hash`: the bytes that are left give the hash of the whole.
use Rattle.layout.proofs.IndexLaws as laws
use Rattle.layout.proofs.index.hash.Goals as goal

pub loop-i-init : goal.loop-i-init
loop-i-init c = laws.hashing_start

pub loop-i-preserved : goal.loop-i-preserved
loop-i-preserved c = search laws.hashing_next

pub returns : goal.returns
returns c = search laws.hashing_end
