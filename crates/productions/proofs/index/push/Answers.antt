-- `push`: the entry behind the first k is one production more.
use Rattle.productions.proofs.IndexLaws as laws
use Rattle.productions.proofs.index.push.Goals as goal

pub returns : goal.returns
returns c = laws.push_is _ _ _ _ _ c.requires
