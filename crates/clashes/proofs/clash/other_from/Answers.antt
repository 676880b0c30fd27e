-- `other_from`: the test decides.
use Rattle.clashes.proofs.PairsLaws as laws
use Rattle.clashes.proofs.clash.other_from.Goals as goal

pub returns-then-found : goal.returns-then-found
returns-then-found c = search laws.other_first

pub returns-else-found : goal.returns-else-found
returns-else-found c = search laws.other_none
