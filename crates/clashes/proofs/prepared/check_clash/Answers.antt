-- `check_clash`: the lowest nonterminal with a clash decides.
use Rattle.clashes.proofs.CheckLaws as laws
use Rattle.clashes.proofs.prepared.check_clash.Goals as goal

pub returns-then-n-many : goal.returns-then-n-many
returns-then-n-many c = search laws.clash_refused

pub returns-else-n-many : goal.returns-else-n-many
returns-else-n-many c = search laws.clash_passed
