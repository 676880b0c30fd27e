-- `check_both`: the lower of the two nonterminals with a clash decides.
use Rattle.clashes.proofs.SortsLaws as laws
use Rattle.clashes.proofs.sorts.check_both.Goals as goal

pub returns-then-n-many : goal.returns-then-n-many
returns-then-n-many c = search laws.both_refused

pub returns-else-n-many : goal.returns-else-n-many
returns-else-n-many c = search laws.both_passed
