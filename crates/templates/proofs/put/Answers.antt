-- `put`: a value in the array, or one that no template names.
use Rattle.templates.proofs.VariableLaws as laws
use Rattle.templates.proofs.put.Goals as goal

pub returns-then-k-lt-MOST_VARIABLES : goal.returns-then-k-lt-MOST_VARIABLES
returns-then-k-lt-MOST_VARIABLES c = search laws.put_inside

pub returns-else-k-lt-MOST_VARIABLES : goal.returns-else-k-lt-MOST_VARIABLES
returns-else-k-lt-MOST_VARIABLES c = search laws.put_outside
