-- `add_sort`: one sort more, if there is room.
use Rattle.bodies.proofs.BodyLaws as laws
use Rattle.bodies.proofs.items.add_sort.Goals as goal

pub returns-then-n-lt-MOST_VARIABLES : goal.returns-then-n-lt-MOST_VARIABLES
returns-then-n-lt-MOST_VARIABLES c = search laws.sort_added

pub returns : goal.returns
returns c = search laws.sort_left
