-- `search_in`: the walk from the front.
use Rattle.labels.proofs.WholeLaws as laws
use Rattle.labels.proofs.search_in.Goals as goal

pub returns-then-found : goal.returns-then-found
returns-then-found g c = search laws.found_at

pub returns-else-found : goal.returns-else-found
returns-else-found g c = search laws.found_none
